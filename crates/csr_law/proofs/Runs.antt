-- The unit has a run for all inputs.
use Rattle.std.proofs.Common.{refl}
use Rattle.csr_law.specs.Machine.{any, old, refused, there}
use Rattle.csr_law.specs.Runs.{CsrHasRuns, at}

pub has_runs : CsrHasRuns
unfolding at any old there refused
has_runs misa i = record {
  reset = refl;
  on = λ s. refl;
  was = λ s. refl;
  soft = λ s. refl;
  timer = λ s. refl;
  outer = λ s. refl;
  tvec = λ s. refl;
  epc = λ s. refl;
  scratch = λ s. refl;
  cause = λ s. refl;
  tval = λ s. refl;
  done = λ s. refl;
  value = λ s. refl;
  next_pc = λ s. refl;
  trap = λ s. refl;
  illegal = λ s. refl;
  its_word = λ s. refl;
  fence = λ s. refl;
  take_irq = λ s. refl;
  irq_cause = λ s. refl;
  base = λ s. refl;
}
