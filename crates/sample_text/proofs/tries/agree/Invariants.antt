use Rattle.sample_text.specs.Poked.{IsOf}
use Rattle.sample_text.proofs.tries.agree.Given as goal

abbrev pub invariant-loop-k : goal.invariant-loop-k
invariant-loop-k l = IsOf l.cycle l.sample.circuit l.sample.pool
