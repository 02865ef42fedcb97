-- The parts of this kind meet their laws.
use Rattle.std.proofs.Common.{ℕ, suc, eqb, ap}
use Rattle.hw_pool.specs.Meaning.{Env}
use Rattle.plug_part.specs.Part.{Part}
use Rattle.plug_part.specs.Signals.{exec_signals}
use Rattle.plug_part.proofs.OneService.{exec_alone}
use Rattle.plug_fencei.specs.Law.{IsFencing}
use Rattle.plug_fencei.specs.Builds.{BuildsFencei, FenceiPartsMeetLaws}
use Rattle.plug_fencei.proofs.Keeps.{keeps_law}

is_fencing : (p : Part) (builds : BuildsFencei p) (run : ℕ → Env) → IsFencing (exec_signals builds.ports run)
is_fencing p builds run = record {
  done = λ s. ap (λ n. eqb n 1) (builds.done (run (suc s)));
  next_pc = λ s. builds.next_pc (run (suc s));
  trap = λ s. ap (λ n. eqb n 1) (builds.trap (run (suc s)));
  fence = λ s. ap (λ n. eqb n 1) (builds.fence (run (suc s)));
}

pub parts_meet_laws : FenceiPartsMeetLaws
parts_meet_laws g p builds table_is own free =
    exec_alone g p builds.ports builds.only
    (λ run is mem csrs. keeps_law g.set g.terms (exec_signals builds.ports run) _ mem csrs _ table_is own free (is_fencing p builds run))
