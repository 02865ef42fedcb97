-- The parts of this kind meet their laws.
use Rattle.std.proofs.Common.{ℕ, suc, eqb, get_or, ap}
use Rattle.hw_pool.specs.Meaning.{Env}
use Rattle.plug_part.specs.Part.{Part}
use Rattle.plug_part.specs.Runs.{IsPartRun}
use Rattle.plug_part.specs.Signals.{exec_signals}
use Rattle.plug_part.proofs.Things.{wire_fits}
use Rattle.plug_part.proofs.OneService.{exec_alone}
use Rattle.plug_branch.specs.Law.{IsBranch}
use Rattle.plug_branch.specs.Builds.{BuildsBranch, BranchPartsMeetLaws}
use Rattle.plug_branch.proofs.Keeps.{keeps_law}

module _ (p : Part) (builds : BuildsBranch p) (run : ℕ → Env) (is : IsPartRun p run) where
  is_branch : IsBranch (exec_signals builds.ports run)
  is_branch = record {
    done = λ s. ap (λ n. eqb n 1) (builds.done (run (suc s)));
    value = λ s. builds.result (run (suc s));
    next_pc = λ s. builds.next_pc (run (suc s));
    trap = λ s. ap (λ n. eqb n 1) (builds.trap (run (suc s)));
    cause = λ s. builds.cause (run (suc s));
    tval = λ s. builds.tval (run (suc s));
    fence = λ s. ap (λ n. eqb n 1) (builds.fence (run (suc s)));
    a_fits = λ s. wire_fits p run is (get_or builds.ports.inputs 4 0) 32 builds.a (suc s);
    b_fits = λ s. wire_fits p run is (get_or builds.ports.inputs 5 0) 32 builds.b (suc s);
  }

pub parts_meet_laws : BranchPartsMeetLaws
parts_meet_laws g p builds table_is own free =
    exec_alone g p builds.ports builds.only
    (λ run is mem csrs. keeps_law g.set g.terms (exec_signals builds.ports run) _ mem csrs _ table_is own free (is_branch p builds run is))
