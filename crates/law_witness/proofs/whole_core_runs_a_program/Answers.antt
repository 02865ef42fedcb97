use Rattle.law_witness.proofs.Runs.{runs_program}
use Rattle.law_witness.proofs.whole_core_runs_a_program.Goals as goal

pub returns : goal.returns
returns c = record { program = runs_program }
