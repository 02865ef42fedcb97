use Rattle.bus_law.proofs.Runs.{run_is_honest}
use Rattle.bus_law.proofs.RunsInTime.{run_is_within}
use Rattle.bus_law.proofs.laws.answers_are_honest.Goals as goal

pub returns : goal.returns
returns c = record { honest = run_is_honest; within = run_is_within }
