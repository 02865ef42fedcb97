use Rattle.part_laws.proofs.Laws.{laws_of_run as of_run}
use Rattle.part_laws.proofs.laws_of_run.Goals as goal

pub returns : goal.returns
returns c = record { laws = of_run }
