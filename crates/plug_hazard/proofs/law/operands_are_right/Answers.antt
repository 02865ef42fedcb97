use Rattle.plug_hazard.proofs.Chooses.{chooses}
use Rattle.plug_hazard.proofs.law.operands_are_right.Goals as goal

pub returns : goal.returns
returns c = record { chosen = chooses }
