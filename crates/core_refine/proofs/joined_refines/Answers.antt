use Rattle.core_refine.proofs.Refined.{refined}
use Rattle.core_refine.proofs.joined_refines.Goals as goal

pub returns : goal.returns
returns c = record { refines = refined }
