use Rattle.stage_map.proofs.Unique.{one_fault}
use Rattle.stage_map.proofs.law.one_first_fault.Goals as goal

pub returns : goal.returns
returns c = one_fault
