use Rattle.stage_map.proofs.Refused.{fault_excludes}
use Rattle.stage_map.proofs.law.faults_exclude.Goals as goal

pub returns : goal.returns
returns c = fault_excludes
