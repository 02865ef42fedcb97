use Rattle.service_reg.proofs.Refused.{fault_excludes}
use Rattle.service_reg.proofs.law.faults_exclude.Goals as goal

pub returns : goal.returns
returns c = fault_excludes
