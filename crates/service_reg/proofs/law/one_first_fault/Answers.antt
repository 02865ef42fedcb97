use Rattle.service_reg.proofs.Refused.{one_first}
use Rattle.service_reg.proofs.law.one_first_fault.Goals as goal

pub returns : goal.returns
returns c = one_first
