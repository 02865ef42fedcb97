use Rattle.plug_branch.proofs.Keeps.{keeps_law}
use Rattle.plug_branch.proofs.law.branch_keeps_its_law.Goals as goal

pub returns : goal.returns
returns c = record { law = keeps_law }
