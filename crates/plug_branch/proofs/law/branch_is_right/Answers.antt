use Rattle.plug_branch.proofs.Rows.{right}
use Rattle.plug_branch.proofs.law.branch_is_right.Goals as goal

pub returns : goal.returns
returns c = record { effect = right }
