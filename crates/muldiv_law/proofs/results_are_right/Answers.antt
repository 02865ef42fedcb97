use Rattle.muldiv_law.proofs.Rows.{right}
use Rattle.muldiv_law.proofs.results_are_right.Goals as goal

pub returns : goal.returns
returns c = record { law = right }
