use Rattle.plug_muldiv.proofs.Ends.{rows_end}
use Rattle.plug_muldiv.proofs.law.muldiv_is_right.Goals as goal

pub returns : goal.returns
returns c = record { law = rows_end }
