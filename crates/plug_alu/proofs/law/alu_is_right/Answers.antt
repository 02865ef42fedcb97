use Rattle.plug_alu.proofs.Rows.{right}
use Rattle.plug_alu.proofs.law.alu_is_right.Goals as goal

pub returns : goal.returns
returns c = record { value = right }
