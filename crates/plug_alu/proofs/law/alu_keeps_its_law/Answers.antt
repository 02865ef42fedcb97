use Rattle.plug_alu.proofs.Keeps.{keeps_law}
use Rattle.plug_alu.proofs.law.alu_keeps_its_law.Goals as goal

pub returns : goal.returns
returns c = record { law = keeps_law }
