use Rattle.verilog_tree.proofs.Readings.{read_text-is, read_text-reads}
use Rattle.verilog_tree.proofs.law.tree_is_computed.Goals as goal

pub returns : goal.returns
returns c = λ bytes t. (read_text-is bytes t, λ h. (read_text-reads bytes t h).0)
