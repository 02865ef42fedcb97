use Rattle.verilog_tree.proofs.ModuleIsRead.{one_tree}
use Rattle.verilog_tree.proofs.law.text_has_one_tree.Goals as goal

-- src/law.rt:6:1
pub returns : goal.returns
returns c = one_tree
