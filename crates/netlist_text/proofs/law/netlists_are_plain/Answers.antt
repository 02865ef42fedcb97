use Rattle.netlist_text.proofs.Plain.{tree_plain}
use Rattle.netlist_text.proofs.law.netlists_are_plain.Goals as goal

-- src/law.rt:16:1
pub returns : goal.returns
returns c = tree_plain
