use Rattle.tree_bounds.proofs.Trees.{text_written, text_size, text_bounded}
use Rattle.tree_bounds.proofs.law.text_trees_are_bounded.Goals as goal

-- src/law.rt:9:1
pub returns : goal.returns
returns c = record { written = text_written; size = text_size; bounded = text_bounded }
