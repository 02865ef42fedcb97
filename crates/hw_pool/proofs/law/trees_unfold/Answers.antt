use Rattle.hw_pool.proofs.Trees.{tree-here}
use Rattle.hw_pool.proofs.law.trees_unfold.Goals as goal

pub returns : goal.returns
returns c = tree-here
