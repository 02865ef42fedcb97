use Rattle.module_agree.proofs.Kept.{grown_keeps}
use Rattle.module_agree.proofs.law.grown_modules_keep_trees.Goals as goal

pub returns : goal.returns
returns c = grown_keeps
