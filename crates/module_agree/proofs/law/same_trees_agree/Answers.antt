use Rattle.module_agree.proofs.Same.{contents_same, cycles_agree}
use Rattle.module_agree.proofs.law.same_trees_agree.Goals as goal

pub returns-clause-contents : goal.returns-clause-contents
returns-clause-contents c = contents_same

pub returns-clause-cycles : goal.returns-clause-cycles
returns-clause-cycles c = cycles_agree
