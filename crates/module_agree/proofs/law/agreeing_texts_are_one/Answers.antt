use Rattle.module_agree.proofs.Texts.{starts_same, zeros_same, outs_same, ports_same}
use Rattle.module_agree.proofs.law.agreeing_texts_are_one.Goals as goal

pub returns-clause-start : goal.returns-clause-start
returns-clause-start c = starts_same

pub returns-clause-zeros : goal.returns-clause-zeros
returns-clause-zeros c = zeros_same

pub returns-clause-outs : goal.returns-clause-outs
returns-clause-outs c = outs_same

pub returns-clause-ports : goal.returns-clause-ports
returns-clause-ports c = ports_same
