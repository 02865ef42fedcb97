use Rattle.module_agree.proofs.Runs.{runs_same, outs_same}
use Rattle.module_agree.proofs.law.agreeing_modules_are_one.Goals as goal

pub returns-clause-regs : goal.returns-clause-regs
returns-clause-regs c = λ m pool m' nodes' is checked same agree s start ins inputs k. (runs_same m pool m' nodes' is checked agree s start ins inputs k).regs

pub returns-clause-cells : goal.returns-clause-cells
returns-clause-cells c = λ m pool m' nodes' is checked same agree s start ins inputs k. (runs_same m pool m' nodes' is checked agree s start ins inputs k).cells

pub returns-clause-outs : goal.returns-clause-outs
returns-clause-outs c = λ m pool m' nodes' is checked same agree. outs_same m pool m' nodes' is checked agree
