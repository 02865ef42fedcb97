use Rattle.hw_module.specs.Driven.{RegsDriven}
use Rattle.hw_module.proofs.check.open_reg.Given as goal

abbrev pub invariant-loop-k : goal.invariant-loop-k
invariant-loop-k l = RegsDriven l.rows l.k
