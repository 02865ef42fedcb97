use Rattle.hw_module.specs.Driven.{WiresDriven}
use Rattle.hw_module.proofs.check.open_wire.Given as goal

abbrev pub invariant-loop-k : goal.invariant-loop-k
invariant-loop-k l = WiresDriven l.rows l.k
