use Rattle.hw_module.specs.Driven.{ArraysDriven}
use Rattle.hw_module.proofs.check.open_array.Given as goal

abbrev pub invariant-loop-k : goal.invariant-loop-k
invariant-loop-k l = ArraysDriven l.rows l.k
