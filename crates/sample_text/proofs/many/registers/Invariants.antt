use Rattle.hw_pool.specs.Nodes.{PoolValue}
use Rattle.hw_module.specs.Checked.{DriversFit}
use Rattle.sample_text.proofs.many.registers.Given as goal

abbrev pub invariant-loop-k : goal.invariant-loop-k
invariant-loop-k l = (pool : PoolValue) → DriversFit l.m pool
