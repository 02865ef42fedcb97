use Rattle.hw_cycle.specs.Levels.{AreTops}
use Rattle.hw_cycle.proofs.settle.find_tops.Given as goal

abbrev pub invariant-loop-k : goal.invariant-loop-k
invariant-loop-k l = AreTops l.m l.pool.nodes l.marks l.k l.tops
