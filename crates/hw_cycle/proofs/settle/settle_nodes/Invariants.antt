use Rattle.hw_cycle.specs.State.{held_in}
use Rattle.hw_cycle.specs.Inputs.{ins_of}
use Rattle.hw_cycle.specs.Levels.{NodesDone}
use Rattle.hw_cycle.proofs.settle.settle_nodes.Given as goal

abbrev pub invariant-loop-k : goal.invariant-loop-k
invariant-loop-k l = NodesDone l.m l.pool.nodes (held_in l.taken.regs.now l.taken.cells.now) (ins_of l.taken.ins.now) l.order.marks.now l.level l.k l.values
