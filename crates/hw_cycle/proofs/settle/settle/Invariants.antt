use Rattle.std.proofs.Common.{◌-◌, ◌^◌}
use Rattle.hw_cycle.specs.State.{held_in}
use Rattle.hw_cycle.specs.Inputs.{ins_of}
use Rattle.hw_cycle.specs.Levels.{NodesDone, WiresDone}
use Rattle.hw_cycle.proofs.settle.settle.Given as goal

abbrev pub invariant-levels : goal.invariant-levels
invariant-levels l = record {
  wires : WiresDone l.m l.pool.nodes (held_in l.taken.regs.now l.taken.cells.now) (ins_of l.taken.ins.now) l.order.marks.now l.level 0 l.wires;
  nodes : NodesDone l.m l.pool.nodes (held_in l.taken.regs.now l.taken.cells.now) (ins_of l.taken.ins.now) l.order.marks.now l.level 0 l.values;
}

abbrev pub decreases-levels : goal.decreases-levels
decreases-levels l = 2 ^ 32 - l.level
