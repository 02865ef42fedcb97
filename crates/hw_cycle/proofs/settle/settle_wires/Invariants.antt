use Rattle.std.proofs.Common.{ℕ}
use Rattle.hw_module.specs.Cycle.{Held}
use Rattle.hw_cycle.specs.Levels.{NodesDone, WiresDone}
use Rattle.hw_cycle.proofs.settle.settle_wires.Given as goal

abbrev pub invariant-loop-w : goal.invariant-loop-w
invariant-loop-w l =
    (s : Held) (ins : ℕ → ℕ) → NodesDone l.m l.pool.nodes s ins l.marks l.level 0 l.values → WiresDone l.m l.pool.nodes s ins l.marks l.level 0 l.fn.wires
    → WiresDone l.m l.pool.nodes s ins l.marks l.level l.w l.wires
