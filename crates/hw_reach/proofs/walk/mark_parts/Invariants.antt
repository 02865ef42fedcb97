use Rattle.std.proofs.Common.{◌-◌}
use Rattle.hw_reach.specs.Marking.{Closes}
use Rattle.hw_reach.proofs.walk.mark_parts.Given as goal

abbrev pub invariant-loop-done : goal.invariant-loop-done
invariant-loop-done l = Closes l.pool.nodes (l.live - l.«done») l.initial.marks l.marks
