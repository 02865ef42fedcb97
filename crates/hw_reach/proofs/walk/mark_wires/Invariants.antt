use Rattle.hw_reach.specs.Marking.{Marks, OfWires}
use Rattle.hw_reach.proofs.walk.mark_wires.Given as goal

abbrev pub invariant-loop-w : goal.invariant-loop-w
invariant-loop-w l = Marks (OfWires l.rows l.w) l.initial.marks l.marks
