use Rattle.hw_reach.specs.Marking.{Marks, OfArrays}
use Rattle.hw_reach.proofs.walk.mark_arrays.Given as goal

abbrev pub invariant-loop-a : goal.invariant-loop-a
invariant-loop-a l = Marks (OfArrays l.rows l.a) l.initial.marks l.marks
