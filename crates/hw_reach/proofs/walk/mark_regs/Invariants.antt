use Rattle.hw_reach.specs.Marking.{Marks, OfRegs}
use Rattle.hw_reach.proofs.walk.mark_regs.Given as goal

abbrev pub invariant-loop-r : goal.invariant-loop-r
invariant-loop-r l = Marks (OfRegs l.rows l.r) l.initial.marks l.marks
