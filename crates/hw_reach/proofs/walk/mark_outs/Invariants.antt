use Rattle.hw_reach.specs.Marking.{Marks, OfOuts}
use Rattle.hw_reach.proofs.walk.mark_outs.Given as goal

abbrev pub invariant-loop-port : goal.invariant-loop-port
invariant-loop-port l = Marks (OfOuts l.outs l.port) l.initial.marks l.marks
