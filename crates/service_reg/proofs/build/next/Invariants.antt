use Rattle.service_reg.specs.Search.{AllBlocked}
use Rattle.service_reg.proofs.build.next.Given as goal

abbrev pub invariant-loop-x : goal.invariant-loop-x
invariant-loop-x l = AllBlocked l.specs l.placed l.x
