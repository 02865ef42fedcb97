use Rattle.service_reg.specs.Services.{NoLoopBelow}
use Rattle.service_reg.proofs.stand.first_loop.Given as goal

abbrev pub invariant-loop-x : goal.invariant-loop-x
invariant-loop-x l = NoLoopBelow l.specs l.x
