use Rattle.std.proofs.Common.{◌-◌, length}
use Rattle.service_reg.specs.Services.{IsNextEach}
use Rattle.service_reg.proofs.build.build_order.Given as goal

abbrev pub invariant-loop-x : goal.invariant-loop-x
invariant-loop-x l = IsNextEach l.specs l.order.items

abbrev pub decreases-loop-x : goal.decreases-loop-x
decreases-loop-x l = length l.specs - length l.order.items
