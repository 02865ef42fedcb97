use Rattle.std.proofs.Common.{◌-◌, length}
use Rattle.service_reg.specs.Search.{IsFound}
use Rattle.service_reg.proofs.stand.stands_on_itself.Given as goal

abbrev pub invariant-loop-y : goal.invariant-loop-y
invariant-loop-y l = IsFound l.specs l.x l.found.items

abbrev pub decreases-loop-y : goal.decreases-loop-y
decreases-loop-y l = length l.specs - length l.found.items
