use Rattle.std.proofs.Common.{ℕ, ◌<◌}
use Rattle.std.specs.List.{Contains}
use Rattle.service_reg.specs.Search.{Reaches}
use Rattle.service_reg.proofs.stand.further.Given as goal

abbrev pub invariant-loop-y : goal.invariant-loop-y
invariant-loop-y l = (y : ℕ) → y < l.y → Reaches l.specs l.found l.x y → Contains l.found y
