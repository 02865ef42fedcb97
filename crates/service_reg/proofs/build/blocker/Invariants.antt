use Rattle.std.proofs.Common.{ℕ, ◌<◌}
use Rattle.std.specs.List.{Contains}
use Rattle.service_reg.specs.Services.{StandsOn}
use Rattle.service_reg.proofs.build.blocker.Given as goal

abbrev pub invariant-loop-y : goal.invariant-loop-y
invariant-loop-y l = (y : ℕ) → y < l.y → StandsOn l.specs l.x y → Contains l.placed y
