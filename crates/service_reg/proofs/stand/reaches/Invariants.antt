use Rattle.std.proofs.Common.{ℕ, ◌<◌}
use Rattle.std.specs.List.{Contains}
use Rattle.service_reg.specs.Services.{StandsOn}
use Rattle.service_reg.proofs.stand.reaches.Given as goal

abbrev pub invariant-loop-z : goal.invariant-loop-z
invariant-loop-z l = (z : ℕ) → z < l.z → Contains l.found z → StandsOn l.specs z l.y → ⊥
