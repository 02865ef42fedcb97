use Rattle.std.proofs.Common.{ℕ, ◌<◌, get_or}
use Rattle.std.specs.List.{Contains}
use Rattle.service_reg.specs.declared.service.Service.TheVariants.{Fetch}
use Rattle.service_reg.proofs.stand.shares.Given as goal

abbrev pub invariant-loop-k : goal.invariant-loop-k
invariant-loop-k l = (i : ℕ) → i < l.k → Contains l.offered.items (get_or l.wanted.items i Fetch) → ⊥
