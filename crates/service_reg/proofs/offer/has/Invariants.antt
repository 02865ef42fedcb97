use Rattle.std.proofs.Common.{◌≡◌, ℕ, ◌<◌, get_or}
use Rattle.service_reg.specs.declared.service.Service.TheVariants.{Fetch}
use Rattle.service_reg.proofs.offer.has.Given as goal

abbrev pub invariant-loop-k : goal.invariant-loop-k
invariant-loop-k l = (i : ℕ) → i < l.k → get_or l.services.items i Fetch ≡ l.service → ⊥
