use Rattle.std.proofs.Common.{◌≡◌, ◌<◌, ℕ, get_or}
use Rattle.service_reg.specs.declared.service.Service.TheVariants.{Fetch}
use Rattle.plug_kinds.proofs.fit.offers_differ.Given as goal

abbrev pub invariant-loop-k : goal.invariant-loop-k
invariant-loop-k l = (i j : ℕ) → i < j → j < l.k → get_or l.services.items i Fetch ≡ get_or l.services.items j Fetch → ⊥
