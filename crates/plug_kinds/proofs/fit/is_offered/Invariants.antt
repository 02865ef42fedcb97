use Rattle.std.proofs.Common.{◌≡◌, ◌<◌, ℕ, get_or}
use Rattle.service_reg.specs.declared.service.Service.TheVariants.{Fetch}
use Rattle.plug_kinds.proofs.fit.is_offered.Given as goal

abbrev pub invariant-loop-j : goal.invariant-loop-j
invariant-loop-j l = (i : ℕ) → i < l.j → get_or l.services.items i Fetch ≡ l.service → ⊥
