use Rattle.std.proofs.Common.{◌≡◌, ◌<◌, ℕ, get_or}
use Rattle.plug_api.specs.Spec.{no_claim}
use Rattle.plug_kinds.proofs.fit.is_before.Given as goal

abbrev pub invariant-loop-j : goal.invariant-loop-j
invariant-loop-j l = (i : ℕ) → i < l.j → (get_or l.rows.items i no_claim).row ≡ l.row → ⊥
