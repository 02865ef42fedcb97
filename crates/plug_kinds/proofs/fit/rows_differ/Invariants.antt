use Rattle.std.proofs.Common.{◌≡◌, ◌<◌, ℕ, get_or}
use Rattle.plug_api.specs.Spec.{no_claim}
use Rattle.plug_kinds.proofs.fit.rows_differ.Given as goal

abbrev pub invariant-loop-k : goal.invariant-loop-k
invariant-loop-k l = (i j : ℕ) → i < j → j < l.k → (get_or l.rows.items i no_claim).row ≡ (get_or l.rows.items j no_claim).row → ⊥
