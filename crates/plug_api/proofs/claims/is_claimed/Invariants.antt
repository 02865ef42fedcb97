use Rattle.std.proofs.Common.{◌<◌, ◌≡◌, ℕ, get_or}
use Rattle.plug_api.specs.Rules.{no_owned}
use Rattle.plug_api.proofs.claims.is_claimed.Given as goal

abbrev pub invariant-loop-k : goal.invariant-loop-k
invariant-loop-k l = (i : ℕ) → i < l.k → (get_or l.claims.items i no_owned).claim.row ≡ l.row → ⊥
