use Rattle.std.proofs.Common.{◌<◌, ◌≡◌, ℕ, get_or, false}
use Rattle.plug_api.specs.Rules.{is_extra, no_owned}
use Rattle.plug_api.proofs.claims.extra.Given as goal

abbrev pub invariant-loop-k : goal.invariant-loop-k
invariant-loop-k l = (i : ℕ) → i < l.k → is_extra l.isa (get_or l.claims.items i no_owned).claim.row ≡ false
