use Rattle.std.proofs.Common.{◌≡◌, take}
use Rattle.plug_api.proofs.copies.copy_claims.Given as goal

abbrev pub invariant-loop-k : goal.invariant-loop-k
invariant-loop-k l = l.copies.items ≡ take l.k l.claims.items
