use Rattle.std.proofs.Common.{◌≡◌, ◌++◌, map, take}
use Rattle.plug_api.specs.Rules.{owned_by}
use Rattle.plug_api.proofs.claims.push_claims.Given as goal

abbrev pub invariant-loop-k : goal.invariant-loop-k
invariant-loop-k l = l.claims.items ≡ l.fn.claims.items ++ map (owned_by l.entry) (take l.k l.rows.items)
