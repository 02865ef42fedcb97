use Rattle.std.proofs.Common.{◌≡◌, map, take}
use Rattle.plug_kinds.specs.Kinds.{claim_of}
use Rattle.unit_parts.proofs.spec.claims_of.Given as goal

abbrev pub invariant-loop-k : goal.invariant-loop-k
invariant-loop-k l = l.claims.items ≡ map claim_of (take l.k l.rows)
