use Rattle.std.proofs.Common.{◌≡◌, take}
use Rattle.plug_api.specs.Accept.{owners_of}
use Rattle.plug_api.proofs.acceptance.owners_of.Given as goal

abbrev pub invariant-loop-k : goal.invariant-loop-k
invariant-loop-k l = l.owners.items ≡ owners_of (take l.k l.claims.items)
