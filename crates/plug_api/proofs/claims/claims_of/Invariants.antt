use Rattle.std.proofs.Common.{◌≡◌, ◌++◌, drop}
use Rattle.plug_api.specs.Rules.{claims_of, claims_from}
use Rattle.plug_api.proofs.claims.claims_of.Given as goal

abbrev pub invariant-loop-entry : goal.invariant-loop-entry
invariant-loop-entry l = l.claims.items ++ claims_from l.entry (drop l.entry l.specs.items) ≡ claims_of l.specs.items
