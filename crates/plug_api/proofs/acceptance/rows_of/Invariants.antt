use Rattle.std.proofs.Common.{◌≡◌, take}
use Rattle.plug_api.specs.Accept.{rows_of}
use Rattle.plug_api.proofs.acceptance.rows_of.Given as goal

abbrev pub invariant-loop-k : goal.invariant-loop-k
invariant-loop-k l = l.rows.items ≡ rows_of (take l.k l.claims.items)
