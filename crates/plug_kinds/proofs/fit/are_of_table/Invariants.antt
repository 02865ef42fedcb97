use Rattle.std.proofs.Common.{◌<◌, ℕ, get_or}
use Rattle.plug_api.specs.Spec.{IsOfTable, no_claim}
use Rattle.plug_kinds.proofs.fit.are_of_table.Given as goal

abbrev pub invariant-loop-k : goal.invariant-loop-k
invariant-loop-k l = (i : ℕ) → i < l.k → IsOfTable (get_or l.rows.items i no_claim)
