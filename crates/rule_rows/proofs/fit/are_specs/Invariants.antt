use Rattle.std.specs.Prelude.{ℕ, ◌<◌, get_or}
use Rattle.plug_api.specs.Spec.{IsSpec, no_spec}
use Rattle.rule_rows.proofs.fit.are_specs.Given as goal

abbrev pub invariant-loop-k : goal.invariant-loop-k
invariant-loop-k l = (i : ℕ) → i < l.k → IsSpec (get_or l.specs.items i no_spec)
