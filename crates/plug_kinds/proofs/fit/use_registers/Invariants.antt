use Rattle.std.proofs.Common.{◌<◌, ℕ, get_or}
use Rattle.plug_api.specs.Spec.{no_claim}
use Rattle.plug_kinds.proofs.fit.use_registers.Given as goal

abbrev pub invariant-loop-k : goal.invariant-loop-k
invariant-loop-k l = (i : ℕ) → i < l.k → (get_or l.rows.items i no_claim).row < 49
