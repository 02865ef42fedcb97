use Rattle.std.proofs.Common.{◌<◌, ℕ}
use Rattle.plug_api.specs.Rules.{IsMissing}
use Rattle.plug_api.proofs.claims.missing.Given as goal

abbrev pub invariant-loop-row : goal.invariant-loop-row
invariant-loop-row l = (i : ℕ) → i < l.row → IsMissing l.isa l.claims.items i → ⊥
