use Rattle.std.proofs.Common.{◌<◌, ℕ}
use Rattle.plug_api.specs.Rules.{Clash}
use Rattle.plug_api.proofs.claims.clash.Given as goal

abbrev pub invariant-loop-a : goal.invariant-loop-a
invariant-loop-a l = (i j : ℕ) → i < l.a → Clash l.claims.items i j → ⊥
