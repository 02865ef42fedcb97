use Rattle.std.proofs.Common.{◌<◌, ℕ}
use Rattle.plug_api.specs.Rules.{Clash}
use Rattle.plug_api.proofs.claims.clash_of.Given as goal

abbrev pub invariant-loop-b : goal.invariant-loop-b
invariant-loop-b l = (j : ℕ) → j < l.b → Clash l.claims.items l.a j → ⊥
