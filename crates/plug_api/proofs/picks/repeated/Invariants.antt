use Rattle.std.proofs.Common.{◌<◌, ℕ}
use Rattle.plug_api.specs.Picks.{Repeats}
use Rattle.plug_api.proofs.picks.repeated.Given as goal

abbrev pub invariant-loop-entry : goal.invariant-loop-entry
invariant-loop-entry l = (i j : ℕ) → i < l.entry → Repeats l.entries.items i j → ⊥
