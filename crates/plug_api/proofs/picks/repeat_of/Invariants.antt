use Rattle.std.proofs.Common.{◌<◌, ℕ}
use Rattle.plug_api.specs.Picks.{Repeats}
use Rattle.plug_api.proofs.picks.repeat_of.Given as goal

abbrev pub invariant-loop-other : goal.invariant-loop-other
invariant-loop-other l = (j : ℕ) → j < l.other → Repeats l.entries.items l.entry j → ⊥
