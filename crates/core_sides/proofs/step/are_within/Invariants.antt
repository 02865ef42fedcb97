use Rattle.std.proofs.Common.{ℕ, ◌<◌, get_or}
use Rattle.core_sides.proofs.Limits.{limits}
use Rattle.core_sides.proofs.step.are_within.Given as goal

abbrev pub invariant-loop-k : goal.invariant-loop-k
invariant-loop-k l = (j : ℕ) → j < l.k → get_or l.ins j 0 < get_or limits j 0
