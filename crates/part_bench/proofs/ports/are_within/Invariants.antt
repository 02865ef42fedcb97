use Rattle.std.proofs.Common.{ℕ, ◌<◌, get_or}
use Rattle.part_bench.proofs.Limits.{limits}
use Rattle.part_bench.proofs.ports.are_within.Given as goal

abbrev pub invariant-loop-k : goal.invariant-loop-k
invariant-loop-k l = (j : ℕ) → j < l.k → get_or l.ins j 0 < get_or limits j 0
