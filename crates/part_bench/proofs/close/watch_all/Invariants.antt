use Rattle.part_bench.specs.Whole.{Keeps}
use Rattle.part_bench.proofs.close.watch_all.Given as goal

abbrev pub invariant-loop-k : goal.invariant-loop-k
invariant-loop-k l = Keeps l.fn.m l.pool l.m l.pool
