use Rattle.part_bench.specs.Whole.{Keeps}
use Rattle.part_bench.proofs.close.close_outputs.Given as goal

abbrev pub invariant-loop-port : goal.invariant-loop-port
invariant-loop-port l = Keeps l.fn.m l.fn.pool l.m l.pool
