use Rattle.part_bench.specs.Whole.{Keeps}
use Rattle.part_bench.proofs.close.put_registers.Given as goal

abbrev pub invariant-loop-wire : goal.invariant-loop-wire
invariant-loop-wire l = Keeps l.fn.m l.fn.pool l.m l.pool
