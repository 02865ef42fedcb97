use Rattle.core_sides.specs.Made.{IsOf}
use Rattle.core_sides.proofs.sides.step_all.Given as goal

abbrev pub invariant-loop-k : goal.invariant-loop-k
invariant-loop-k l = IsOf l.cycle l.core.circuit l.core.pool
