use Rattle.sample_text.specs.Poked.{HasCells, IsOf}
use Rattle.sample_text.proofs.tries.poke_all.Given as goal

abbrev pub invariant-loop-reg : goal.invariant-loop-reg
invariant-loop-reg l = IsOf l.cycle l.sample.circuit l.sample.pool × HasCells l.cycle l.sample.circuit

abbrev pub invariant-loop-cell : goal.invariant-loop-cell
invariant-loop-cell l = IsOf l.cycle l.sample.circuit l.sample.pool × HasCells l.cycle l.sample.circuit
