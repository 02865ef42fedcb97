use Rattle.plug_decoder.proofs.Claims.{SoFar}
use Rattle.plug_decoder.proofs.circuit.with_claims.Given as goal

abbrev pub invariant-loop-k : goal.invariant-loop-k
invariant-loop-k l = SoFar l.fn.pool l.pool l.word l.rows l.owners l.zeros l.fn.first l.so_far l.k
