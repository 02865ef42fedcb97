use Rattle.std.proofs.Common.{arith, length-take}
use Rattle.core_host.proofs.Pulled.{TakesAtMost-pull}
use Rattle.core_host.proofs.loops.read_rest.Goals as goal

-- the bytes of the last pull found no place
pub returns-then-is_err-clause-memory : goal.returns-then-is_err-clause-memory
returns-then-is_err-clause-memory g c = λ _.
    let n = simp length-take at c.in-Ok.ensures.count in
    TakesAtMost-pull _ _ _ c.loop-buffer.read.items _ _ c.in-Ok.count _ _ _ c.loop-buffer.invariant.4 c.loop-buffer.invariant.0 c.in-Ok.ensures.bytes (omega arith)
