use Rattle.std.proofs.Common.{◌≡◌, ◌+◌, ◌++◌, length, take, map}
use Rattle.core_sim.specs.Bench.{given}
use Rattle.core_sim.proofs.ports.drive.Given as goal

abbrev pub invariant-loop-rest : goal.invariant-loop-rest
invariant-loop-rest l =
    (l.at + length l.rest ≡ length l.inputs)
    × (take l.at l.ins ++ map (given l.reset l.buses l.lines) l.rest ≡ map (given l.reset l.buses l.lines) l.inputs)

abbrev pub decreases-loop-rest : goal.decreases-loop-rest
decreases-loop-rest l = length l.rest
