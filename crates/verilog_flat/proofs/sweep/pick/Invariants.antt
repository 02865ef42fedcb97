use Rattle.std.proofs.Common.{◌≡◌, ◌+◌, ◌++◌, length, take}
use Rattle.verilog_flat.specs.Flat.{AllBelow, picked}
use Rattle.verilog_flat.proofs.sweep.pick.Given as goal

abbrev pub invariant-loop-rest : goal.invariant-loop-rest
invariant-loop-rest l =
    (l.at + length l.rest ≡ length l.nodes)
    × AllBelow (length l.vals) l.rest
    × (take l.at l.into ++ picked l.vals l.rest ≡ picked l.vals l.nodes)

abbrev pub decreases-loop-rest : goal.decreases-loop-rest
decreases-loop-rest l = length l.rest
