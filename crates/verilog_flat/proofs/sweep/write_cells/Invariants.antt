use Rattle.std.proofs.Common.{◌≡◌, length}
use Rattle.verilog_flat.specs.Writes.{AreWrites, write_all}
use Rattle.verilog_flat.proofs.sweep.write_cells.Given as goal

abbrev pub invariant-loop-rest : goal.invariant-loop-rest
invariant-loop-rest l =
    AreWrites (length l.vals) (length l.cells) l.rest
    × (write_all l.vals l.rest l.cells ≡ write_all l.vals l.writes l.initial.cells)

abbrev pub decreases-loop-rest : goal.decreases-loop-rest
decreases-loop-rest l = length l.rest
