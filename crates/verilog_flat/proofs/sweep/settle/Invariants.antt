use Rattle.std.proofs.Common.{◌≡◌, ◌+◌, length}
use Rattle.verilog_flat.specs.Flat.{IsWell, values}
use Rattle.verilog_flat.proofs.Runs.{run_from}
use Rattle.verilog_flat.proofs.sweep.settle.Given as goal

abbrev pub invariant-loop-rest : goal.invariant-loop-rest
invariant-loop-rest l =
    (l.at + length l.rest ≡ length l.nodes)
    × (length l.vals ≡ length l.nodes)
    × IsWell (length l.regs) (length l.cells) (length l.ins) l.at l.rest
    × (run_from l.regs l.cells l.ins l.at l.rest l.vals ≡ values l.regs l.cells l.ins l.nodes)

abbrev pub decreases-loop-rest : goal.decreases-loop-rest
decreases-loop-rest l = length l.rest
