use Rattle.std.proofs.Common.{◌≡◌, ◌<◌, ◌++◌, All, map, length}
use Rattle.verilog_mean.specs.Erase.{plain_items}
use Rattle.verilog_sim.specs.Drives.{drive, drives_by}
use Rattle.verilog_sim.proofs.drivers.drivers_by.Given as goal

abbrev pub invariant-loop-rest : goal.invariant-loop-rest
invariant-loop-rest l =
    All (λ n. n < length l.items) l.rest
    × (map drive l.drivers.items ++ drives_by (plain_items l.items) l.rest ≡ drives_by (plain_items l.items) l.order)

abbrev pub decreases-loop-rest : goal.decreases-loop-rest
decreases-loop-rest l = length l.rest
