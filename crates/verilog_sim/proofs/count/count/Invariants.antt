use Rattle.std.proofs.Common.{◌≡◌, ◌+◌, length}
use Rattle.verilog_mean.specs.Erase.{plain_items, plain_ports}
use Rattle.verilog_sim.specs.Layouts.{input_names, register_names}
use Rattle.verilog_sim.specs.Rooms.{cell_count}
use Rattle.verilog_sim.proofs.count.count.Given as goal

abbrev pub invariant-loop-ports : goal.invariant-loop-ports
invariant-loop-ports l = l.ins + length (input_names (plain_ports l.ports)) ≡ length (input_names (plain_ports l.tree.ports))

abbrev pub decreases-loop-ports : goal.decreases-loop-ports
decreases-loop-ports l = length l.ports

abbrev pub invariant-loop-items : goal.invariant-loop-items
invariant-loop-items l =
    (l.room.regs + length (register_names (plain_items l.items)) ≡ length (register_names (plain_items l.tree.items)))
    × (l.room.cells + cell_count (plain_items l.items) ≡ cell_count (plain_items l.tree.items))
    × (l.room.ins ≡ length (input_names (plain_ports l.tree.ports)))

abbrev pub decreases-loop-items : goal.decreases-loop-items
decreases-loop-items l = length l.items
