use Rattle.std.proofs.Common.{◌≡◌, ◌+◌, ℕ, List, vec_len, length}
use Rattle.verilog_mean.specs.Erase.{plain_items}
use Rattle.verilog_flat.specs.Builds.{IsSameRoom}
use Rattle.verilog_resolve.specs.Names.{places, IsIn}
use Rattle.verilog_resolve.specs.Wires.{known}
use Rattle.verilog_sim.specs.Layouts.{register_names}
use Rattle.verilog_sim.specs.Rooms.{cell_count}
use Rattle.verilog_sim.specs.Bindings.{AreSized, BindsItems, with_items}
use Rattle.verilog_sim.proofs.bind.bind_held.Given as goal

abbrev pub invariant-loop-rest : goal.invariant-loop-rest
invariant-loop-rest l =
    AreSized (plain_items l.rest)
    × (l.next.reg + length (register_names (plain_items l.rest)) ≡ length (register_names (plain_items l.items)))
    × (l.next.base + cell_count (plain_items l.rest) ≡ cell_count (plain_items l.items))
    × ((x : List ℕ) → IsIn (vec_len l.build.nodes) l.build.cells (places l.names x))
    × IsSameRoom l.build l.initial.build
    × (with_items (known l.names) (plain_items l.rest) ≡ with_items (known l.initial.names) (plain_items l.items))
    × BindsItems (plain_items l.items) (plain_items l.rest) l.next.reg l.next.base l.initial.build.nodes.items l.build.nodes.items (places l.initial.names) (places l.names)

abbrev pub decreases-loop-rest : goal.decreases-loop-rest
decreases-loop-rest l = length l.rest
