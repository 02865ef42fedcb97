use Rattle.std.proofs.Common.{◌≡◌, ℕ, List, vec_len, length}
use Rattle.verilog_flat.specs.Builds.{IsSameRoom}
use Rattle.verilog_resolve.specs.Names.{places, IsIn}
use Rattle.verilog_resolve.specs.Wires.{AreOrdered, Binds, known, with_nets}
use Rattle.verilog_resolve.proofs.wires.bind_wires.Given as goal

abbrev pub invariant-loop-rest : goal.invariant-loop-rest
invariant-loop-rest l =
    AreOrdered (known l.names) l.rest
    × ((x : List ℕ) → IsIn (vec_len l.build.nodes) l.build.cells (places l.names x))
    × IsSameRoom l.build l.initial.build
    × (with_nets (known l.names) l.rest ≡ with_nets (known l.initial.names) l.drivers)
    × Binds l.drivers l.rest l.initial.build.nodes.items l.build.nodes.items (places l.initial.names) (places l.names)

abbrev pub decreases-loop-rest : goal.decreases-loop-rest
decreases-loop-rest l = length l.rest
