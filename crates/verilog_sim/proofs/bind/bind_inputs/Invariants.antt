use Rattle.std.proofs.Common.{◌≡◌, ◌+◌, ℕ, List, vec_len, length}
use Rattle.verilog_mean.specs.Erase.{plain_ports}
use Rattle.verilog_flat.specs.Builds.{IsSameRoom}
use Rattle.verilog_resolve.specs.Names.{places, IsIn}
use Rattle.verilog_resolve.specs.Wires.{known}
use Rattle.verilog_sim.specs.Layouts.{input_names}
use Rattle.verilog_sim.specs.Bindings.{AreNarrowPorts, BindsPorts, with_ports}
use Rattle.verilog_sim.proofs.bind.bind_inputs.Given as goal

abbrev pub invariant-loop-rest : goal.invariant-loop-rest
invariant-loop-rest l =
    AreNarrowPorts (plain_ports l.rest)
    × (l.at + length (input_names (plain_ports l.rest)) ≡ length (input_names (plain_ports l.ports)))
    × ((x : List ℕ) → IsIn (vec_len l.build.nodes) l.build.cells (places l.names x))
    × IsSameRoom l.build l.initial.build
    × (with_ports (known l.names) (plain_ports l.rest) ≡ with_ports (known l.initial.names) (plain_ports l.ports))
    × BindsPorts (plain_ports l.ports) (plain_ports l.rest) l.at l.initial.build.nodes.items l.build.nodes.items (places l.initial.names) (places l.names)

abbrev pub decreases-loop-rest : goal.decreases-loop-rest
decreases-loop-rest l = length l.rest
