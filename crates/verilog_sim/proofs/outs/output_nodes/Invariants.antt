use Rattle.std.proofs.Common.{◌≡◌, ◌++◌, map, length}
use Rattle.verilog_mean.specs.Erase.{plain_ports}
use Rattle.verilog_resolve.specs.Names.{node_of, places}
use Rattle.verilog_sim.specs.Layouts.{output_names}
use Rattle.verilog_sim.proofs.outs.output_nodes.Given as goal

abbrev pub invariant-loop-rest : goal.invariant-loop-rest
invariant-loop-rest l =
    l.outs.items ++ map (λ x. node_of (places l.names x)) (output_names (plain_ports l.rest)) ≡ map (λ x. node_of (places l.names x)) (output_names (plain_ports l.ports))

abbrev pub decreases-loop-rest : goal.decreases-loop-rest
decreases-loop-rest l = length l.rest
