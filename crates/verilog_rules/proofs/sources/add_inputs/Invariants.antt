use Rattle.std.proofs.Common.{◌≡◌, ℕ, List, drop}
use Rattle.verilog_mean.specs.Erase.{plain_ports}
use Rattle.verilog_mean.specs.Look.{look}
use Rattle.verilog_rules.specs.Sources.{givers, or_next, port_giver}
use Rattle.verilog_rules.proofs.sources.add_inputs.Given as goal

abbrev pub invariant-loop-port : goal.invariant-loop-port
invariant-loop-port l = (x : List ℕ) → or_next (givers l.sources x) (look port_giver (plain_ports (drop l.port-index l.ports)) x)
    ≡ or_next (givers l.initial.sources x) (look port_giver (plain_ports l.ports) x)
