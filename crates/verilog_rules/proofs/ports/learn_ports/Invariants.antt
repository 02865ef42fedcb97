use Rattle.std.proofs.Common.{◌++◌, drop}
use Rattle.verilog_mean.specs.Names.{port_names}
use Rattle.verilog_rules.specs.SameNames.{SameNames}
use Rattle.verilog_rules.proofs.ports.learn_ports.Given as goal

abbrev pub invariant-loop-port : goal.invariant-loop-port
invariant-loop-port l = SameNames (l.known ++ port_names (drop l.port-index l.ports)) (l.initial.known ++ port_names l.ports)
