use Rattle.std.proofs.Common.{◌≤◌, drop}
use Rattle.verilog_mean.specs.Erase.{plain_ports}
use Rattle.verilog_sim.specs.Layouts.{output_names}
use Rattle.core_sim.proofs.Lists.{IsRest}
use Rattle.core_sim.proofs.ports.output_place.Given as goal

abbrev pub invariant-loop-port : goal.invariant-loop-port
invariant-loop-port l = record {
  rest : IsRest (output_names (plain_ports l.ports)) (output_names (plain_ports (drop l.port-index l.ports))) l.name l.at;
  few : l.at ≤ l.port-index;
}
