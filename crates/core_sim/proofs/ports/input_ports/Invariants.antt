use Rattle.std.proofs.Common.{◌≡◌, ◌+◌, ◌++◌, ℕ, length, drop, map, vec_len}
use Rattle.bus_law.specs.declared.signals.BusIn.{BusIn}
use Rattle.verilog_mean.specs.Erase.{plain_ports}
use Rattle.verilog_sim.specs.Layouts.{input_names}
use Rattle.core_sim.specs.Joint.{inputs_of}
use Rattle.core_sim.specs.Bench.{given}
use Rattle.core_sim.proofs.ports.input_ports.Given as goal

abbrev pub invariant-loop-port : goal.invariant-loop-port
invariant-loop-port l = record {
  values : (reset : ℕ) (buses : BusIn) (lines : ℕ) → map (given reset buses lines) l.inputs.items ++ map (inputs_of reset buses lines) (input_names (plain_ports (drop l.port-index l.ports)))
      ≡ map (inputs_of reset buses lines) (input_names (plain_ports l.ports));
  len : vec_len l.inputs + length (input_names (plain_ports (drop l.port-index l.ports))) ≡ length (input_names (plain_ports l.ports));
}
