use Rattle.std.proofs.Common.{◌≡◌, drop}
use Rattle.verilog_mean.specs.Names.{is_bit_input}
use Rattle.verilog_rules.proofs.ports.is_bit_input.Given as goal

abbrev pub invariant-loop-port : goal.invariant-loop-port
invariant-loop-port l = is_bit_input (drop l.port-index l.ports) l.text ≡ is_bit_input l.ports l.text
