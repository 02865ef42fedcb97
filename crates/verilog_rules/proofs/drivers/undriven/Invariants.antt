use Rattle.std.proofs.Common.{◌≡◌, map, drop}
use Rattle.verilog_mean.specs.Drivers.{undriven}
use Rattle.verilog_rules.specs.Collected.{declaration}
use Rattle.verilog_rules.proofs.drivers.undriven.Given as goal

abbrev pub invariant-loop-d : goal.invariant-loop-d
invariant-loop-d l = undriven l.driven (map declaration (drop l.d-index l.all)) ≡ undriven l.driven (map declaration l.all)
