use Rattle.std.proofs.Common.{◌≡◌, map, drop}
use Rattle.verilog_mean.specs.Names.{bad_sizes_in}
use Rattle.verilog_rules.specs.Collected.{declaration}
use Rattle.verilog_rules.proofs.sizes.bad_sizes.Given as goal

abbrev pub invariant-loop-d : goal.invariant-loop-d
invariant-loop-d l = bad_sizes_in (map declaration (drop l.d-index l.all)) ≡ bad_sizes_in (map declaration l.all)
