use Rattle.std.proofs.Common.{◌≡◌, ◌-◌}
use Rattle.verilog_mean.specs.Declarations.{index_width, index_width_from}
use Rattle.verilog_rules.proofs.sizes.bits_of_index.Given as goal

abbrev pub invariant-loop-bits : goal.invariant-loop-bits
invariant-loop-bits l = index_width_from (17 - l.bits) l.bits l.last ≡ index_width l.last
