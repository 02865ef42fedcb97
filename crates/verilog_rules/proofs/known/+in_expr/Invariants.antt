use Rattle.std.proofs.Common.{◌≡◌, drop}
use Rattle.verilog_rules.specs.Shut.{unknown_names}
use Rattle.verilog_rules.specs.First.{first, in_each}
use Rattle.verilog_rules.proofs.known.+in_expr.Given as goal

abbrev pub invariant-loop-part : goal.invariant-loop-part
invariant-loop-part l = first (in_each (unknown_names l.known) (drop l.part-index l.part-items)) ≡ first (unknown_names l.known l.e)
