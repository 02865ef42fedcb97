use Rattle.std.proofs.Common.{◌≡◌, drop}
use Rattle.verilog_rules.specs.Shut.{kind_refusals}
use Rattle.verilog_rules.specs.First.{first, in_each}
use Rattle.verilog_rules.proofs.kinds.+in_expr.Given as goal

abbrev pub invariant-loop-part : goal.invariant-loop-part
invariant-loop-part l = first (in_each (kind_refusals l.table) (drop l.part-index l.part-items)) ≡ first (kind_refusals l.table l.e)
