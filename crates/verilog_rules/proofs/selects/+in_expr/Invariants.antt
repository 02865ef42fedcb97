use Rattle.std.proofs.Common.{◌≡◌, drop}
use Rattle.verilog_rules.specs.Shut.{select_refusals}
use Rattle.verilog_rules.specs.First.{first, in_each}
use Rattle.verilog_rules.proofs.selects.+in_expr.Given as goal

abbrev pub invariant-loop-part : goal.invariant-loop-part
invariant-loop-part l = first (in_each (select_refusals l.table) (drop l.part-index l.part-items)) ≡ first (select_refusals l.table l.e)
