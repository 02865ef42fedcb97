use Rattle.std.proofs.Common.{◌≡◌, drop}
use Rattle.verilog_rules.specs.Shut.{selects_by_item}
use Rattle.verilog_rules.specs.First.{first, in_each}
use Rattle.verilog_rules.proofs.selects.in_items.Given as goal

abbrev pub invariant-loop-item : goal.invariant-loop-item
invariant-loop-item l = first (in_each (selects_by_item l.table) (drop l.item-index l.items)) ≡ first (in_each (selects_by_item l.table) l.items)
