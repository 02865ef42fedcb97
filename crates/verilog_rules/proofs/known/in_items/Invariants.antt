use Rattle.std.proofs.Common.{◌≡◌, drop}
use Rattle.verilog_mean.specs.Names.{unknown_in_items}
use Rattle.verilog_rules.proofs.known.in_items.Given as goal

abbrev pub invariant-loop-item : goal.invariant-loop-item
invariant-loop-item l = unknown_in_items l.known (drop l.item-index l.items) ≡ unknown_in_items l.initial.known l.items
