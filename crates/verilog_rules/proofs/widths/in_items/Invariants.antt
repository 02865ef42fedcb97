use Rattle.std.proofs.Common.{◌≡◌, ◌^◌, ◌<◌, drop, map}
use Rattle.verilog_rules.specs.Bits.{item_bits, total}
use Rattle.verilog_rules.specs.Shut.{widths_by_item}
use Rattle.verilog_rules.specs.First.{first, in_each}
use Rattle.verilog_rules.proofs.widths.in_items.Given as goal

abbrev pub invariant-loop-item : goal.invariant-loop-item
invariant-loop-item l =
    let rest = drop l.item-index l.items in
    (first (in_each (widths_by_item l.table) rest) ≡ first (in_each (widths_by_item l.table) l.items)) × (total (map (item_bits l.table) rest) < 2 ^ 32)
