use Rattle.std.proofs.Common.{◌≡◌, ◌+◌, ◌≤◌, drop, map}
use Rattle.std.specs.Option.{option_or}
use Rattle.verilog_rules.specs.Bits.{expr_bits, total}
use Rattle.verilog_rules.specs.Shut.{expr_width, width_refusals}
use Rattle.verilog_rules.specs.First.{first, in_each}
use Rattle.verilog_rules.proofs.widths.+found.Given as goal

abbrev pub invariant-in_parts-loop-part : goal.invariant-in_parts-loop-part
invariant-in_parts-loop-part l =
    let rest = drop l.part-index l.parts in
    (l.width + total (map (expr_width l.table) rest) ≡ total (map (expr_width l.table) l.parts))
    × (l.width + total (map (expr_bits l.table) rest) ≤ total (map (expr_bits l.table) l.parts))
    × (option_or l.first (first (in_each (width_refusals l.table) rest)) ≡ first (in_each (width_refusals l.table) l.parts))
