use Rattle.std.proofs.Common.{◌≡◌, ◌-◌, []}
use Rattle.verilog_read.specs.Seen.{seen}
use Rattle.verilog_read.specs.Lists.{items_from}
use Rattle.verilog_read.proofs.module.all_items.Given as goal

abbrev pub invariant-loop-turn : goal.invariant-loop-turn
invariant-loop-turn l = items_from l.most [] (seen l.fn.cursor.tokens.now) ≡ items_from (l.most - l._turn) l.found.items (seen l.cursor.tokens.now)
