use Rattle.std.proofs.Common.{◌≡◌, ◌-◌, []}
use Rattle.verilog_read.specs.Seen.{seen}
use Rattle.verilog_read.specs.Lists.{ports_from}
use Rattle.verilog_read.proofs.module.all_ports.Given as goal

abbrev pub invariant-loop-turn : goal.invariant-loop-turn
invariant-loop-turn l = ports_from l.most [] (seen l.fn.cursor.tokens.now) ≡ ports_from (l.most - l._turn) l.found.items (seen l.cursor.tokens.now)
