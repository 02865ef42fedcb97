use Rattle.std.proofs.Common.{◌≤◌, length}
use Rattle.verilog_read.specs.Seen.{seen}
use Rattle.verilog_read.specs.Tokens.{Extends}
use Rattle.verilog_read.proofs.lexer.tokens.Given as goal

abbrev pub invariant-loop-next : goal.invariant-loop-next
invariant-loop-next l = Extends (length l.bytes) l.bytes (seen l.found.items) l.rest × (length l.rest ≤ length l.bytes)

abbrev pub decreases-loop-next : goal.decreases-loop-next
decreases-loop-next l = length l.rest
