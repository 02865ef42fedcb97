use Rattle.std.proofs.Common.{◌≡◌, ◌≤◌, length}
use Rattle.verilog_tree.specs.Blanks.{skipped, Between}
use Rattle.verilog_read.proofs.lexer.skip.Given as goal

abbrev pub invariant-loop-rest : goal.invariant-loop-rest
invariant-loop-rest l = (skipped Between l.fn.bytes ≡ skipped Between l.rest) × (length l.rest ≤ length l.fn.bytes)

abbrev pub decreases-loop-rest : goal.decreases-loop-rest
decreases-loop-rest l = length l.rest
