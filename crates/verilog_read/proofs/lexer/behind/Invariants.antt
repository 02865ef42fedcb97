use Rattle.std.proofs.Common.{◌≡◌, ◌≤◌, length}
use Rattle.verilog_tree.specs.Bytes.{behind}
use Rattle.verilog_read.specs.Runs.{passes_class}
use Rattle.verilog_read.proofs.lexer.behind.Given as goal

abbrev pub invariant-loop-rest : goal.invariant-loop-rest
invariant-loop-rest l = (behind (passes_class l.class) l.fn.bytes ≡ behind (passes_class l.class) l.rest) × (length l.rest ≤ length l.fn.bytes)

abbrev pub decreases-loop-rest : goal.decreases-loop-rest
decreases-loop-rest l = length l.rest
