use Rattle.std.proofs.Common.{◌≡◌, length}
use Rattle.verilog_read.specs.Places.{before_last}
use Rattle.verilog_read.specs.Seen.{seen}
use Rattle.verilog_read.proofs.refusal.before_last.Given as goal

abbrev pub invariant-loop-rest : goal.invariant-loop-rest
invariant-loop-rest l = before_last l.n (seen l.fn.tokens) ≡ before_last l.n (seen l.rest)

abbrev pub decreases-loop-rest : goal.decreases-loop-rest
decreases-loop-rest l = length l.rest
