use Rattle.std.proofs.Common.{◌≡◌, ◌+◌, length}
use Rattle.verilog_read.specs.Faults.{fault_in_digits}
use Rattle.verilog_read.proofs.fault.in_digits.Given as goal

abbrev pub invariant-loop-rest : goal.invariant-loop-rest
invariant-loop-rest l = (fault_in_digits l.base l.most 0 l.digits ≡ l.at + fault_in_digits l.base l.most l.value l.rest) × (l.at + length l.rest ≡ length l.digits)

abbrev pub decreases-loop-rest : goal.decreases-loop-rest
decreases-loop-rest l = length l.rest
