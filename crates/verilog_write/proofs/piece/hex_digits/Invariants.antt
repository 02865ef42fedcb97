use Rattle.std.proofs.Common.{◌-◌, ◌+◌, ◌≡◌, ◌<◌, ◌≤◌, ◌^◌, drop, false, length}
use Rattle.std.specs.Fmt.{digits, digits_onto}
use Rattle.verilog_write.proofs.piece.hex_digits.Given as goal

abbrev pub invariant-loop-start : goal.invariant-loop-start
invariant-loop-start l = (1 ≤ l.start) × (l.start ≤ 16) × (length l.buffer ≡ 16) × (l.rest < 16 ^ l.start)
    × (digits_onto (l.start + 48) 16 false l.rest (drop l.start l.buffer) ≡ digits 16 false l.number)

abbrev pub decreases-loop-start : goal.decreases-loop-start
decreases-loop-start l = l.start - 1
