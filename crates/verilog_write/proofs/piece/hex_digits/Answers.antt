use Rattle.std.proofs.Common.{◌-◌, length-set, ◌∙◌, arith}
use Rattle.verilog_write.proofs.Hex.{digit_more, digit_last, rest_less, rest_none, digits_none}
use Rattle.verilog_write.proofs.piece.hex_digits.Goals as goal

pub loop-start-init : goal.loop-start-init
loop-start-init c = (omega arith, omega arith, c.told-buffer, omega arith, digits_none c.args.number c.args.buffer.now c.told-buffer)

pub returns-then-rest-eq0-clause-digits : goal.returns-then-rest-eq0-clause-digits
returns-then-rest-eq0-clause-digits c =
    let l = c.loop-start in
    digit_last (l.start - 1) l.start _ l.rest _ l.buffer (omega arith) (omega arith) c.hex_digit.ensures c.if-rest-eq0.true l.invariant.4

pub loop-start-preserved : goal.loop-start-preserved
loop-start-preserved c =
    let l = c.loop-start in (
      omega arith,
      omega arith,
      length-set l.buffer (l.start - 1) c.hex_digit.result ∙ l.invariant.2,
      rest_less l.start l.rest c.loop-start-test.true l.invariant.3,
      digit_more (l.start - 1) l.start _ l.rest _ l.buffer (omega arith) (omega arith) c.hex_digit.ensures c.if-rest-eq0.false l.invariant.4,
    )

pub returns-clause-digits : goal.returns-clause-digits
returns-clause-digits c =
    let l = c.loop-start in
    digit_last 0 l.start _ l.rest _ l.buffer (omega arith) (omega arith) c.hex_digit-2.ensures (rest_none l.start l.rest l.invariant.0 c.loop-start-test.false l.invariant.3) l.invariant.4
