use Rattle.std.proofs.Common.{◌∙◌, sym, arith, get_or}
use Rattle.verilog_tree.specs.Lex.{in_literal}
use Rattle.verilog_read.proofs.Values.{digit_low, in_either, some_left, run_passes, digits_is, sized_fits, sized_over}
use Rattle.verilog_read.proofs.lexer.digits_of.Goals as goal

pub literal_value-requires-clause-digits : goal.literal_value-requires-clause-digits
literal_value-requires-clause-digits c =
    let low = digit_low (get_or c.args.bytes.now 0 0) c.digit.result c.args.base c.digit.ensures c.if-digit-base.false c.requires.base.1 in
    run_passes (in_literal c.args.base) c.args.bytes.now c.behind-rest.result.now (some_left c.args.bytes.now (sym c.if-is_empty.ensures)) c.behind-rest.ensures.same (in_either c.args.base (get_or c.args.bytes.now 0 0) low)

pub returns-in_err-value-clause-token : goal.returns-in_err-value-clause-token
returns-in_err-value-clause-token c =
    let low = digit_low (get_or c.args.bytes.now 0 0) c.digit.result c.args.base c.digit.ensures c.if-digit-base.false c.requires.base.1 in
    rw c.from_residual.ensures (digits_is c.args.width c.args.base c.args.bytes.now c.behind-rest.result.now (some_left c.args.bytes.now (sym c.if-is_empty.ensures)) c.behind-rest.ensures.same low ∙ sized_over c.args.width _ _ (omega (arith, c.in_err-value.ensures)))

pub returns-clause-token : goal.returns-clause-token
returns-clause-token c =
    let low = digit_low (get_or c.args.bytes.now 0 0) c.digit.result c.args.base c.digit.ensures c.if-digit-base.false c.requires.base.1 in
    digits_is c.args.width c.args.base c.args.bytes.now c.behind-rest.result.now (some_left c.args.bytes.now (sym c.if-is_empty.ensures)) c.behind-rest.ensures.same low
    ∙ rw (sym c.in_ok-value.ensures.0) (sized_fits c.args.width c.in_ok-value.value _ (omega (arith, c.in_ok-value.ensures.1)))
