use Rattle.std.proofs.Common.{◌∙◌, arith, get_or}
use Rattle.verilog_tree.specs.Bytes.{is_digit}
use Rattle.verilog_read.proofs.Values.{over_step, head_pass, decimal_in_base}
use Rattle.std.specs.Str.Parse.{digits_value}
use Rattle.verilog_read.proofs.lexer.decimal.Goals as goal

pub returns-then-value-most : goal.returns-then-value-most
returns-then-value-most c =
    let passes = head_pass is_digit c.loop-rest.rest.now c.in-len1-up.len_at_least c.loop-rest.invariant.2 in
    over_step 10 c.args.most c.loop-rest.value (digits_value 10 c.args.digits.now) c.from.result c.loop-rest.rest.now (omega arith) c.in-len1-up.len_at_least c.loop-rest.invariant.0 (c.from.ensures ∙ c.digit.ensures.0 (decimal_in_base (get_or c.loop-rest.rest.now 0 0) passes)) c.if-value-most.true
