use Rattle.std.proofs.Common.{arith, get_or}
use Rattle.verilog_tree.specs.Lex.{in_literal}
use Rattle.verilog_read.specs.Runs.{value_after}
use Rattle.verilog_read.proofs.Values.{over_literal, head_pass, literal_in_base}
use Rattle.verilog_read.proofs.lexer.literal_value.Goals as goal

pub returns-in_err-value : goal.returns-in_err-value
returns-in_err-value c =
    let passes = head_pass (in_literal c.args.base) c.loop-rest.rest.now c.in-len1-up.len_at_least c.loop-rest.invariant.2 in
    let digit = c.digit.ensures.0 (literal_in_base c.args.base (get_or c.loop-rest.rest.now 0 0) c.requires.base.1 passes c.if-d-ne95.true) in
    rw c.from_residual.ensures (over_literal c.args.base c.args.most c.loop-rest.value (value_after c.args.base 0 c.args.digits.now) c.digit.result c.loop-rest.rest.now (omega arith) c.in-len1-up.len_at_least c.loop-rest.invariant.0 c.if-d-ne95.true digit c.in_err-value.ensures)
