use Rattle.std.proofs.Common.{drop, rules, ◌∙◌, arith}
use Rattle.std.proofs.lemmas.Grind.{common_steps}
use Rattle.verilog_tree.specs.Parse.{parse, goes_on}
use Rattle.verilog_read.specs.Seen.{seen}
use Rattle.verilog_read.specs.Expressions.{parts_from}
use Rattle.verilog_tree.proofs.Depths.{depth-Join}
use Rattle.verilog_read.proofs.Loop.{one_more, no_more, deepest-push, operator_next, question_next, goes-deep, goes-below, goes-deep-question, goes-above-question, goes-nowhere, goes-out}
use Rattle.verilog_read.proofs.expr.+expr.Goals.{goes_on-in_default-via-in-Operator+else-level-level_of, goes_on-in_default-via-in-Question+else-level-eq0, goes_on-in_default-via-in_default}
use Rattle.verilog_read.proofs.expr.+expr.Goals as goal

pub all_parts-returns-clause-read : goal.all_parts-returns-clause-read
unfolding parts_from
all_parts-returns-clause-read t c =
    no_more (λ n. parts_from (parse c.args.depth) n c.loop-turn.items (seen c.loop-turn.cursor.tokens.now)) _ c.loop-turn._turn c.loop-turn-test.false c.loop-turn.invariant.read

pub all_parts-returns-in_err-part-clause-read : goal.all_parts-returns-in_err-part-clause-read
unfolding parts_from
all_parts-returns-in_err-part-clause-read t c =
    let e = one_more (λ n. parts_from (parse c.args.depth) n c.loop-turn.items (seen c.loop-turn.cursor.tokens.now)) _ c.loop-turn._turn c.loop-turn-test.true c.loop-turn.invariant.read in
    first_of (search rules, grind (arith, common_steps))

pub all_parts-returns-in_err-separator-clause-read : goal.all_parts-returns-in_err-separator-clause-read
unfolding parts_from
all_parts-returns-in_err-separator-clause-read t c =
    let e = one_more (λ n. parts_from (parse c.args.depth) n c.loop-turn.items (seen c.loop-turn.cursor.tokens.now)) _ c.loop-turn._turn c.loop-turn-test.true c.loop-turn.invariant.read in
    first_of (search rules, grind (arith, common_steps))

pub all_parts-returns-then-not-branch-clause-read : goal.all_parts-returns-then-not-branch-clause-read
unfolding parts_from
all_parts-returns-then-not-branch-clause-read t c =
    let e = one_more (λ n. parts_from (parse c.args.depth) n c.loop-turn.items (seen c.loop-turn.cursor.tokens.now)) _ c.loop-turn._turn c.loop-turn-test.true c.loop-turn.invariant.read in
    first_of (search rules, grind (arith, common_steps))

pub all_parts-loop-turn-preserved : goal.all_parts-loop-turn-preserved
unfolding parts_from
all_parts-loop-turn-preserved t c =
    let e = one_more (λ n. parts_from (parse c.args.depth) n c.loop-turn.items (seen c.loop-turn.cursor.tokens.now)) _ c.loop-turn._turn c.loop-turn-test.true c.loop-turn.invariant.read in
    record { read = first_of (search rules, grind (arith, common_steps)); deepest = grind (arith, deepest-push, common_steps); bound = grind (arith, common_steps) }

pub joined-returns-clause-depth : goal.joined-returns-clause-depth
joined-returns-clause-depth t c = (omega (arith, depth-Join c.args.at c.in_ok-all.all.items, c.in_ok-all.ensures.depth), omega (arith, c.in_ok-all.ensures.depth))

pub goes_on-returns-clause-read : goal.goes_on-returns-clause-read
goes_on-returns-clause-read t c =
    no_more (λ n. goes_on (parse c.args.depth) c.args.depth c.args.level n c.loop-turn.left.expr (seen c.loop-turn.cursor.tokens.now)) _ c.loop-turn._turn c.loop-turn-test.false c.loop-turn.invariant.read ∙ goes-out (parse c.args.depth) c.args.depth c.args.level _ _

pub goes_on-loop-turn-preserved : goal.goes_on-loop-turn-preserved
goes_on-loop-turn-preserved t c =
    let e = one_more (λ n. goes_on (parse c.args.depth) c.args.depth c.args.level n c.loop-turn.left.expr (seen c.loop-turn.cursor.tokens.now)) _ c.loop-turn._turn c.loop-turn-test.true c.loop-turn.invariant.read ∙ operator_next c.args.depth c.args.level _ c.loop-turn.left.expr (seen c.loop-turn.cursor.tokens.now) c.in-Operator.op c.in-Operator.sign_at (seen c.advance.new.self.tokens.now) c.in-Operator.ensures c.advance.ensures (omega arith) (omega arith) in
    record { read = first_of (search rules, grind (arith, common_steps)); depth = c.in_ok-left-in-Operator.ensures.depth.0; bound = c.in_ok-left-in-Operator.ensures.depth.1 }

pub goes_on-returns-then-left-depth-clause-read : goal.goes_on-returns-then-left-depth-clause-read
goes_on-returns-then-left-depth-clause-read t c =
    one_more (λ n. goes_on (parse c.args.depth) c.args.depth c.args.level n c.loop-turn.left.expr (seen c.loop-turn.cursor.tokens.now)) _ c.loop-turn._turn c.loop-turn-test.true c.loop-turn.invariant.read ∙ goes-deep (parse c.args.depth) c.args.depth c.args.level _ c.loop-turn.left.expr (seen c.loop-turn.cursor.tokens.now) c.in-Operator.op c.in-Operator.sign_at (drop 1 (seen c.loop-turn.cursor.tokens.now)) c.in-Operator.ensures (omega arith) (omega arith)

pub goes_on-returns-in_err-left-in-Operator-clause-read : goal.goes_on-returns-in_err-left-in-Operator-clause-read
goes_on-returns-in_err-left-in-Operator-clause-read t c =
    let e = one_more (λ n. goes_on (parse c.args.depth) c.args.depth c.args.level n c.loop-turn.left.expr (seen c.loop-turn.cursor.tokens.now)) _ c.loop-turn._turn c.loop-turn-test.true c.loop-turn.invariant.read ∙ operator_next c.args.depth c.args.level _ c.loop-turn.left.expr (seen c.loop-turn.cursor.tokens.now) c.in-Operator.op c.in-Operator.sign_at (seen c.advance.new.self.tokens.now) c.in-Operator.ensures c.advance.ensures (omega arith) (omega arith) in
    rw e (first_of (search rules, grind (arith, common_steps)))

pub goes_on-returns-then-left-depth-2-clause-read : goal.goes_on-returns-then-left-depth-2-clause-read
goes_on-returns-then-left-depth-2-clause-read t c =
    one_more (λ n. goes_on (parse c.args.depth) c.args.depth c.args.level n c.loop-turn.left.expr (seen c.loop-turn.cursor.tokens.now)) _ c.loop-turn._turn c.loop-turn-test.true c.loop-turn.invariant.read ∙ goes-deep-question (parse c.args.depth) c.args.depth c.args.level _ c.loop-turn.left.expr (seen c.loop-turn.cursor.tokens.now) c.in-Question.at (drop 1 (seen c.loop-turn.cursor.tokens.now)) c.in-Question.ensures (omega arith) (omega arith)

pub goes_on-returns-in-Question-clause-read : goal.goes_on-returns-in-Question-clause-read
goes_on-returns-in-Question-clause-read t c =
    let e = one_more (λ n. goes_on (parse c.args.depth) c.args.depth c.args.level n c.loop-turn.left.expr (seen c.loop-turn.cursor.tokens.now)) _ c.loop-turn._turn c.loop-turn-test.true c.loop-turn.invariant.read ∙ question_next (parse c.args.depth) c.args.depth c.args.level _ c.loop-turn.left.expr (seen c.loop-turn.cursor.tokens.now) c.in-Question.at (seen c.advance-in-Question.new.self.tokens.now) c.in-Question.ensures c.advance-in-Question.ensures (omega arith) (omega arith) in
    rw e c.choice.ensures.read

pub goes_on-returns-in_default-clause-read : goal.goes_on-returns-in_default-clause-read
goes_on-returns-in_default-clause-read t c =
    one_more (λ n. goes_on (parse c.args.depth) c.args.depth c.args.level n c.loop-turn.left.expr (seen c.loop-turn.cursor.tokens.now)) _ c.loop-turn._turn c.loop-turn-test.true c.loop-turn.invariant.read ∙ elim c.in_default.branch [
      | goes_on-in_default-via-in-Operator+else-level-level_of w ↦ goes-below (parse c.args.depth) c.args.depth c.args.level _ c.loop-turn.left.expr (seen c.loop-turn.cursor.tokens.now) w.in-Operator.op w.in-Operator.sign_at (drop 1 (seen c.loop-turn.cursor.tokens.now)) w.in-Operator.ensures (omega arith)
      | goes_on-in_default-via-in-Question+else-level-eq0 w ↦ goes-above-question (parse c.args.depth) c.args.depth c.args.level _ c.loop-turn.left.expr (seen c.loop-turn.cursor.tokens.now) w.in-Question.at (drop 1 (seen c.loop-turn.cursor.tokens.now)) w.in-Question.ensures (omega arith)
      | goes_on-in_default-via-in_default w ↦ goes-nowhere (parse c.args.depth) c.args.depth c.args.level _ c.loop-turn.left.expr (seen c.loop-turn.cursor.tokens.now) w.in_default.ensures
    ]
