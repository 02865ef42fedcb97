use Rattle.std.proofs.Common.{rules, arith}
use Rattle.std.proofs.lemmas.Grind.{common_steps}
use Rattle.verilog_read.proofs.Loop.{one_more, no_more}
use Rattle.verilog_read.specs.Seen.{seen}
use Rattle.verilog_read.specs.Lists.{items_from}
use Rattle.verilog_read.proofs.module.all_items.Goals as goal

pub returns : goal.returns
unfolding items_from
returns c = no_more (λ n. items_from n c.loop-turn.found.items (seen c.loop-turn.cursor.tokens.now)) _ c.loop-turn._turn c.loop-turn-test.false c.loop-turn.invariant

pub returns-then-next_is_word : goal.returns-then-next_is_word
unfolding items_from
returns-then-next_is_word c =
    let e = one_more (λ n. items_from n c.loop-turn.found.items (seen c.loop-turn.cursor.tokens.now)) _ c.loop-turn._turn c.loop-turn-test.true c.loop-turn.invariant in
    first_of (search rules, grind (arith, common_steps))

pub returns-in_err-item : goal.returns-in_err-item
unfolding items_from
returns-in_err-item c =
    let e = one_more (λ n. items_from n c.loop-turn.found.items (seen c.loop-turn.cursor.tokens.now)) _ c.loop-turn._turn c.loop-turn-test.true c.loop-turn.invariant in
    first_of (search rules, grind (arith, common_steps))

pub loop-turn-preserved : goal.loop-turn-preserved
unfolding items_from
loop-turn-preserved c =
    let e = one_more (λ n. items_from n c.loop-turn.found.items (seen c.loop-turn.cursor.tokens.now)) _ c.loop-turn._turn c.loop-turn-test.true c.loop-turn.invariant in
    first_of (search rules, grind (arith, common_steps))
