use Rattle.std.proofs.Common.{rules, arith}
use Rattle.std.proofs.lemmas.Grind.{common_steps}
use Rattle.verilog_read.proofs.Loop.{one_more, no_more}
use Rattle.verilog_read.specs.Seen.{seen}
use Rattle.verilog_read.specs.Lists.{ports_from}
use Rattle.verilog_read.proofs.module.all_ports.Goals as goal

pub returns : goal.returns
unfolding ports_from
returns c = no_more (λ n. ports_from n c.loop-turn.found.items (seen c.loop-turn.cursor.tokens.now)) _ c.loop-turn._turn c.loop-turn-test.false c.loop-turn.invariant

pub returns-in_err-port : goal.returns-in_err-port
unfolding ports_from
returns-in_err-port c =
    let e = one_more (λ n. ports_from n c.loop-turn.found.items (seen c.loop-turn.cursor.tokens.now)) _ c.loop-turn._turn c.loop-turn-test.true c.loop-turn.invariant in
    first_of (search rules, grind (arith, common_steps))

pub returns-in_err-_close : goal.returns-in_err-_close
unfolding ports_from
returns-in_err-_close c =
    let e = one_more (λ n. ports_from n c.loop-turn.found.items (seen c.loop-turn.cursor.tokens.now)) _ c.loop-turn._turn c.loop-turn-test.true c.loop-turn.invariant in
    first_of (search rules, grind (arith, common_steps))

pub returns-then-not-next_is_sign : goal.returns-then-not-next_is_sign
unfolding ports_from
returns-then-not-next_is_sign c =
    let e = one_more (λ n. ports_from n c.loop-turn.found.items (seen c.loop-turn.cursor.tokens.now)) _ c.loop-turn._turn c.loop-turn-test.true c.loop-turn.invariant in
    first_of (search rules, grind (arith, common_steps))

pub returns-in_err-_comma : goal.returns-in_err-_comma
unfolding ports_from
returns-in_err-_comma c =
    let e = one_more (λ n. ports_from n c.loop-turn.found.items (seen c.loop-turn.cursor.tokens.now)) _ c.loop-turn._turn c.loop-turn-test.true c.loop-turn.invariant in
    first_of (search rules, grind (arith, common_steps))

pub loop-turn-preserved : goal.loop-turn-preserved
unfolding ports_from
loop-turn-preserved c =
    let e = one_more (λ n. ports_from n c.loop-turn.found.items (seen c.loop-turn.cursor.tokens.now)) _ c.loop-turn._turn c.loop-turn-test.true c.loop-turn.invariant in
    first_of (search rules, grind (arith, common_steps))
