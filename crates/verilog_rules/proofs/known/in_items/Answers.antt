use Rattle.std.proofs.Common.{inr}
use Rattle.verilog_rules.proofs.First.{here}
use Rattle.verilog_rules.proofs.KnownItems.{next_item, here_item}
use Rattle.verilog_rules.proofs.known.in_items.Goals as goal

pub returns-in-Some-clause-refused : goal.returns-in-Some-clause-refused
returns-in-Some-clause-refused c = inr (here_item c.args.items.now c.loop-item.item-index c.item-item.result c.loop-item.known c.learn.new.known _ c.in-Some.refusal
    (here _ _ _ _ c.loop-item-test.true c.item-item.is) c.in-Ok.ensures c.in-Some.ensures c.loop-item.invariant)

pub loop-item-preserved : goal.loop-item-preserved
loop-item-preserved c = next_item c.args.items.now c.loop-item.item-index c.item-item.result c.loop-item.known c.learn.new.known _
    (here _ _ _ _ c.loop-item-test.true c.item-item.is) c.in-Ok.ensures c.in-None.ensures c.loop-item.invariant
