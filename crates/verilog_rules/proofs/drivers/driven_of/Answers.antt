use Rattle.std.proofs.Common.{sym}
use Rattle.verilog_rules.proofs.First.{here, driven_step}
use Rattle.verilog_rules.proofs.drivers.driven_of.Goals as goal

pub loop-item-preserved : goal.loop-item-preserved
loop-item-preserved c = driven_step c.args.items.now c.loop-item.item-index c.item-item.result c.in-Some.name.now c.loop-item.names c.add.new.self
    (here _ _ _ _ c.loop-item-test.true c.item-item.is) c.in-Some.ensures (sym c.if-knows.ensures) c.in-Ok.ensures c.loop-item.invariant.0 c.loop-item.invariant.1
