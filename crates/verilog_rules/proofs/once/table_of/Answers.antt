use Rattle.std.proofs.Common.{sym}
use Rattle.verilog_rules.proofs.First.{here, table_step}
use Rattle.verilog_rules.proofs.once.table_of.Goals as goal

pub loop-d-preserved : goal.loop-d-preserved
loop-d-preserved c = table_step c.args.all.now c.loop-d.d-index c.d-item.result c.loop-d.table c.add.new.self (here _ _ _ _ c.loop-d-test.true c.d-item.is)
    (sym c.if-knows.ensures) c.in-Ok.ensures c.loop-d.invariant.0 c.loop-d.invariant.1
