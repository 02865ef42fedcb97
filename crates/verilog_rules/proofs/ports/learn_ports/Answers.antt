use Rattle.verilog_rules.proofs.First.{here}
use Rattle.verilog_rules.proofs.PortForms.{next_port}
use Rattle.verilog_rules.proofs.ports.learn_ports.Goals as goal

pub loop-port-preserved : goal.loop-port-preserved
loop-port-preserved c = next_port c.args.ports.now c.loop-port.port-index c.port-item.result c.loop-port.known c.add.new.self _
    (here _ _ _ _ c.loop-port-test.true c.port-item.is) c.in_ok-add.ensures c.loop-port.invariant
