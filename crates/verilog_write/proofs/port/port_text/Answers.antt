use Rattle.verilog_write.proofs.Ports.{no_port}
use Rattle.verilog_write.proofs.port.port_text.Goals as goal

pub returns-then-port-ge-PORTS : goal.returns-then-port-ge-PORTS
returns-then-port-ge-PORTS c = no_port c.args.port c.if-port-ge-PORTS.true
