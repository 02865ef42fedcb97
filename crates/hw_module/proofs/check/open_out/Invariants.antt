use Rattle.hw_module.specs.Driven.{OutsDriven}
use Rattle.hw_module.proofs.check.open_out.Given as goal

abbrev pub invariant-loop-port : goal.invariant-loop-port
invariant-loop-port l = OutsDriven l.outs l.port
