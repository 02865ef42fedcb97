-- The outputs of System, as nets are carried on.
use Rattle.std.proofs.Common.{Option, None, Some}
use Rattle.hw_pool.specs.Nodes.{PoolValue}
use Rattle.hw_pool.specs.Scope.{Scope}
use Rattle.service_ports.specs.declared.ports.SystemPorts.{SystemPorts}
use Rattle.pipe_steps.specs.Things.{PipeThings}
use Rattle.pipe_build.specs.Bears.{Later}
use Rattle.pipe_build.proofs.Bears.{bears_later}
use Rattle.pipe_build.specs.AllNets.{SystemIs}

pub system_on : {s t : Scope} {old new : PoolValue} (p : PipeThings) (o : Option SystemPorts) → Later s old t new → SystemIs s old p o → SystemIs t new p o
system_on p None on h = h
system_on p (Some y) on h = (h.0, bears_later on h.1, bears_later on h.2, bears_later on h.3)
