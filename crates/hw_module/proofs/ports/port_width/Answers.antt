use Rattle.hw_module.proofs.Tables.{width_here}
use Rattle.hw_module.proofs.ports.port_width.Goals as goal

pub returns : goal.returns
returns c = width_here c.args.port c.requires
