use Rattle.hw_module.proofs.Tables.{output_here}
use Rattle.hw_module.proofs.ports.is_output.Goals as goal

pub returns : goal.returns
returns c = output_here c.args.port c.requires
