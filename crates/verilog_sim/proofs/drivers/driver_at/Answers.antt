use Rattle.std.proofs.Common.{◌∙◌}
use Rattle.verilog_sim.proofs.Gathered.{at_number}
use Rattle.verilog_sim.proofs.drivers.driver_at.Goals as goal

pub returns : goal.returns
returns c = c.driver_of.ensures ∙ at_number c.args.items.now c.args.number c.index-items-number.result c.requires c.index-items-number.is
