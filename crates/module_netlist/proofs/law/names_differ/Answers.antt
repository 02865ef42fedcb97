use Rattle.module_netlist.proofs.Naming.{names_differ}
use Rattle.module_netlist.proofs.law.names_differ.Goals as goal

pub returns : goal.returns
returns c = names_differ
