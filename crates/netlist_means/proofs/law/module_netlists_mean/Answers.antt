use Rattle.netlist_means.proofs.Meant.{netlist_means}
use Rattle.netlist_means.proofs.law.module_netlists_mean.Goals as goal

pub returns : goal.returns
returns c = netlist_means
