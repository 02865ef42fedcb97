use Rattle.netlist_order.proofs.Ranked.{module_is_ranked}
use Rattle.netlist_order.proofs.law.module_netlists_are_ranked.Goals as goal

pub returns : goal.returns
returns c = module_is_ranked
