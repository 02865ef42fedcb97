use Rattle.std.proofs.Common.{refl}
use Rattle.core_ports.specs.Ports.{name_of}
use Rattle.netlist_means.proofs.law.module_netlists_have_core_ports.Goals as goal

pub returns : goal.returns
unfolding name_of
returns c = λ m nodes marks. record { each = refl; only = refl }
