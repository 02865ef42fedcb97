use Rattle.std.proofs.Common.{◌-◌}
use Rattle.topo_sort.specs.Reach.{room}
use Rattle.topo_sort.proofs.Found.{HasCome}
use Rattle.topo_sort.proofs.reach.is_reached.Given as goal

abbrev pub invariant-loop-at : goal.invariant-loop-at
invariant-loop-at l = HasCome l.edges l.node l.reached l.at

abbrev pub decreases-loop-at : goal.decreases-loop-at
decreases-loop-at l = room l.reached - l.at
