use Rattle.std.proofs.Common.{ℕ, ◌<◌, ◌+◌, get_or}
use Rattle.topo_sort.specs.Falls.{AreBelow}
use Rattle.topo_sort.proofs.falls.do_fall.Given as goal

abbrev pub invariant-loop-node : goal.invariant-loop-node
invariant-loop-node l = (x : ℕ) → x < l.node → AreBelow l.edges l.ranks x (get_or l.ranks x 0 + 1)
