use Rattle.std.proofs.Common.{ℕ, ◌<◌, get_or}
use Rattle.topo_sort.specs.Graph.{need}
use Rattle.topo_sort.proofs.falls.are_below.Given as goal

abbrev pub invariant-loop-i : goal.invariant-loop-i
invariant-loop-i l = (j : ℕ) → j < l.i → get_or l.ranks (need l.edges l.node j) 0 < l.bound
