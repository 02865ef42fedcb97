use Rattle.std.proofs.Common.{ℕ}
use Rattle.topo_sort.specs.Ranks.{IsSeen}
use Rattle.topo_sort.specs.Search.{IsSearch, work}
use Rattle.topo_sort.proofs.order.follow.Given as goal

abbrev pub invariant-loop-top : goal.invariant-loop-top
invariant-loop-top l = IsSearch l.edges l.search × ((x : ℕ) → IsSeen l.initial.search x → IsSeen l.search x)

abbrev pub decreases-loop-top : goal.decreases-loop-top
decreases-loop-top l = work l.edges l.search
