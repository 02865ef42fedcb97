use Rattle.std.proofs.Common.{◌≡◌, ℕ, ◌<◌, []}
use Rattle.topo_sort.specs.Ranks.{IsSeen}
use Rattle.topo_sort.specs.Search.{IsSearch}
use Rattle.topo_sort.proofs.order.sort.Given as goal

abbrev pub invariant-loop-root : goal.invariant-loop-root
invariant-loop-root l = IsSearch l.edges l.search × (l.search.path.items ≡ []) × ((x : ℕ) → x < l.root → IsSeen l.search x)
