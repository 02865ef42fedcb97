-- How far a search has come with each node, as numbers.
use Rattle.std.specs.Prelude.{ℕ, ◌+◌, ◌<◌, List, get_or, map, ltb, count_by}
use Rattle.topo_sort.specs.declared.mark.Mark.{Mark}
use Rattle.topo_sort.specs.declared.mark.Mark.TheVariants.{New, Open, Placed}
use Rattle.topo_sort.specs.declared.search.Search.{Search}

-- 0 for a node that is new, 1 for one on the path, and its place and 2 for one in the order
abbrev pub rank_of : Mark → ℕ
rank_of New = 0
rank_of Open = 1
rank_of (Placed place) = place + 2

abbrev pub ranks : Search → List ℕ
ranks s = map rank_of s.marks.items

-- the search has come to a node
abbrev pub IsSeen : Search → ℕ → Type 0
IsSeen s x = 0 < get_or (ranks s) x 0

-- how many nodes have a rank below a bound
abbrev pub count_below : (bound : ℕ) → List ℕ → ℕ
count_below bound rs = count_by (λ r. ltb r bound) rs
