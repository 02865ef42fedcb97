-- What a search for an order knows at each step.
use Rattle.std.specs.Prelude.{◌≡◌, ℕ, suc, ◌+◌, ◌-◌, ◌*◌, ◌<◌, ◌≤◌, List, [], ◌∷◌, length, get_or}
use Rattle.topo_sort.specs.Graph.{needs, need, Edge}
use Rattle.topo_sort.specs.Ranks.{ranks, count_below}
use Rattle.topo_sort.specs.declared.search.Search.{Search}

pub record Inv (edges : List (List ℕ)) (ranks done path order : List ℕ) : Type 0 where
  pub ranks_len : length ranks ≡ length edges
  pub done_len : length done ≡ length edges
  -- the path: open nodes, each once, each with an edge to the next
  pub path_in : (k : ℕ) → k < length path → get_or path k 0 < length edges
  pub path_open : (k : ℕ) → k < length path → get_or ranks (get_or path k 0) 0 ≡ 1
  pub path_once : (j k : ℕ) → j < length path → k < length path → get_or path j 0 ≡ get_or path k 0 → j ≡ k
  pub linked : (k : ℕ) → suc k < length path → Edge edges (get_or path k 0) (get_or path (suc k) 0)
  pub on_path : (x : ℕ) → get_or ranks x 0 ≡ 1 → (k : ℕ) × ((k < length path) × (get_or path k 0 ≡ x))
  -- the order: a node's place is its rank, and its needs have lower ranks
  pub below : (x : ℕ) → get_or ranks x 0 < length order + 2
  pub placed : (x : ℕ) → 2 ≤ get_or ranks x 0 → get_or order (get_or ranks x 0 - 2) 0 ≡ x
  pub listed : (k : ℕ) → k < length order → get_or ranks (get_or order k 0) 0 ≡ k + 2
  pub lower : (x i : ℕ) → 2 ≤ get_or ranks x 0 → i < length (needs edges x) → (2 ≤ get_or ranks (need edges x i) 0) × (get_or ranks (need edges x i) 0 < get_or ranks x 0)
  pub counted : length order + count_below 2 ranks ≡ length edges
  -- the first needs of a node that are known to stand in the order
  pub passed : (x i : ℕ) → i < get_or done x 0 → 2 ≤ get_or ranks (need edges x i) 0

abbrev pub IsSearch : List (List ℕ) → Search → Type 0
IsSearch edges s = Inv edges (ranks s) s.done.items s.path.items s.order.items

-- the needs of all nodes that are not yet known to stand in the order
abbrev pub left : (edges : List (List ℕ)) (done : List ℕ) → ℕ
left [] done = 0
left (needs ∷ edges) [] = 0
left (needs ∷ edges) (n ∷ done) = (length needs - n) + left edges done

-- a bound on the number of steps that are left before the path is empty
abbrev pub work_left : (edges : List (List ℕ)) (ranks done path : List ℕ) → ℕ
work_left edges ranks done path = 2 * count_below 1 ranks + length path + left edges done

abbrev pub work : List (List ℕ) → Search → ℕ
work edges s = work_left edges (ranks s) s.done.items s.path.items
