-- An order of all nodes of a graph, in which each stands behind those that it needs.
use Rattle.std.specs.Prelude.{◌≡◌, ℕ, ◌<◌, List, length, get_or}
use Rattle.topo_sort.specs.Graph.{needs, need, Leads}

pub record IsOrder (edges : List (List ℕ)) (order : List ℕ) : Type 0 where
  -- as many places as nodes, a node at each, and each node at one
  pub size : length order ≡ length edges
  pub nodes : (k : ℕ) → k < length order → get_or order k 0 < length edges
  pub all : (x : ℕ) → x < length edges → (k : ℕ) × ((k < length order) × (get_or order k 0 ≡ x))
  pub once : (j k : ℕ) → j < length order → k < length order → get_or order j 0 ≡ get_or order k 0 → j ≡ k
  -- what the node at k needs stands nearer the front
  pub behind : (k i : ℕ) → k < length order → i < length (needs edges (get_or order k 0)) → (j : ℕ) × ((j < k) × (get_or order j 0 ≡ need edges (get_or order k 0) i))
  pub no_loop : (x : ℕ) → Leads edges x x → ⊥
