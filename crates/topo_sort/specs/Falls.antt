-- Ranks of nodes that do not rise along any edge.
use Rattle.std.specs.Prelude.{ℕ, ◌<◌, ◌≤◌, List, length, get_or}
use Rattle.topo_sort.specs.Graph.{needs, need}

-- all that a node needs has a rank below a bound
abbrev pub AreBelow : (edges : List (List ℕ)) (ranks : List ℕ) (node bound : ℕ) → Type 0
AreBelow edges ranks node bound = (i : ℕ) → i < length (needs edges node) → get_or ranks (need edges node i) 0 < bound

abbrev pub DoFall : (edges : List (List ℕ)) (ranks : List ℕ) → Type 0
DoFall edges ranks = (x i : ℕ) → i < length (needs edges x) → get_or ranks (need edges x i) 0 ≤ get_or ranks x 0
