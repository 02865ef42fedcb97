-- A graph. Its nodes are the numbers below the length of a list, which has the nodes that each of them needs.
use Rattle.std.specs.Prelude.{◌≡◌, ℕ, ◌<◌, List, [], length, get_or}

-- what node x needs
abbrev pub needs : List (List ℕ) → ℕ → List ℕ
needs edges x = get_or edges x []

-- the ith of them
abbrev pub need : List (List ℕ) → ℕ → ℕ → ℕ
need edges x i = get_or (needs edges x) i 0

-- all needs are nodes
abbrev pub AreWithin : List (List ℕ) → Type 0
AreWithin edges = (x i : ℕ) → i < length (needs edges x) → need edges x i < length edges

-- x needs y
abbrev pub Edge : List (List ℕ) → ℕ → ℕ → Type 0
Edge edges x y = (i : ℕ) × ((i < length (needs edges x)) × (need edges x i ≡ y))

-- one or more edges lead from a node to another
pub data Leads (edges : List (List ℕ)) : ℕ → ℕ → Type 0 where
  direct : {x y : ℕ} → Edge edges x y → Leads edges x y
  further : {x y z : ℕ} → Leads edges x y → Edge edges y z → Leads edges x z
