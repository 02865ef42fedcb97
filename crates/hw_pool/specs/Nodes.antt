-- A pool as a list of nodes, each behind its children.
use Rattle.std.specs.Prelude.{ℕ, ◌<◌, ◌≤◌, List, length, get_or}
use Rattle.hw_pool.specs.declared.node.Node.{Node}
use Rattle.hw_pool.specs.declared.node.Op.{Op}
use Rattle.hw_pool.specs.declared.node.Op.TheVariants.{Lit, Input, Wire, Reg, Not, And, Or, Xor, Add, Sub, Eq, Ltu, Mux, Cat, Slice, Read}

-- what a contract sees of a pool: its live nodes, and how many more can be added without memory
pub record PoolValue : Type 0 where
  pub nodes : List Node
  pub spare : ℕ

-- the node of a number
abbrev pub node_at : List Node → ℕ → Node
node_at nodes k = get_or nodes k (record { op = Lit 0; width = 1; level = 0 })

-- each node that an operator names meets P
abbrev pub EachChild : (P : ℕ → Type 0) → Op → Type 0
EachChild P (Lit value) = Unit {0}
EachChild P (Input port) = Unit {0}
EachChild P (Wire wire) = Unit {0}
EachChild P (Reg reg) = Unit {0}
EachChild P (Not a) = P a.0
EachChild P (And a b) = P a.0 × P b.0
EachChild P (Or a b) = P a.0 × P b.0
EachChild P (Xor a b) = P a.0 × P b.0
EachChild P (Add a b) = P a.0 × P b.0
EachChild P (Sub a b) = P a.0 × P b.0
EachChild P (Eq a b) = P a.0 × P b.0
EachChild P (Ltu a b) = P a.0 × P b.0
EachChild P (Mux c a b) = P c.0 × P a.0 × P b.0
EachChild P (Cat a b) = P a.0 × P b.0
EachChild P (Slice a high low) = P a.0
EachChild P (Read array a) = P a.0

-- a number of bits
abbrev pub IsWidth : ℕ → Type 0
IsWidth width = (1 ≤ width) × (width ≤ 64)

-- each child is a node before number k, of at most this level
abbrev pub AreChildren : (nodes : List Node) (k level : ℕ) → Op → Type 0
AreChildren nodes k level op = EachChild (λ c. (c < k) × ((node_at nodes c).level ≤ level)) op

-- the nodes of a pool
pub record IsPool (nodes : List Node) : Type 0 where
  pub few : length nodes ≤ 65535
  pub widths : (k : ℕ) → k < length nodes → IsWidth (node_at nodes k).width
  pub children : (k : ℕ) → k < length nodes → AreChildren nodes k (node_at nodes k).level (node_at nodes k).op
