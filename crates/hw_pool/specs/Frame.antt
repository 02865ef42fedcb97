-- What stays in a pool while nodes are added.
use Rattle.std.specs.Prelude.{◌≡◌, ℕ, ◌+◌, ◌<◌, ◌≤◌, List, length}
use Rattle.hw_pool.specs.declared.node.Node.{Node}
use Rattle.hw_pool.specs.declared.node.Op.{Op}
use Rattle.hw_pool.specs.declared.node.Op.TheVariants.{Lit, Input, Wire, Reg, Not, And, Or, Xor, Add, Sub, Eq, Ltu, Mux, Cat, Slice, Read}
use Rattle.hw_pool.specs.Nodes.{PoolValue, node_at, IsPool}
use Rattle.hw_pool.specs.Trees.{tree_of}

-- Live nodes and their trees stay as they were, at most n nodes are added, and the spare falls by at most n.
pub record Adds (old new : PoolValue) (n : ℕ) : Type 0 where
  pub longer : length old.nodes ≤ length new.nodes
  pub most : length new.nodes ≤ length old.nodes + n
  pub spare : old.spare ≤ new.spare + n
  pub nodes : (k : ℕ) → k < length old.nodes → node_at new.nodes k ≡ node_at old.nodes k
  pub trees : (k : ℕ) → k < length old.nodes → tree_of new.nodes k ≡ tree_of old.nodes k

-- an operator over nodes alone, which takes nothing from outside
abbrev pub IsInner : Op → Type 0
IsInner (Lit value) = Unit {0}
IsInner (Input port) = ⊥
IsInner (Wire wire) = ⊥
IsInner (Reg reg) = ⊥
IsInner (Not a) = Unit {0}
IsInner (And a b) = Unit {0}
IsInner (Or a b) = Unit {0}
IsInner (Xor a b) = Unit {0}
IsInner (Add a b) = Unit {0}
IsInner (Sub a b) = Unit {0}
IsInner (Eq a b) = Unit {0}
IsInner (Ltu a b) = Unit {0}
IsInner (Mux c a b) = Unit {0}
IsInner (Cat a b) = Unit {0}
IsInner (Slice a high low) = Unit {0}
IsInner (Read array a) = ⊥

-- live nodes stay as they were, and no node that is added takes anything from outside
pub record AddsInner (old new : List Node) : Type 0 where
  pub longer : length old ≤ length new
  pub nodes : (k : ℕ) → k < length old → node_at new k ≡ node_at old k
  pub inner : (k : ℕ) → length old ≤ k → k < length new → IsInner (node_at new k).op
  pub pool : IsPool old → IsPool new
