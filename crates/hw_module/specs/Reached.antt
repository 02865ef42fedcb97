-- The nodes that a module reaches: its drivers and all that they are made of.
use Rattle.std.specs.Prelude.{◌≡◌, ℕ, ◌<◌, ◌⊎◌, Bool, true, false, List, length, get_or, max, Some}
use Rattle.hw_pool.specs.declared.node.Node.{Node}
use Rattle.hw_pool.specs.declared.node.Op.{Op}
use Rattle.hw_pool.specs.declared.node.Op.TheVariants as op
use Rattle.hw_pool.specs.Nodes.{node_at, EachChild}
use Rattle.hw_pool.specs.Trees.{Tree, tree_of}
use Rattle.hw_pool.specs.Trees.Tree.{Lit, Input, Wire, Reg, Not, And, Or, Xor, Add, Sub, Eq, Ltu, Mux, Cat, Slice, Read}
use Rattle.hw_pool.specs.Meaning.{Fits}
use Rattle.hw_expr.specs.declared.net.Net.{Net}
use Rattle.hw_module.specs.declared.rows.WireRow.{WireRow}
use Rattle.hw_module.specs.declared.rows.ArrayWrite.{ArrayWrite}
use Rattle.hw_module.specs.Rows.{ModuleValue, wire_at, reg_at, array_at, out_at}
use Rattle.hw_module.specs.Fits.{TreeFits}

-- a node is a driver of a thing, or one of the three of an array
pub data Drives (m : ModuleValue) : ℕ → Type 0 where
  OfWire : {k : ℕ} (w : ℕ) (net : Net) → w < length m.wires → (wire_at m.wires w).driver ≡ Some net → net.id.0 ≡ k → Drives m k
  OfReg : {k : ℕ} (r : ℕ) (net : Net) → r < length m.regs → (reg_at m.regs r).next ≡ Some net → net.id.0 ≡ k → Drives m k
  OfEnable : {k : ℕ} (a : ℕ) (w : ArrayWrite) → a < length m.arrays → (array_at m.arrays a).write ≡ Some w → w.enable.id.0 ≡ k → Drives m k
  OfAddr : {k : ℕ} (a : ℕ) (w : ArrayWrite) → a < length m.arrays → (array_at m.arrays a).write ≡ Some w → w.addr.id.0 ≡ k → Drives m k
  OfValue : {k : ℕ} (a : ℕ) (w : ArrayWrite) → a < length m.arrays → (array_at m.arrays a).write ≡ Some w → w.value.id.0 ≡ k → Drives m k
  OfPort : {k : ℕ} (p : ℕ) (net : Net) → p < 30 → out_at m.outs p ≡ Some net → net.id.0 ≡ k → Drives m k

-- a node is one that an operator names
abbrev pub IsChild : Op → ℕ → Type 0
IsChild (op.Lit value) k = ⊥
IsChild (op.Input port) k = ⊥
IsChild (op.Wire wire) k = ⊥
IsChild (op.Reg reg) k = ⊥
IsChild (op.Not a) k = a.0 ≡ k
IsChild (op.And a b) k = (a.0 ≡ k) ⊎ (b.0 ≡ k)
IsChild (op.Or a b) k = (a.0 ≡ k) ⊎ (b.0 ≡ k)
IsChild (op.Xor a b) k = (a.0 ≡ k) ⊎ (b.0 ≡ k)
IsChild (op.Add a b) k = (a.0 ≡ k) ⊎ (b.0 ≡ k)
IsChild (op.Sub a b) k = (a.0 ≡ k) ⊎ (b.0 ≡ k)
IsChild (op.Eq a b) k = (a.0 ≡ k) ⊎ (b.0 ≡ k)
IsChild (op.Ltu a b) k = (a.0 ≡ k) ⊎ (b.0 ≡ k)
IsChild (op.Mux c a b) k = (c.0 ≡ k) ⊎ ((a.0 ≡ k) ⊎ (b.0 ≡ k))
IsChild (op.Cat a b) k = (a.0 ≡ k) ⊎ (b.0 ≡ k)
IsChild (op.Slice a high low) k = a.0 ≡ k
IsChild (op.Read array a) k = a.0 ≡ k

pub data Reached (m : ModuleValue) (nodes : List Node) : ℕ → Type 0 where
  Driver : {k : ℕ} → Drives m k → Reached m nodes k
  Child : {k : ℕ} (j : ℕ) → Reached m nodes j → IsChild (node_at nodes j).op k → Reached m nodes k

-- Marks of nodes by their numbers: those that the module reaches, and no other.
pub record AreMarks (m : ModuleValue) (nodes : List Node) (marks : List Bool) : Type 0 where
  pub many : length marks ≡ length nodes
  pub drivers : (k : ℕ) → Drives m k → get_or marks k false ≡ true
  pub children : (k : ℕ) → get_or marks k false ≡ true → EachChild (λ c. get_or marks c false ≡ true) (node_at nodes k).op
  pub only : (k : ℕ) → get_or marks k false ≡ true → Reached m nodes k

-- the highest level of the forward wires in a tree, 0 without any
abbrev pub top_of : List WireRow → Tree → ℕ
top_of rows (Lit width value) = 0
top_of rows (Input width port) = 0
top_of rows (Wire width wire) = (wire_at rows wire).level
top_of rows (Reg width reg) = 0
top_of rows (Not width a) = top_of rows a
top_of rows (And width a b) = max (top_of rows a) (top_of rows b)
top_of rows (Or width a b) = max (top_of rows a) (top_of rows b)
top_of rows (Xor width a b) = max (top_of rows a) (top_of rows b)
top_of rows (Add width a b) = max (top_of rows a) (top_of rows b)
top_of rows (Sub width a b) = max (top_of rows a) (top_of rows b)
top_of rows (Eq width a b) = max (top_of rows a) (top_of rows b)
top_of rows (Ltu width a b) = max (top_of rows a) (top_of rows b)
top_of rows (Mux width c a b) = max (top_of rows c) (max (top_of rows a) (top_of rows b))
top_of rows (Cat width a b) = max (top_of rows a) (top_of rows b)
top_of rows (Slice width a high low) = top_of rows a
top_of rows (Read width array a) = top_of rows a

-- A node that a module reaches is live, and its tree fits, with all its forward wires.
pub record ReachedFits (m : ModuleValue) (nodes : List Node) (k : ℕ) : Type 0 where
  pub live : k < length nodes
  pub fits : Fits (tree_of nodes k)
  pub tree : TreeFits m (top_of m.wires (tree_of nodes k)) (tree_of nodes k)
