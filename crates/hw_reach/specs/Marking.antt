-- Marks of nodes by their numbers, while they are made.
use Rattle.std.specs.Prelude.{◌≡◌, ℕ, ◌<◌, ◌≤◌, ◌⊎◌, Bool, true, false, List, get_or, Option, None, Some}
use Rattle.hw_pool.specs.declared.node.Node.{Node}
use Rattle.hw_pool.specs.Nodes.{node_at, EachChild}
use Rattle.hw_expr.specs.declared.net.Net.{Net}
use Rattle.hw_module.specs.declared.rows.WireRow.{WireRow}
use Rattle.hw_module.specs.declared.rows.RegRow.{RegRow}
use Rattle.hw_module.specs.declared.rows.ArrayRow.{ArrayRow}
use Rattle.hw_module.specs.declared.rows.ArrayWrite.{ArrayWrite}
use Rattle.hw_module.specs.Rows.{wire_at, reg_at, array_at, out_at}
use Rattle.hw_module.specs.Reached.{IsChild}

-- the node of this number is marked
abbrev pub IsMarked : List Bool → ℕ → Type 0
IsMarked marks k = get_or marks k false ≡ true

-- the numbers that meet P are marked beside those that were, and no other
pub record Marks (P : ℕ → Type 0) (old new : List Bool) : Type 0 where
  pub kept : (k : ℕ) → IsMarked old k → IsMarked new k
  pub made : (k : ℕ) → P k → IsMarked new k
  pub only : (k : ℕ) → IsMarked new k → IsMarked old k ⊎ P k

-- P holds at a number below n
pub record SomeBelow (P : ℕ → Type 0) (n : ℕ) : Type 0 where
  pub at : ℕ
  pub below : at < n
  pub here : P at

-- a driver is this node
abbrev pub IsDriver : Option Net → ℕ → Type 0
IsDriver None k = ⊥
IsDriver (Some net) k = net.id.0 ≡ k

-- an array's write has this node
abbrev pub IsOfWrite : Option ArrayWrite → ℕ → Type 0
IsOfWrite None k = ⊥
IsOfWrite (Some write) k = (write.enable.id.0 ≡ k) ⊎ ((write.addr.id.0 ≡ k) ⊎ (write.value.id.0 ≡ k))

-- the nodes of a driver, or of an array's write, meet P
abbrev pub EachDriver : (P : ℕ → Type 0) → Option Net → Type 0
EachDriver P None = Unit {0}
EachDriver P (Some net) = P net.id.0

abbrev pub EachOfWrite : (P : ℕ → Type 0) → Option ArrayWrite → Type 0
EachOfWrite P None = Unit {0}
EachOfWrite P (Some write) = P write.enable.id.0 × P write.addr.id.0 × P write.value.id.0

-- this node drives one of the first n forward wires, registers, arrays or ports
abbrev pub OfWires : List WireRow → (n k : ℕ) → Type 0
OfWires rows n k = SomeBelow (λ w. IsDriver (wire_at rows w).driver k) n

abbrev pub OfRegs : List RegRow → (n k : ℕ) → Type 0
OfRegs rows n k = SomeBelow (λ r. IsDriver (reg_at rows r).next k) n

abbrev pub OfArrays : List ArrayRow → (n k : ℕ) → Type 0
OfArrays rows n k = SomeBelow (λ a. IsOfWrite (array_at rows a).write k) n

abbrev pub OfOuts : List (Option Net) → (n k : ℕ) → Type 0
OfOuts outs n k = SomeBelow (λ p. IsDriver (out_at outs p) k) n

-- a node is marked, or one that such a node is made of
pub data PartOf (nodes : List Node) (marks : List Bool) : ℕ → Type 0 where
  Marked : {k : ℕ} → IsMarked marks k → PartOf nodes marks k
  Below : {k : ℕ} (j : ℕ) → PartOf nodes marks j → IsChild (node_at nodes j).op k → PartOf nodes marks k

-- From number n on, the children of marked nodes are marked, beside those nodes that were marked. All are parts of these.
pub record Closes (nodes : List Node) (n : ℕ) (old new : List Bool) : Type 0 where
  pub kept : (k : ℕ) → IsMarked old k → IsMarked new k
  pub closed : (k : ℕ) → n ≤ k → IsMarked new k → EachChild (IsMarked new) (node_at nodes k).op
  pub only : (k : ℕ) → IsMarked new k → PartOf nodes old k
