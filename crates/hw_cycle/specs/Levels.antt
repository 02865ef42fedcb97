-- Values level by level.
use Rattle.std.specs.Prelude.{◌≡◌, ℕ, ◌^◌, ◌<◌, Bool, true, false, List, length, get_or, max, Option, None, Some}
use Rattle.core_ports.specs.Ports.{is_input}
use Rattle.core_ports.specs.Ports as ports
use Rattle.hw_pool.specs.declared.node.Node.{Node}
use Rattle.hw_pool.specs.declared.node.Op.{Op}
use Rattle.hw_pool.specs.declared.node.Op.TheVariants.{Lit, Input, Wire, Reg, Not, And, Or, Xor, Add, Sub, Eq, Ltu, Mux, Cat, Slice, Read}
use Rattle.hw_pool.specs.Trees.{tree_of}
use Rattle.hw_pool.specs.Meaning.{value}
use Rattle.hw_expr.specs.declared.net.Net.{Net}
use Rattle.hw_module.specs.declared.rows.WireRow.{WireRow}
use Rattle.hw_module.specs.Ports.{port_at}
use Rattle.hw_module.specs.Rows.{ModuleValue, wire_at, reg_at, array_at}
use Rattle.hw_module.specs.Cycle.{Held, wire_value, cycle_env}
use Rattle.hw_module.specs.Reached.{top_of}
use Rattle.hw_cycle.specs.State.{cells_at}

-- what a module's inputs, registers and arrays hold is within their widths
pub record AreHeld (m : ModuleValue) (s : Held) (ins : ℕ → ℕ) : Type 0 where
  pub inputs : (p : ℕ) → p < 30 → is_input (port_at p) ≡ true → ins p < 2 ^ ports.width_of (port_at p)
  pub regs : (r : ℕ) → r < length m.regs → s.regs r < 2 ^ (reg_at m.regs r).width
  pub cells : (a i : ℕ) → a < length m.arrays → get_or (s.cells a) i 0 < 2 ^ (array_at m.arrays a).width

-- as many numbers as a module has forward wires and registers, and the cells of its arrays
pub record AreShaped (m : ModuleValue) (wires regs : ℕ) (cells : List (List ℕ)) : Type 0 where
  pub wires_many : wires ≡ length m.wires
  pub regs_many : regs ≡ length m.regs
  pub arrays_many : length cells ≡ length m.arrays
  pub counts : (a : ℕ) → a < length m.arrays → length (cells_at cells a) ≡ 2 ^ (array_at m.arrays a).bits

-- a node is marked
abbrev pub IsMarked : List Bool → ℕ → Type 0
IsMarked marks k = get_or marks k false ≡ true

-- the highest level of the forward wires in a node's tree
abbrev pub top_at : ModuleValue → List Node → ℕ → ℕ
top_at m nodes k = top_of m.wires (tree_of nodes k)

-- the same of an operator, from those of its children
abbrev pub op_top : List WireRow → (top : ℕ → ℕ) → Op → ℕ
op_top rows top (Lit v) = 0
op_top rows top (Input port) = 0
op_top rows top (Wire wire) = (wire_at rows wire).level
op_top rows top (Reg reg) = 0
op_top rows top (Not a) = top a.0
op_top rows top (And a b) = max (top a.0) (top b.0)
op_top rows top (Or a b) = max (top a.0) (top b.0)
op_top rows top (Xor a b) = max (top a.0) (top b.0)
op_top rows top (Add a b) = max (top a.0) (top b.0)
op_top rows top (Sub a b) = max (top a.0) (top b.0)
op_top rows top (Eq a b) = max (top a.0) (top b.0)
op_top rows top (Ltu a b) = max (top a.0) (top b.0)
op_top rows top (Mux c a b) = max (top c.0) (max (top a.0) (top b.0))
op_top rows top (Cat a b) = max (top a.0) (top b.0)
op_top rows top (Slice a high low) = top a.0
op_top rows top (Read array a) = top a.0

-- a fact of the forward wire that an operator reads
abbrev pub OfWire : (P : ℕ → Type 0) → Op → Type 0
OfWire P (Wire wire) = P wire
OfWire P _ = Unit {0}

-- the value of a driver, from the values of the nodes
abbrev pub driven_by : List ℕ → Option Net → ℕ
driven_by values None = 0
driven_by values (Some net) = get_or values net.id.0 0

-- a driver is one of n nodes
abbrev pub IsLive : (n : ℕ) → Option Net → Type 0
IsLive n None = Unit {0}
IsLive n (Some net) = net.id.0 < n

-- the list has the top levels of the marked nodes before number k
abbrev pub AreTops : ModuleValue → List Node → List Bool → (k : ℕ) → List ℕ → Type 0
AreTops m nodes marks k tops = (j : ℕ) → j < k → IsMarked marks j → get_or tops j 0 ≡ top_at m nodes j

module _ (m : ModuleValue) (nodes : List Node) (s : Held) (ins : ℕ → ℕ) (marks : List Bool) where
  -- the value of a node in the cycle
  unfoldable pub node_value : ℕ → ℕ
  node_value k = value (cycle_env m nodes s ins) (tree_of nodes k)

  -- The forward wires below a level have their values, and those of this level before number w.
  pub record WiresDone (level w : ℕ) (wires : List ℕ) : Type 0 where
    pub lower : (v : ℕ) → v < length m.wires → (wire_at m.wires v).level < level → get_or wires v 0 ≡ wire_value m nodes s ins v
    pub here : (v : ℕ) → v < length m.wires → v < w → (wire_at m.wires v).level ≡ level → get_or wires v 0 ≡ wire_value m nodes s ins v

  -- The marked nodes below a top level have their values, and those of this one before number k.
  pub record NodesDone (level k : ℕ) (values : List ℕ) : Type 0 where
    pub lower : (j : ℕ) → IsMarked marks j → top_at m nodes j < level → get_or values j 0 ≡ node_value j
    pub here : (j : ℕ) → IsMarked marks j → j < k → top_at m nodes j ≡ level → get_or values j 0 ≡ node_value j
