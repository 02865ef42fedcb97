-- The tree of a node: its operator over the trees of its children.
use Rattle.std.specs.Prelude.{ℕ, zero, suc, List}
use Rattle.hw_pool.specs.declared.node.Node.{Node}
use Rattle.hw_pool.specs.declared.node.Op.{Op}
use Rattle.hw_pool.specs.declared.node.Op.TheVariants as op
use Rattle.hw_pool.specs.Nodes.{node_at}

-- An expression over inputs, forward wires, registers and reads of arrays. Each part has its width, and
-- inputs, wires, registers and arrays are named by their numbers.
pub data Tree : Type 0 where
  Lit : (width value : ℕ) → Tree
  Input : (width port : ℕ) → Tree
  Wire : (width wire : ℕ) → Tree
  Reg : (width reg : ℕ) → Tree
  Not : (width : ℕ) (a : Tree) → Tree
  And : (width : ℕ) (a b : Tree) → Tree
  Or : (width : ℕ) (a b : Tree) → Tree
  Xor : (width : ℕ) (a b : Tree) → Tree
  Add : (width : ℕ) (a b : Tree) → Tree
  Sub : (width : ℕ) (a b : Tree) → Tree
  Eq : (width : ℕ) (a b : Tree) → Tree
  Ltu : (width : ℕ) (a b : Tree) → Tree
  Mux : (width : ℕ) (c a b : Tree) → Tree
  Cat : (width : ℕ) (a b : Tree) → Tree
  Slice : (width : ℕ) (a : Tree) (high low : ℕ) → Tree
  Read : (width array : ℕ) (a : Tree) → Tree

abbrev pub width_of : Tree → ℕ
width_of (Lit width value) = width
width_of (Input width port) = width
width_of (Wire width wire) = width
width_of (Reg width reg) = width
width_of (Not width a) = width
width_of (And width a b) = width
width_of (Or width a b) = width
width_of (Xor width a b) = width
width_of (Add width a b) = width
width_of (Sub width a b) = width
width_of (Eq width a b) = width
width_of (Ltu width a b) = width
width_of (Mux width c a b) = width
width_of (Cat width a b) = width
width_of (Slice width a high low) = width
width_of (Read width array a) = width

-- an operator over trees of its children
abbrev pub of_op : (below : ℕ → Tree) (width : ℕ) → Op → Tree
of_op below width (op.Lit value) = Lit width value
of_op below width (op.Input port) = Input width port
of_op below width (op.Wire wire) = Wire width wire
of_op below width (op.Reg reg) = Reg width reg
of_op below width (op.Not a) = Not width (below a.0)
of_op below width (op.And a b) = And width (below a.0) (below b.0)
of_op below width (op.Or a b) = Or width (below a.0) (below b.0)
of_op below width (op.Xor a b) = Xor width (below a.0) (below b.0)
of_op below width (op.Add a b) = Add width (below a.0) (below b.0)
of_op below width (op.Sub a b) = Sub width (below a.0) (below b.0)
of_op below width (op.Eq a b) = Eq width (below a.0) (below b.0)
of_op below width (op.Ltu a b) = Ltu width (below a.0) (below b.0)
of_op below width (op.Mux c a b) = Mux width (below c.0) (below a.0) (below b.0)
of_op below width (op.Cat a b) = Cat width (below a.0) (below b.0)
of_op below width (op.Slice a high low) = Slice width (below a.0) high low
of_op below width (op.Read array a) = Read width array (below a.0)

-- a node over trees of its children
abbrev pub of_node : (below : ℕ → Tree) → Node → Tree
of_node below node = of_op below node.width node.op

-- the tree of a node, to a depth
unfoldable pub unfold_to : (depth : ℕ) → List Node → ℕ → Tree
unfold_to zero nodes k = Lit 1 0
unfold_to (suc depth) nodes k = of_node (unfold_to depth nodes) (node_at nodes k)

-- The tree of a live node. Children come before their parent, so no path down from number k is longer than k.
unfoldable pub tree_of : List Node → ℕ → Tree
tree_of nodes k = unfold_to (suc k) nodes k
