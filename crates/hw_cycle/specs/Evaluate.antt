-- The value of one node, from the values of its children.
use Rattle.std.specs.Prelude.{◌≡◌, ℕ, ◌^◌, ◌<◌, ◌≤◌, true, eqb, ltb, List, length, get_or, bit_and, bit_or, bit_xor}
use Rattle.core_words.specs.Values.{one_if, add_of, sub_of, not_of, bits_of, choose, join_of}
use Rattle.core_ports.specs.Ports.{is_input}
use Rattle.hw_pool.specs.declared.node.Op.{Op}
use Rattle.hw_pool.specs.declared.node.Op.TheVariants.{Lit, Input, Wire, Reg, Not, And, Or, Xor, Add, Sub, Eq, Ltu, Mux, Cat, Slice, Read}
use Rattle.hw_pool.specs.Nodes.{IsWidth}
use Rattle.hw_pool.specs.Meaning.{Env}
use Rattle.hw_module.specs.Ports.{port_at}
use Rattle.hw_cycle.specs.State.{cells_at}
use Rattle.hw_cycle.specs.Inputs.{ins_of}

-- the numbers of a cycle as lists
abbrev pub env_here : (ins regs : List ℕ) (cells : List (List ℕ)) (wires : List ℕ) → Env
env_here ins regs cells wires = record {
  inputs = ins_of ins;
  wires = λ w. get_or wires w 0;
  regs = λ r. get_or regs r 0;
  cells = λ a. cells_at cells a;
}

-- the value of an operator over children with these widths and values
abbrev pub op_value : Env → (width value : ℕ → ℕ) → Op → ℕ
op_value env width value (Lit v) = v
op_value env width value (Input port) = env.inputs port
op_value env width value (Wire wire) = env.wires wire
op_value env width value (Reg reg) = env.regs reg
op_value env width value (Not a) = not_of (width a.0) (value a.0)
op_value env width value (And a b) = bit_and (value a.0) (value b.0)
op_value env width value (Or a b) = bit_or (value a.0) (value b.0)
op_value env width value (Xor a b) = bit_xor (value a.0) (value b.0)
op_value env width value (Add a b) = add_of (width a.0) (value a.0) (value b.0)
op_value env width value (Sub a b) = sub_of (width a.0) (value a.0) (value b.0)
op_value env width value (Eq a b) = one_if (eqb (value a.0) (value b.0))
op_value env width value (Ltu a b) = one_if (ltb (value a.0) (value b.0))
op_value env width value (Mux c a b) = choose (value c.0) (value a.0) (value b.0)
op_value env width value (Cat a b) = join_of (width b.0) (value a.0) (value b.0)
op_value env width value (Slice a high low) = bits_of (value a.0) high low
op_value env width value (Read array a) = get_or (env.cells array) (value a.0) 0

-- how many things there are
pub record Counts : Type 0 where
  pub nodes : ℕ
  pub wires : ℕ
  pub regs : ℕ
  pub cells : List (List ℕ)

-- What the value of an operator needs: it names what there is, and its operands have the widths and values with
-- which its value has at most 64 bits.
abbrev pub CanEvaluate : Counts → (width value : ℕ → ℕ) → Op → Type 0
CanEvaluate n width value (Lit v) = Unit {0}
CanEvaluate n width value (Input port) = (port < 30) × (is_input (port_at port) ≡ true)
CanEvaluate n width value (Wire wire) = wire < n.wires
CanEvaluate n width value (Reg reg) = reg < n.regs
CanEvaluate n width value (Not a) = (a.0 < n.nodes) × IsWidth (width a.0)
CanEvaluate n width value (And a b) = (a.0 < n.nodes) × (b.0 < n.nodes)
CanEvaluate n width value (Or a b) = (a.0 < n.nodes) × (b.0 < n.nodes)
CanEvaluate n width value (Xor a b) = (a.0 < n.nodes) × (b.0 < n.nodes)
CanEvaluate n width value (Add a b) = (a.0 < n.nodes) × (b.0 < n.nodes) × IsWidth (width a.0)
CanEvaluate n width value (Sub a b) = (a.0 < n.nodes) × (b.0 < n.nodes) × IsWidth (width a.0) × (value b.0 < 2 ^ width a.0)
CanEvaluate n width value (Eq a b) = (a.0 < n.nodes) × (b.0 < n.nodes)
CanEvaluate n width value (Ltu a b) = (a.0 < n.nodes) × (b.0 < n.nodes)
CanEvaluate n width value (Mux c a b) = (c.0 < n.nodes) × (a.0 < n.nodes) × (b.0 < n.nodes)
CanEvaluate n width value (Cat a b) = (a.0 < n.nodes) × (b.0 < n.nodes) × (width b.0 < 64) × (join_of (width b.0) (value a.0) (value b.0) < 2 ^ 64)
CanEvaluate n width value (Slice a high low) = (a.0 < n.nodes) × (low ≤ high) × (high < 64)
CanEvaluate n width value (Read array a) = (a.0 < n.nodes) × (array < length n.cells) × (value a.0 < length (cells_at n.cells array))
