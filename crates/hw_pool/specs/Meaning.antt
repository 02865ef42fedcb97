-- The value of a tree in a cycle.
use Rattle.std.specs.Prelude.{◌≡◌, ℕ, ◌+◌, ◌^◌, ◌<◌, ◌≤◌, eqb, ltb, List, get_or, bit_and, bit_or, bit_xor}
use Rattle.core_words.specs.Values.{one_if, add_of, sub_of, not_of, bits_of, choose, join_of}
use Rattle.hw_pool.specs.Nodes.{IsWidth}
use Rattle.hw_pool.specs.Trees.{Tree, width_of}
use Rattle.hw_pool.specs.Trees.Tree.{Lit, Input, Wire, Reg, Not, And, Or, Xor, Add, Sub, Eq, Ltu, Mux, Cat, Slice, Read}

-- the values of the inputs, forward wires and registers in a cycle, and the cells of the arrays, by their numbers
pub record Env : Type 0 where
  pub inputs : ℕ → ℕ
  pub wires : ℕ → ℕ
  pub regs : ℕ → ℕ
  pub cells : ℕ → List ℕ

-- the value of a tree (IEEE 1364-2005, clause 5.1)
abbrev pub value : Env → Tree → ℕ
value env (Lit width v) = v
value env (Input width port) = env.inputs port
value env (Wire width wire) = env.wires wire
value env (Reg width reg) = env.regs reg
value env (Not width a) = not_of (width_of a) (value env a)
value env (And width a b) = bit_and (value env a) (value env b)
value env (Or width a b) = bit_or (value env a) (value env b)
value env (Xor width a b) = bit_xor (value env a) (value env b)
value env (Add width a b) = add_of (width_of a) (value env a) (value env b)
value env (Sub width a b) = sub_of (width_of a) (value env a) (value env b)
value env (Eq width a b) = one_if (eqb (value env a) (value env b))
value env (Ltu width a b) = one_if (ltb (value env a) (value env b))
value env (Mux width c a b) = choose (value env c) (value env a) (value env b)
value env (Cat width a b) = join_of (width_of b) (value env a) (value env b)
value env (Slice width a high low) = bits_of (value env a) high low
value env (Read width array a) = get_or (env.cells array) (value env a) 0

-- The widths fit: each operator's operands have the widths that it needs, and its own is that of its value.
-- Widths of inputs, wires, registers and arrays are told by the module that they belong to.
abbrev pub Fits : Tree → Type 0
Fits (Lit width v) = IsWidth width × (v < 2 ^ width)
Fits (Input width port) = IsWidth width
Fits (Wire width wire) = IsWidth width
Fits (Reg width reg) = IsWidth width
Fits (Not width a) = IsWidth width × (width_of a ≡ width) × Fits a
Fits (And width a b) = IsWidth width × (width_of a ≡ width) × (width_of b ≡ width) × Fits a × Fits b
Fits (Or width a b) = IsWidth width × (width_of a ≡ width) × (width_of b ≡ width) × Fits a × Fits b
Fits (Xor width a b) = IsWidth width × (width_of a ≡ width) × (width_of b ≡ width) × Fits a × Fits b
Fits (Add width a b) = IsWidth width × (width_of a ≡ width) × (width_of b ≡ width) × Fits a × Fits b
Fits (Sub width a b) = IsWidth width × (width_of a ≡ width) × (width_of b ≡ width) × Fits a × Fits b
Fits (Eq width a b) = (width ≡ 1) × (width_of a ≡ width_of b) × Fits a × Fits b
Fits (Ltu width a b) = (width ≡ 1) × (width_of a ≡ width_of b) × Fits a × Fits b
Fits (Mux width c a b) = IsWidth width × (width_of c ≡ 1) × (width_of a ≡ width) × (width_of b ≡ width) × Fits c × Fits a × Fits b
Fits (Cat width a b) = IsWidth width × (width_of a + width_of b ≡ width) × Fits a × Fits b
Fits (Slice width a high low) = (low ≤ high) × (high < width_of a) × (width + low ≡ high + 1) × Fits a
Fits (Read width array a) = IsWidth width × Fits a

-- the values that a tree takes from outside are below 2 ^ the width that it gives them
abbrev pub Within : Env → Tree → Type 0
Within env (Lit width v) = Unit {0}
Within env (Input width port) = env.inputs port < 2 ^ width
Within env (Wire width wire) = env.wires wire < 2 ^ width
Within env (Reg width reg) = env.regs reg < 2 ^ width
Within env (Not width a) = Within env a
Within env (And width a b) = Within env a × Within env b
Within env (Or width a b) = Within env a × Within env b
Within env (Xor width a b) = Within env a × Within env b
Within env (Add width a b) = Within env a × Within env b
Within env (Sub width a b) = Within env a × Within env b
Within env (Eq width a b) = Within env a × Within env b
Within env (Ltu width a b) = Within env a × Within env b
Within env (Mux width c a b) = Within env c × Within env a × Within env b
Within env (Cat width a b) = Within env a × Within env b
Within env (Slice width a high low) = Within env a
Within env (Read width array a) = (get_or (env.cells array) (value env a) 0 < 2 ^ width) × Within env a
