-- The values of nodes, exactly as they are computed.
use Rattle.std.specs.Prelude.{ℕ, suc, ◌+◌, ◌-◌, ◌*◌, ◌/◌, ◌%◌, ◌^◌, ◌<◌, ◌≤◌, cond, eqb, ltb, List, [], ◌∷◌, ◌++◌, get_or, bit_and, bit_or, bit_xor}
use Rattle.verilog_flat.specs.declared.node.Node.{Node}
use Rattle.verilog_flat.specs.declared.node.Node.TheVariants.{Literal, Input, Reg, Slice, Cell, Not, Join, Or, Xor, And, Equal, Less, Plus, Minus, Choice}

-- the value of a node, where vals has those of the nodes before it
abbrev pub node_value : (regs cells ins vals : List ℕ) → Node → ℕ
node_value regs cells ins vals (Literal value) = value
node_value regs cells ins vals (Input port) = get_or ins port 0
node_value regs cells ins vals (Reg reg) = get_or regs reg 0
node_value regs cells ins vals (Slice of low mask) = bit_and (get_or vals of 0 / 2 ^ low) mask
node_value regs cells ins vals (Cell index base size) = cond (ltb (get_or vals index 0) size) (get_or cells (base + get_or vals index 0) 0) 0
node_value regs cells ins vals (Not of mask) = mask - get_or vals of 0
node_value regs cells ins vals (Join high low shift) = (get_or vals high 0 * 2 ^ shift % 2 ^ 64 + get_or vals low 0) % 2 ^ 64
node_value regs cells ins vals (Or a b) = bit_or (get_or vals a 0) (get_or vals b 0)
node_value regs cells ins vals (Xor a b) = bit_xor (get_or vals a 0) (get_or vals b 0)
node_value regs cells ins vals (And a b) = bit_and (get_or vals a 0) (get_or vals b 0)
node_value regs cells ins vals (Equal a b) = cond (eqb (get_or vals a 0) (get_or vals b 0)) 1 0
node_value regs cells ins vals (Less a b) = cond (ltb (get_or vals a 0) (get_or vals b 0)) 1 0
node_value regs cells ins vals (Plus a b mask) = bit_and ((get_or vals a 0 + get_or vals b 0) % 2 ^ 64) mask
node_value regs cells ins vals (Minus a b mask) = bit_and ((get_or vals a 0 + (2 ^ 64 - get_or vals b 0)) % 2 ^ 64) mask
node_value regs cells ins vals (Choice test first other) = cond (eqb (get_or vals test 0) 1) (get_or vals first 0) (get_or vals other 0)

-- the values of some nodes behind those of the nodes before them
abbrev pub grow : (regs cells ins : List ℕ) → List Node → (vals : List ℕ) → List ℕ
grow regs cells ins [] vals = vals
grow regs cells ins (n ∷ ns) vals = grow regs cells ins ns (vals ++ (node_value regs cells ins vals n ∷ []))

-- the values of all nodes: each is of the values of the nodes before it
abbrev pub values : (regs cells ins : List ℕ) → List Node → List ℕ
values regs cells ins ns = grow regs cells ins ns []

-- a node names what there is, and only nodes before it
abbrev pub IsFit : (regs cells ins at : ℕ) → Node → Type 0
IsFit regs cells ins at (Literal value) = Unit {0}
IsFit regs cells ins at (Input port) = port < ins
IsFit regs cells ins at (Reg reg) = reg < regs
IsFit regs cells ins at (Slice of low mask) = (of < at) × (low < 64)
IsFit regs cells ins at (Cell index base size) = (index < at) × (base + size ≤ cells)
IsFit regs cells ins at (Not of mask) = of < at
IsFit regs cells ins at (Join high low shift) = (high < at) × (low < at) × (shift < 64)
IsFit regs cells ins at (Or a b) = (a < at) × (b < at)
IsFit regs cells ins at (Xor a b) = (a < at) × (b < at)
IsFit regs cells ins at (And a b) = (a < at) × (b < at)
IsFit regs cells ins at (Equal a b) = (a < at) × (b < at)
IsFit regs cells ins at (Less a b) = (a < at) × (b < at)
IsFit regs cells ins at (Plus a b mask) = (a < at) × (b < at)
IsFit regs cells ins at (Minus a b mask) = (a < at) × (b < at)
IsFit regs cells ins at (Choice test first other) = (test < at) × (first < at) × (other < at)

-- from the place at on, each node names only nodes before it
abbrev pub IsWell : (regs cells ins at : ℕ) → List Node → Type 0
IsWell regs cells ins at [] = Unit {0}
IsWell regs cells ins at (n ∷ ns) = IsFit regs cells ins at n × IsWell regs cells ins (suc at) ns

-- the values at some places
abbrev pub picked : (vals nodes : List ℕ) → List ℕ
picked vals [] = []
picked vals (n ∷ ns) = get_or vals n 0 ∷ picked vals ns

-- each is below a limit
abbrev pub AllBelow : ℕ → List ℕ → Type 0
AllBelow limit [] = Unit {0}
AllBelow limit (n ∷ ns) = (n < limit) × AllBelow limit ns
