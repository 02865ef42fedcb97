-- The facts that circuits carry are propositions.
use Rattle.std.specs.Prelude.{ℕ, suc, List, [], ◌∷◌}
use Rattle.std.proofs.Props.{props}
use mathlib.Core.HLevel.{×_prop, Unit-prop}
use Rattle.verilog_flat.specs.declared.node.Node.{Node}
use Rattle.verilog_flat.specs.declared.node.Node.TheVariants.{Literal, Input, Reg, Slice, Cell, Not, Join, Or, Xor, And, Equal, Less, Plus, Minus, Choice}
use Rattle.verilog_flat.specs.declared.sweep.ArrayWrite.{ArrayWrite}
use Rattle.verilog_flat.specs.Flat.{IsFit, IsWell, AllBelow}
use Rattle.verilog_flat.specs.Writes.{AreWrites}

pub IsFit-prop : (regs cells ins at : ℕ) (n : Node) → IsProp (IsFit regs cells ins at n)
IsFit-prop regs cells ins at (Literal value) = Prim.hlevel props
IsFit-prop regs cells ins at (Input port) = Prim.hlevel props
IsFit-prop regs cells ins at (Reg reg) = Prim.hlevel props
IsFit-prop regs cells ins at (Slice of low mask) = Prim.hlevel props
IsFit-prop regs cells ins at (Cell index base size) = Prim.hlevel props
IsFit-prop regs cells ins at (Not of mask) = Prim.hlevel props
IsFit-prop regs cells ins at (Join high low shift) = Prim.hlevel props
IsFit-prop regs cells ins at (Or a b) = Prim.hlevel props
IsFit-prop regs cells ins at (Xor a b) = Prim.hlevel props
IsFit-prop regs cells ins at (And a b) = Prim.hlevel props
IsFit-prop regs cells ins at (Equal a b) = Prim.hlevel props
IsFit-prop regs cells ins at (Less a b) = Prim.hlevel props
IsFit-prop regs cells ins at (Plus a b mask) = Prim.hlevel props
IsFit-prop regs cells ins at (Minus a b mask) = Prim.hlevel props
IsFit-prop regs cells ins at (Choice test first other) = Prim.hlevel props

pub IsWell-prop : (regs cells ins at : ℕ) (ns : List Node) → IsProp (IsWell regs cells ins at ns)
IsWell-prop regs cells ins at [] = Unit-prop
IsWell-prop regs cells ins at (n ∷ ns) = ×_prop (IsFit-prop regs cells ins at n) (IsWell-prop regs cells ins (suc at) ns)

pub AllBelow-prop : (limit : ℕ) (ns : List ℕ) → IsProp (AllBelow limit ns)
AllBelow-prop limit [] = Unit-prop
AllBelow-prop limit (n ∷ ns) = ×_prop (Prim.hlevel props) (AllBelow-prop limit ns)

pub AreWrites-prop : (nodes cells : ℕ) (ps : List ArrayWrite) → IsProp (AreWrites nodes cells ps)
AreWrites-prop nodes cells [] = Unit-prop
AreWrites-prop nodes cells (p ∷ ps) = ×_prop (Prim.hlevel props) (AreWrites-prop nodes cells ps)
