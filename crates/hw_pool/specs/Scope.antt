-- What a tree may take from outside, as plain data.
use Rattle.std.specs.Prelude.{◌≡◌, ℕ, ◌≤◌, Option, None, Some}
use Rattle.hw_pool.specs.Trees.{Tree, width_of}
use Rattle.hw_pool.specs.Trees.Tree.{Lit, Input, Wire, Reg, Not, And, Or, Xor, Add, Sub, Eq, Ltu, Mux, Cat, Slice, Read}

-- The inputs with their widths, the forward wires with widths and levels, the registers with widths, and the arrays
-- with widths and numbers of address bits, each by its number.
pub record Scope : Type 0 where
  pub inputs : ℕ → Option ℕ
  pub wires : ℕ → Option (ℕ × ℕ)
  pub regs : ℕ → Option ℕ
  pub arrays : ℕ → Option (ℕ × ℕ)

-- a forward wire of this width, of at most this level
abbrev pub IsWireOf : (level width : ℕ) → Option (ℕ × ℕ) → Type 0
IsWireOf level width None = ⊥
IsWireOf level width (Some w) = (w.0 ≡ width) × (w.1 ≤ level)

-- an array of this width, of so many bits of address
abbrev pub IsArrayOf : (width bits : ℕ) → Option (ℕ × ℕ) → Type 0
IsArrayOf width bits None = ⊥
IsArrayOf width bits (Some a) = (a.0 ≡ width) × (a.1 ≡ bits)

-- what a tree takes from outside is there, with the widths that it gives it, and no forward wire is above a level
abbrev pub Takes : Scope → (level : ℕ) → Tree → Type 0
Takes s level (Lit width value) = Unit {0}
Takes s level (Input width port) = s.inputs port ≡ Some width
Takes s level (Wire width wire) = IsWireOf level width (s.wires wire)
Takes s level (Reg width reg) = s.regs reg ≡ Some width
Takes s level (Not width a) = Takes s level a
Takes s level (And width a b) = Takes s level a × Takes s level b
Takes s level (Or width a b) = Takes s level a × Takes s level b
Takes s level (Xor width a b) = Takes s level a × Takes s level b
Takes s level (Add width a b) = Takes s level a × Takes s level b
Takes s level (Sub width a b) = Takes s level a × Takes s level b
Takes s level (Eq width a b) = Takes s level a × Takes s level b
Takes s level (Ltu width a b) = Takes s level a × Takes s level b
Takes s level (Mux width c a b) = Takes s level c × Takes s level a × Takes s level b
Takes s level (Cat width a b) = Takes s level a × Takes s level b
Takes s level (Slice width a high low) = Takes s level a
Takes s level (Read width array a) = IsArrayOf width (width_of a) (s.arrays array) × Takes s level a
