-- The interrupt lines of a run: each span of cycles in which a line is 1, both ends included.
use Rattle.std.specs.Prelude.{◌≡◌, ◌⊎◌, ℕ, ◌^◌, Bool, cond, leb, ◌&&◌, List, [], ◌∷◌, bit_or}
use Rattle.core_sim.specs.declared.ended.IrqSpan.{IrqSpan}

-- a line is 1 in these cycles
abbrev pub is_in : IrqSpan → (cycle : ℕ) → Bool
is_in s k = leb s.from k && leb k s.to

-- what a span makes of the lines in a cycle
abbrev pub line_in : IrqSpan → (cycle : ℕ) → ℕ
line_in s k = cond (is_in s k) (2 ^ s.line) 0

-- The lines that are 1 in a cycle, as a number with bits 3 (software), 7 (timer) and 11 (external). A line is 1 where any of its
-- spans says so.
abbrev pub lines_of : List IrqSpan → (cycle : ℕ) → ℕ
lines_of [] k = 0
lines_of (s ∷ ss) k = bit_or (line_in s k) (lines_of ss k)

-- the lines are those of a core
abbrev pub IsSpan : IrqSpan → Type 0
IsSpan s = (s.line ≡ 3) ⊎ ((s.line ≡ 7) ⊎ (s.line ≡ 11))
