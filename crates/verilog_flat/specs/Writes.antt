-- Writes to arrays at the edge of the clock.
use Rattle.std.specs.Prelude.{ℕ, ◌+◌, ◌<◌, ◌≤◌, cond, eqb, ltb, List, [], ◌∷◌, get_or, set}
use Rattle.verilog_flat.specs.declared.sweep.ArrayWrite.{ArrayWrite}

-- the cells of all arrays after a write; past the end of its array nothing is written
abbrev pub write_one : (vals : List ℕ) → ArrayWrite → (cells : List ℕ) → List ℕ
write_one vals p cells =
    cond (eqb (get_or vals p.enable 0) 1) (cond (ltb (get_or vals p.index 0) p.size) (set cells (p.base + get_or vals p.index 0) (get_or vals p.data 0)) cells) cells

abbrev pub write_all : (vals : List ℕ) → List ArrayWrite → (cells : List ℕ) → List ℕ
write_all vals [] cells = cells
write_all vals (p ∷ ps) cells = write_all vals ps (write_one vals p cells)

-- a write names nodes and cells that are there
abbrev pub IsWrite : (nodes cells : ℕ) → ArrayWrite → Type 0
IsWrite nodes cells p = (p.enable < nodes) × (p.index < nodes) × (p.data < nodes) × (p.base + p.size ≤ cells)

abbrev pub AreWrites : (nodes cells : ℕ) → List ArrayWrite → Type 0
AreWrites nodes cells [] = Unit {0}
AreWrites nodes cells (p ∷ ps) = IsWrite nodes cells p × AreWrites nodes cells ps
