-- The rows of the shifters, and their laws.
use Rattle.std.specs.Prelude.{ℕ, List, [], ◌∷◌}
use Rattle.unit_parts.specs.Says.{RowsCompute}
use Rattle.unit_steps.specs.Parts.{RowsEnd}
use Rattle.plug_shift.specs.Machine.{barrel_value, light_machine}

-- by number: SLLI, SRLI, SRAI, SLL, SRL, SRA
abbrev pub shift_rows : List ℕ
shift_rows = 24 ∷ 25 ∷ 26 ∷ 29 ∷ 33 ∷ 34 ∷ []

-- the barrel shifter's value is that of each row that the word is of
abbrev pub BarrelIsRight : Type 0
BarrelIsRight = RowsCompute shift_rows barrel_value

-- each shift ends within 32 cycles, with the row's value
abbrev pub LightIsRight : Type 0
LightIsRight = RowsEnd shift_rows light_machine 32
