-- What the steps are for: the results of the instruction table.
use Rattle.std.specs.Prelude.{◌≡◌, ℕ, ◌+◌, ◌<◌, true, get_or}
use Rattle.isa_table.specs.Rows.{TableRow, table, lui, meets}
use Rattle.isa_table.specs.Rows.Action.{Computes}
use Rattle.muldiv_law.specs.Steps.{result_of}

-- rows 41 to 48 by number: MUL, MULH, MULHSU, MULHU, DIV, DIVU, REM, REMU
abbrev pub own_row : (k : ℕ) → TableRow
own_row k = get_or table (41 + k) lui

-- the steps make the value of each row that the word is of
abbrev pub IsRight : (word pc a b : ℕ) → Type 0
IsRight word pc a b = (k : ℕ) → k < 8 → meets word (own_row k) ≡ true → (own_row k).action pc word a b ≡ Computes (result_of word a b)
