-- How the item in front ends. In equations over numbers; bits are 0 and 1.
use Rattle.std.specs.Prelude.{ℕ, bit_and, bit_or}
use Rattle.core_words.specs.Values.{not_of}

-- 1 where the item in front needs no more cycles
unfoldable pub through_of : (except finished : ℕ) → ℕ
through_of except finished = bit_or except finished

-- 1 where the item in front retires or traps
unfoldable pub ends_of : (run through : ℕ) → ℕ
ends_of run through = bit_and run through

-- 1 where the item in front traps, if it ends
unfoldable pub faulty_of : (except trap : ℕ) → ℕ
faulty_of except trap = bit_or except trap

-- 1 where the item in front writes its register, if it ends
unfoldable pub wins_of : (writes trap : ℕ) → ℕ
wins_of writes trap = bit_and writes (not_of 1 trap)

-- 1 where the item in front traps
unfoldable pub traps_of : (ends faulty : ℕ) → ℕ
traps_of ends faulty = bit_and ends faulty

-- 1 where the item in front retires
unfoldable pub retires_of : (ends except trap : ℕ) → ℕ
retires_of ends except trap = bit_and ends (bit_and (not_of 1 except) (not_of 1 trap))

-- 1 where the item in front writes its register
unfoldable pub writes_of : (ends wins : ℕ) → ℕ
writes_of ends wins = bit_and ends wins

-- 1 where the next item may enter the stage that executes
unfoldable pub enters_of : (valid through : ℕ) → ℕ
enters_of valid through = bit_or (not_of 1 valid) through
