-- What the bits of a word of a row tell: the fields that its mask covers, and its amount.
use Rattle.std.proofs.Common.{◌≡◌, ◌+◌, ◌-◌, ◌^◌, ◌<◌, ℕ, zero, suc, Bool, true, false, cond, eqb, bit_and, refl, arith}
use Rattle.core_words.specs.Values.{choose, bits_of}
use Rattle.hw_words.proofs.Fields.{field_met, same_of}
use Rattle.plug_shift.specs.Machine.{amount_of}

-- the rows have their opcode, funct3 and funct7
pub field : (word v : ℕ) → eqb (bit_and word 0xfe00707f) v ≡ true → (high low : ℕ) → bits_of 0xfe00707f high low ≡ 2 ^ (high + 1 - low) - 1 → bits_of word high low ≡ bits_of v high low
field word v h high low covered = field_met word 0xfe00707f v high low (same_of (bit_and word 0xfe00707f) v h) covered

chosen_below : (c x y : ℕ) → x < 32 → y < 32 → choose c x y < 32
chosen_below c x y h k = by (eqb c 1)
  where
    by : (t : Bool) → cond t x y < 32
    by true = h
    by false = k

pub amount_below : (word b : ℕ) → amount_of word b < 32
unfolding amount_of
amount_below word b = chosen_below (bits_of word 5 5) (bits_of b 4 0) (bits_of word 24 20) (omega arith) (omega arith)

-- "and" with 1 keeps a bit
pub kept_bit : (x : ℕ) → x < 2 → bit_and 1 x ≡ x
kept_bit zero h = refl
kept_bit (suc zero) h = refl
kept_bit (suc (suc x)) h = absurd (omega arith)
