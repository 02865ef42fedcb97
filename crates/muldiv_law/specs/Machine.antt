-- The registers of the unit: a count of 6 bits and both halves. `busy` is 1 in each cycle of an instruction but the first one, and
-- rounds are the cycles in which steps are made. The first cycle loads; rounds of them make the steps; one turns the sign of the
-- result over, and in the next one the instruction ends.
use Rattle.std.specs.Prelude.{◌≡◌, ℕ, ◌+◌, ◌-◌, ◌*◌, ◌/◌, ◌<◌, ◌≤◌, eqb, ltb, bit_and}
use Rattle.core_words.specs.Values.{choose, bits_of, add_of, one_if}
use Rattle.muldiv_law.specs.Steps.{halves, wide_of, inverts, several, hi_cycled, lo_cycled, fixed, start_of, end_of, result_of}

abbrev pub rounds_of : (unroll : ℕ) → ℕ
rounds_of unroll = 32 / unroll

-- 1 in the last cycle of an instruction
unfoldable pub ends_of : (rounds busy count : ℕ) → ℕ
ends_of rounds busy count = bit_and busy (one_if (eqb count (rounds + 1)))

-- 1 where steps are made
unfoldable pub works_of : (rounds busy count : ℕ) → ℕ
works_of rounds busy count = bit_and busy (one_if (ltb count rounds))

-- ---- what the registers hold behind a cycle

unfoldable pub count_next : (busy count : ℕ) → ℕ
count_next busy count = choose busy (add_of 6 count 1) 0

unfoldable pub hi_counted : (unroll rounds f2 f1 f0 b count hi lo : ℕ) → ℕ
hi_counted unroll rounds f2 f1 f0 b count hi lo = hi_cycled unroll f2 f1 f0 b (one_if (eqb count (rounds - 1))) hi lo

unfoldable pub lo_counted : (unroll rounds f2 f1 f0 b count hi lo : ℕ) → ℕ
lo_counted unroll rounds f2 f1 f0 b count hi lo = lo_cycled unroll f2 f1 f0 b (one_if (eqb count (rounds - 1))) hi lo

unfoldable pub hi_next : (unroll rounds word b busy count hi lo : ℕ) → ℕ
hi_next unroll rounds word b busy count hi lo =
    choose (works_of rounds busy count) (hi_counted unroll rounds (bits_of word 14 14) (bits_of word 13 13) (bits_of word 12 12) b count hi lo) 0

unfoldable pub lo_next : (unroll rounds word a b busy count hi lo : ℕ) → ℕ
lo_next unroll rounds word a b busy count hi lo =
    choose (works_of rounds busy count) (lo_counted unroll rounds (bits_of word 14 14) (bits_of word 13 13) (bits_of word 12 12) b count hi lo)
    (fixed busy (bits_of word 14 14) (bits_of word 13 13) (bits_of word 12 12) a b hi lo)

-- ---- what they hold in an instruction

-- c cycles behind the first one: so many steps are made; all are; or the lower half is the result
pub record Reached (unroll word a b c : ℕ) (count hi lo : ℕ) : Type 0 where
  pub count_is : count ≡ c
  pub few : c ≤ rounds_of unroll + 1
  pub steps : c < rounds_of unroll
      → halves hi lo ≡ several (bits_of word 14 14) (bits_of word 13 13) (wide_of (bits_of word 14 14) (bits_of word 13 13) (bits_of word 12 12) b)
      (inverts (bits_of word 14 14) (bits_of word 12 12) b 0) (c * unroll) (start_of (bits_of word 14 14) (bits_of word 12 12) a)
  pub ended : c ≡ rounds_of unroll → halves hi lo ≡ end_of (bits_of word 14 14) (bits_of word 13 13) (bits_of word 12 12) a b
  pub result : c ≡ rounds_of unroll + 1 → lo ≡ result_of word a b

-- the first cycle of an instruction loads, whatever the registers hold
abbrev pub Begins : Type 0
Begins = (unroll word a b count hi lo : ℕ) → unroll * rounds_of unroll ≡ 32
    → Reached unroll word a b 0 (count_next 0 count) (hi_next unroll (rounds_of unroll) word b 0 count hi lo) (lo_next unroll (rounds_of unroll) word a b 0 count hi lo)

-- and each later one goes on, but the last
abbrev pub GoesOn : Type 0
GoesOn = (unroll word a b c count hi lo : ℕ) → unroll * rounds_of unroll ≡ 32 → c ≤ rounds_of unroll → Reached unroll word a b c count hi lo
    → Reached unroll word a b (c + 1) (count_next 1 count) (hi_next unroll (rounds_of unroll) word b 1 count hi lo) (lo_next unroll (rounds_of unroll) word a b 1 count hi lo)
