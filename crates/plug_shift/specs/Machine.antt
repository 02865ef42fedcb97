-- The shifters in equations over numbers: what each of their circuits has for the word and the operands (RISC-V Unprivileged 20191213,
-- 2.4.1 and 2.4.2).
use Rattle.std.specs.Prelude.{ℕ, [], ◌∷◌, List, bit_and, eqb, get_or}
use Rattle.core_words.specs.Values.{choose, one_if, bits_of, join_of, sub_of}
use Rattle.hw_words.specs.Shifts.{reverse_of, shifted_of}
use Rattle.unit_steps.specs.Cycles.{Machine}

-- by how many places: the low five bits of the register, or of the immediate
unfoldable pub amount_of : (word b : ℕ) → ℕ
amount_of word b = choose (bits_of word 5 5) (bits_of b 4 0) (bits_of word 24 20)

-- the bit that comes in from above: the sign in an arithmetic shift, else 0
unfoldable pub fill_of : (word x : ℕ) → ℕ
fill_of word x = bit_and (bits_of word 30 30) (bits_of x 31 31)

-- ---- the barrel shifter: right shifts alone, of the bits in reverse for a left shift

unfoldable pub turned_of : (word x : ℕ) → ℕ
turned_of word x = choose (bits_of word 14 14) x (reverse_of x 32)

unfoldable pub barrel_value : (word pc a b : ℕ) → ℕ
barrel_value word pc a b = turned_of word (shifted_of (amount_of word b) (fill_of word a) (turned_of word a))

-- ---- the light shifter: one place in each cycle

-- a right shift by one place, or a left one
unfoldable pub moved_of : (word x : ℕ) → ℕ
moved_of word x = choose (bits_of word 14 14) (join_of 31 (fill_of word x) (bits_of x 31 1)) (join_of 1 (bits_of x 30 0) 0)

-- the places that are left as a cycle begins
unfoldable pub left_of : (word b working count : ℕ) → ℕ
left_of word b working count = choose working count (amount_of word b)

-- what was moved so far
unfoldable pub now_of : (a working held : ℕ) → ℕ
now_of a working held = choose working held a

-- its registers: the places that are left, of 5 bits, and what was moved so far, of 32
abbrev pub light_widths : List ℕ
light_widths = 5 ∷ 32 ∷ []

abbrev pub light_machine : Machine
light_machine = record {
  ends = λ word a b working held. one_if (eqb (left_of word b working (get_or held 0 0)) 0);
  value = λ word a b working held. now_of a working (get_or held 1 0);
  next = λ word a b working held. sub_of 5 (left_of word b working (get_or held 0 0)) 1 ∷ moved_of word (now_of a working (get_or held 1 0)) ∷ [];
}
