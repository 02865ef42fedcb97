-- The barrel shifter's value is that of each row.
use Rattle.std.proofs.Common.{◌≡◌, ◌∙◌, ◌^◌, ◌<◌, ℕ, true, eqb, bit_and, refl, arith, ap, sym}
use Rattle.core_words.specs.Values.{choose, bits_of}
use Rattle.isa_table.specs.Results.{shift_left, shift_right, shift_right_signed}
use Rattle.isa_table.specs.Rows.Action.{Computes}
use Rattle.hw_words.specs.Shifts.{reverse_of, shifted_of}
use Rattle.hw_words.proofs.Shifts.{left, right_zeros, right_signed}
use Rattle.unit_steps.proofs.Meeting.{met}
use Rattle.plug_shift.specs.Machine.{amount_of, fill_of, turned_of, barrel_value}
use Rattle.plug_shift.specs.Rows.{BarrelIsRight}
use Rattle.plug_shift.proofs.Words.{field, kept_bit}

-- the shifter over the bits that it looks at
by_bits : (b5 b14 b30 immediate register a : ℕ) → ℕ
by_bits b5 b14 b30 immediate register a =
    let moved = shifted_of (choose b5 register immediate) (bit_and b30 (bits_of a 31 31)) (choose b14 a (reverse_of a 32)) in
    choose b14 moved (reverse_of moved 32)

opened : (word pc a b : ℕ) → by_bits (bits_of word 5 5) (bits_of word 14 14) (bits_of word 30 30) (bits_of word 24 20) (bits_of b 4 0) a ≡ barrel_value word pc a b
unfolding by_bits amount_of fill_of turned_of barrel_value
opened word pc a b = refl

module _ (word pc a b : ℕ) (fits : a < 2 ^ 32) where
  row : (v : ℕ) → eqb (bit_and word 0xfe00707f) v ≡ true
      → barrel_value word pc a b ≡ by_bits (bits_of v 5 5) (bits_of v 14 14) (bits_of v 30 30) (bits_of word 24 20) (bits_of b 4 0) a
  row v h =
      sym (opened word pc a b)
      ∙ (λ i. by_bits (field word v h 5 5 refl i) (field word v h 14 14 refl i) (field word v h 30 30 refl i) (bits_of word 24 20) (bits_of b 4 0) a)

  to_left : (n : ℕ) → n < 32 → reverse_of (shifted_of n 0 (reverse_of a 32)) 32 ≡ shift_left a n
  to_left n few = left a n fits few

  to_right : (n : ℕ) → n < 32 → shifted_of n 0 a ≡ shift_right a n
  to_right n few = right_zeros n few a fits

  signed : (n : ℕ) → n < 32 → shifted_of n (bit_and 1 (bits_of a 31 31)) a ≡ shift_right_signed a n
  signed n few = ap (λ f. shifted_of n f a) (kept_bit (bits_of a 31 31) (omega arith)) ∙ right_signed a n fits few

pub is_right : BarrelIsRight
unfolding by_bits
is_right = (
  λ set word pc a b found fits _. ap Computes (sym (row word pc a b fits 0x1013 (met set word 24 found) ∙ to_left word pc a b fits (bits_of word 24 20) (omega arith))),
  (
    λ set word pc a b found fits _. ap Computes (sym (row word pc a b fits 0x5013 (met set word 25 found) ∙ to_right word pc a b fits (bits_of word 24 20) (omega arith))),
    (
      λ set word pc a b found fits _. ap Computes (sym (row word pc a b fits 0x40005013 (met set word 26 found) ∙ signed word pc a b fits (bits_of word 24 20) (omega arith))),
      (
        λ set word pc a b found fits _. ap Computes (sym (row word pc a b fits 0x1033 (met set word 29 found) ∙ to_left word pc a b fits (bits_of b 4 0) (omega arith))),
        (
          λ set word pc a b found fits _. ap Computes (sym (row word pc a b fits 0x5033 (met set word 33 found) ∙ to_right word pc a b fits (bits_of b 4 0) (omega arith))),
          (
            λ set word pc a b found fits _. ap Computes (sym (row word pc a b fits 0x40005033 (met set word 34 found) ∙ signed word pc a b fits (bits_of b 4 0) (omega arith))),
            tt,
          ),
        ),
      ),
    ),
  ),
)
