-- A left shift is a right shift of the bits in reverse.
use Rattle.std.proofs.Common.{◌≡◌, ◌∙◌, ℕ, zero, suc, ◌+◌, ◌-◌, ◌*◌, ◌/◌, ◌%◌, ◌^◌, ◌<◌, arith, ap, sym, inl, inr}
use Rattle.std.proofs.lemmas.Bool.{cases_lt}
use Rattle.std.proofs.lemmas.Nat.{pow_pos, shr-shr, shr_split}
use Rattle.std.specs.Int.{bit_at}
use Rattle.std.proofs.lemmas.Nat.Bits.{bit_at_cat_low, bit_at_cat_high, bit_at_above, bit_at-zero, bit_at-lt, same_from_bits_below}
use Rattle.std.proofs.Math.Nat.{pow-suc}
use Rattle.core_words.specs.Values.{bits_of}
use Rattle.hw_words.specs.Shifts.{reverse_of}

one-bit : (a n : ℕ) → bits_of a n n ≡ bit_at a n
one-bit a n = let one : n + 1 - n ≡ 1 = omega arith in ap (λ (w : ℕ). a / 2 ^ n % 2 ^ w) one

bit-fits : (a n : ℕ) → bits_of a n n < 2
bit-fits a n = omega (arith, one-bit a n, bit_at-lt a n)

pub reverse_fits : (a n : ℕ) → reverse_of a n < 2 ^ n
unfolding reverse_of
reverse_fits a zero = omega arith
reverse_fits a (suc n) =
    let below = reverse_fits a n in
    let bit = bit-fits a n in
    let double : 2 ^ suc n ≡ 2 ^ n * 2 = pow-suc 2 n in
    omega arith

lowest : (b : ℕ) → b < 2 → bit_at b 0 ≡ b
lowest b h = omega arith

-- bit i of n reversed bits is bit n - 1 - i
pub reverse_bit : (a n i : ℕ) → i < n → bit_at (reverse_of a n) i ≡ bit_at a (n - 1 - i)
unfolding reverse_of
reverse_bit a zero i h = absurd (omega arith)
reverse_bit a (suc n) zero h =
    let place : n ≡ suc n - 1 - 0 = omega arith in
    bit_at_cat_low (reverse_of a n) 1 (bits_of a n n) 0 (omega arith) ∙ lowest (bits_of a n n) (bit-fits a n) ∙ one-bit a n ∙ ap (bit_at a) place
reverse_bit a (suc n) (suc i) h =
    let place : n - 1 - i ≡ suc n - 1 - suc i = omega arith in
    let down : suc i - 1 ≡ i = omega arith in
    bit_at_cat_high (reverse_of a n) 1 (bits_of a n n) (suc i) (bit-fits a n) (omega arith) ∙ ap (bit_at (reverse_of a n)) down ∙ reverse_bit a n i (omega arith) ∙ ap (bit_at a) place

cut-bit : (m k i : ℕ) → i < k → bit_at (m % 2 ^ k) i ≡ bit_at m i
cut-bit m k i h = sym (bit_at_cat_low (m / 2 ^ k) k (m % 2 ^ k) i h) ∙ ap (λ (n : ℕ). bit_at n i) (shr_split m k)

moved-bit : (m n j : ℕ) → bit_at (m / 2 ^ n) j ≡ bit_at m (n + j)
moved-bit m n j = ap (λ (x : ℕ). x % 2) (shr-shr m n j)

module _ (a n : ℕ) (few : n < 32) where
  left-bit : (i : ℕ) → i < 32 → bit_at (reverse_of (reverse_of a 32 / 2 ^ n) 32) i ≡ bit_at (a * 2 ^ n % 2 ^ 32) i
  left-bit i h =
      reverse_bit (reverse_of a 32 / 2 ^ n) 32 i h
      ∙ moved-bit (reverse_of a 32) n (32 - 1 - i)
      ∙ elim (cases_lt i n) [
        | inl l ↦
            bit_at_above (reverse_of a 32) 32 (n + (32 - 1 - i)) (reverse_fits a 32) (omega arith)
            ∙ sym (bit_at-zero i)
            ∙ sym (bit_at_cat_low a n 0 i l)
        | inr g ↦
            let place : 32 - 1 - (n + (32 - 1 - i)) ≡ i - n = omega arith in
            reverse_bit a 32 (n + (32 - 1 - i)) (omega arith)
            ∙ ap (bit_at a) place
            ∙ sym (bit_at_cat_high a n 0 i (pow_pos n) g)
      ]
      ∙ ap (λ (m : ℕ). bit_at m i) whole
      ∙ sym (cut-bit (a * 2 ^ n) 32 i h)
    where
      whole : a * 2 ^ n + 0 ≡ a * 2 ^ n
      whole = omega arith

  pub left_shift : reverse_of (reverse_of a 32 / 2 ^ n) 32 ≡ a * 2 ^ n % 2 ^ 32
  left_shift = same_from_bits_below 32 _ _ (reverse_fits (reverse_of a 32 / 2 ^ n) 32) (omega arith) left-bit
