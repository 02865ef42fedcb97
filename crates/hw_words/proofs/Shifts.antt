-- The shifts in five steps are the shifts of the instructions.
use Rattle.std.proofs.Common.{◌≡◌, ◌∙◌, ℕ, zero, suc, ◌+◌, ◌-◌, ◌*◌, ◌/◌, ◌%◌, ◌^◌, ◌<◌, ◌≤◌, Bool, true, false, cond, leb, refl, arith, ap, sym, pow-add}
use Rattle.std.proofs.lemmas.Bool.Decides.{nat_tests}
use Rattle.std.proofs.lemmas.Nat.{pow_pos, shr-shr, shr_le}
use Rattle.std.proofs.Math.Nat.{div-eq_of_lt-le}
use Rattle.core_words.specs.Values.{bits_of}
use Rattle.isa_table.specs.Results.{shift_left, shift_right_signed}
use Rattle.hw_words.specs.Shifts.{moved_of, shifted_of, reverse_of}
use Rattle.hw_words.proofs.Mirror.{left_shift, reverse_fits}

zeros-16 : (b x : ℕ) → b < 2 → x < 2 ^ 32 → moved_of 16 b 0 x ≡ x / 2 ^ (16 * b)
unfolding moved_of
zeros-16 zero x h k = omega arith
zeros-16 (suc zero) x h k = omega arith
zeros-16 (suc (suc b)) x h k = absurd (omega arith)

ones-16 : (b z : ℕ) → b < 2 → z < 2 ^ 32 → moved_of 16 b 1 (4294967295 - z) ≡ 4294967295 - z / 2 ^ (16 * b)
unfolding moved_of
ones-16 zero z h k = omega arith
ones-16 (suc zero) z h k = omega arith
ones-16 (suc (suc b)) z h k = absurd (omega arith)

zeros-8 : (b x : ℕ) → b < 2 → x < 2 ^ 32 → moved_of 8 b 0 x ≡ x / 2 ^ (8 * b)
unfolding moved_of
zeros-8 zero x h k = omega arith
zeros-8 (suc zero) x h k = omega arith
zeros-8 (suc (suc b)) x h k = absurd (omega arith)

ones-8 : (b z : ℕ) → b < 2 → z < 2 ^ 32 → moved_of 8 b 1 (4294967295 - z) ≡ 4294967295 - z / 2 ^ (8 * b)
unfolding moved_of
ones-8 zero z h k = omega arith
ones-8 (suc zero) z h k = omega arith
ones-8 (suc (suc b)) z h k = absurd (omega arith)

zeros-4 : (b x : ℕ) → b < 2 → x < 2 ^ 32 → moved_of 4 b 0 x ≡ x / 2 ^ (4 * b)
unfolding moved_of
zeros-4 zero x h k = omega arith
zeros-4 (suc zero) x h k = omega arith
zeros-4 (suc (suc b)) x h k = absurd (omega arith)

ones-4 : (b z : ℕ) → b < 2 → z < 2 ^ 32 → moved_of 4 b 1 (4294967295 - z) ≡ 4294967295 - z / 2 ^ (4 * b)
unfolding moved_of
ones-4 zero z h k = omega arith
ones-4 (suc zero) z h k = omega arith
ones-4 (suc (suc b)) z h k = absurd (omega arith)

zeros-2 : (b x : ℕ) → b < 2 → x < 2 ^ 32 → moved_of 2 b 0 x ≡ x / 2 ^ (2 * b)
unfolding moved_of
zeros-2 zero x h k = omega arith
zeros-2 (suc zero) x h k = omega arith
zeros-2 (suc (suc b)) x h k = absurd (omega arith)

ones-2 : (b z : ℕ) → b < 2 → z < 2 ^ 32 → moved_of 2 b 1 (4294967295 - z) ≡ 4294967295 - z / 2 ^ (2 * b)
unfolding moved_of
ones-2 zero z h k = omega arith
ones-2 (suc zero) z h k = omega arith
ones-2 (suc (suc b)) z h k = absurd (omega arith)

zeros-1 : (b x : ℕ) → b < 2 → x < 2 ^ 32 → moved_of 1 b 0 x ≡ x / 2 ^ (1 * b)
unfolding moved_of
zeros-1 zero x h k = omega arith
zeros-1 (suc zero) x h k = omega arith
zeros-1 (suc (suc b)) x h k = absurd (omega arith)

ones-1 : (b z : ℕ) → b < 2 → z < 2 ^ 32 → moved_of 1 b 1 (4294967295 - z) ≡ 4294967295 - z / 2 ^ (1 * b)
unfolding moved_of
ones-1 zero z h k = omega arith
ones-1 (suc zero) z h k = omega arith
ones-1 (suc (suc b)) z h k = absurd (omega arith)

smaller : (x n : ℕ) → x < 2 ^ 32 → x / 2 ^ n < 2 ^ 32
smaller x n h = let l : x / 2 ^ n ≤ x = shr_le x n in omega arith

-- five shifts are one
five : (x a b c d e n : ℕ) → a + b + c + d + e ≡ n → x / 2 ^ a / 2 ^ b / 2 ^ c / 2 ^ d / 2 ^ e ≡ x / 2 ^ n
five x a b c d e n s =
    ap (λ (y : ℕ). y / 2 ^ c / 2 ^ d / 2 ^ e) (shr-shr x a b) ∙ ap (λ (y : ℕ). y / 2 ^ d / 2 ^ e) (shr-shr x (a + b) c) ∙ ap (λ (y : ℕ). y / 2 ^ e) (shr-shr x (a + b + c) d)
    ∙ shr-shr x (a + b + c + d) e ∙ ap (λ (k : ℕ). x / 2 ^ k) s

module _ (n : ℕ) (few : n < 32) where
  total : 16 * bits_of n 4 4 + 8 * bits_of n 3 3 + 4 * bits_of n 2 2 + 2 * bits_of n 1 1 + 1 * bits_of n 0 0 ≡ n
  total = omega arith

  pub right_zeros : (x : ℕ) → x < 2 ^ 32 → shifted_of n 0 x ≡ x / 2 ^ n
  unfolding shifted_of
  right_zeros x h =
      let x4 = x / 2 ^ (16 * bits_of n 4 4) in
      let x3 = x4 / 2 ^ (8 * bits_of n 3 3) in
      let x2 = x3 / 2 ^ (4 * bits_of n 2 2) in
      let x1 = x2 / 2 ^ (2 * bits_of n 1 1) in
      let h4 = smaller x (16 * bits_of n 4 4) h in
      let h3 = smaller x4 (8 * bits_of n 3 3) h4 in
      let h2 = smaller x3 (4 * bits_of n 2 2) h3 in
      let h1 = smaller x2 (2 * bits_of n 1 1) h2 in
      ap (λ (y : ℕ). moved_of 1 (bits_of n 0 0) 0 (moved_of 2 (bits_of n 1 1) 0 (moved_of 4 (bits_of n 2 2) 0 (moved_of 8 (bits_of n 3 3) 0 y)))) (zeros-16 (bits_of n 4 4) x (omega arith) h)
      ∙ ap (λ (y : ℕ). moved_of 1 (bits_of n 0 0) 0 (moved_of 2 (bits_of n 1 1) 0 (moved_of 4 (bits_of n 2 2) 0 y))) (zeros-8 (bits_of n 3 3) x4 (omega arith) h4)
      ∙ ap (λ (y : ℕ). moved_of 1 (bits_of n 0 0) 0 (moved_of 2 (bits_of n 1 1) 0 y)) (zeros-4 (bits_of n 2 2) x3 (omega arith) h3)
      ∙ ap (λ (y : ℕ). moved_of 1 (bits_of n 0 0) 0 y) (zeros-2 (bits_of n 1 1) x2 (omega arith) h2)
      ∙ zeros-1 (bits_of n 0 0) x1 (omega arith) h1
      ∙ five x (16 * bits_of n 4 4) (8 * bits_of n 3 3) (4 * bits_of n 2 2) (2 * bits_of n 1 1) (1 * bits_of n 0 0) n total

  pub right_ones : (z : ℕ) → z < 2 ^ 32 → shifted_of n 1 (4294967295 - z) ≡ 4294967295 - z / 2 ^ n
  unfolding shifted_of
  right_ones x h =
      let x4 = x / 2 ^ (16 * bits_of n 4 4) in
      let x3 = x4 / 2 ^ (8 * bits_of n 3 3) in
      let x2 = x3 / 2 ^ (4 * bits_of n 2 2) in
      let x1 = x2 / 2 ^ (2 * bits_of n 1 1) in
      let h4 = smaller x (16 * bits_of n 4 4) h in
      let h3 = smaller x4 (8 * bits_of n 3 3) h4 in
      let h2 = smaller x3 (4 * bits_of n 2 2) h3 in
      let h1 = smaller x2 (2 * bits_of n 1 1) h2 in
      ap (λ (y : ℕ). moved_of 1 (bits_of n 0 0) 1 (moved_of 2 (bits_of n 1 1) 1 (moved_of 4 (bits_of n 2 2) 1 (moved_of 8 (bits_of n 3 3) 1 y)))) (ones-16 (bits_of n 4 4) x (omega arith) h)
      ∙ ap (λ (y : ℕ). moved_of 1 (bits_of n 0 0) 1 (moved_of 2 (bits_of n 1 1) 1 (moved_of 4 (bits_of n 2 2) 1 y))) (ones-8 (bits_of n 3 3) x4 (omega arith) h4)
      ∙ ap (λ (y : ℕ). moved_of 1 (bits_of n 0 0) 1 (moved_of 2 (bits_of n 1 1) 1 y)) (ones-4 (bits_of n 2 2) x3 (omega arith) h3)
      ∙ ap (λ (y : ℕ). moved_of 1 (bits_of n 0 0) 1 y) (ones-2 (bits_of n 1 1) x2 (omega arith) h2)
      ∙ ones-1 (bits_of n 0 0) x1 (omega arith) h1
      ∙ ap (λ (y : ℕ). 4294967295 - y) (five x (16 * bits_of n 4 4) (8 * bits_of n 3 3) (4 * bits_of n 2 2) (2 * bits_of n 1 1) (1 * bits_of n 0 0) n total)

-- ---- the signed shift
divided : (m q r d : ℕ) → r < d → ((m + 1 + q) * d - 1 - (q * d + r)) / d ≡ m
divided m q r d h =
    let wide : (m + 1 + q) * d ≡ m * d + d + q * d = grind arith in
    let next : (m + 1) * d ≡ m * d + d = grind arith in
    div-eq_of_lt-le {k = m} d (omega arith) (omega arith)

-- e * d is a power of two, and z is below 2 ^ 32
below-all : (e d z q r : ℕ) → z ≡ q * d + r → r < d → q < e → (e * d - 1 - z) / d ≡ e - 1 - q
below-all e d z q r s h l =
    let m = e - 1 - q in
    let is : e ≡ m + 1 + q = omega arith in
    (λ i. (is i * d - 1 - s i) / d) ∙ divided m q r d h

module _ (a n : ℕ) (a_fits : a < 2 ^ 32) (few : n < 32) where
  negative : 2147483648 ≤ a → (a + (2 ^ 64 - 2 ^ 32)) / 2 ^ n % 2 ^ 32 ≡ 4294967295 - (4294967295 - a) / 2 ^ n
  negative h =
      let d = 2 ^ n in
      let e = 2 ^ (64 - n) in
      let f = 2 ^ (32 - n) in
      let z = 4294967295 - a in
      let q = z / d in
      let some : 0 < d = pow_pos n in
      let some_f : 0 < f = pow_pos (32 - n) in
      let sum : 64 - n + n ≡ 64 = omega arith in
      let half : 32 - n + 32 ≡ 64 - n = omega arith in
      let all : e * d ≡ 2 ^ 64 = sym (pow-add 2 (64 - n) n) ∙ ap (λ (k : ℕ). 2 ^ k) sum in
      let upper : f * 2 ^ 32 ≡ e = sym (pow-add 2 (32 - n) 32) ∙ ap (λ (k : ℕ). 2 ^ k) half in
      let low : q ≤ z = shr_le z n in
      let start : a + (2 ^ 64 - 2 ^ 32) ≡ e * d - 1 - z = omega arith in
      let split : z ≡ q * d + z % d = omega arith in
      let rest : z % d < d = omega arith in
      ap (λ (k : ℕ). k / d % 2 ^ 32) start
      ∙ ap (λ (k : ℕ). k % 2 ^ 32) (below-all e d z q (z % d) split rest (omega arith))
      ∙ omega arith

  pub signed_negative : leb 2147483648 a ≡ true → shift_right_signed a n ≡ 4294967295 - (4294967295 - a) / 2 ^ n
  signed_negative t = (λ i. cond (t i) (a + (2 ^ 64 - 2 ^ 32)) a / 2 ^ n % 2 ^ 32) ∙ negative (grind (arith, nat_tests))

  pub signed_positive : leb 2147483648 a ≡ false → shift_right_signed a n ≡ a / 2 ^ n
  signed_positive t = (λ i. cond (t i) (a + (2 ^ 64 - 2 ^ 32)) a / 2 ^ n % 2 ^ 32) ∙ (let l = smaller a n a_fits in omega arith)

  by-sign : (t : Bool) → leb 2147483648 a ≡ t → shifted_of n (bits_of a 31 31) a ≡ shift_right_signed a n
  by-sign true e =
      let l : 2147483648 ≤ a = grind (arith, nat_tests) in
      let sign : bits_of a 31 31 ≡ 1 = omega arith in
      let twice : 4294967295 - (4294967295 - a) ≡ a = omega arith in
      (λ i. shifted_of n (sign i) (sym twice i)) ∙ right_ones n few (4294967295 - a) (omega arith) ∙ sym (signed_negative e)
  by-sign false e =
      let l : a < 2147483648 = grind (arith, nat_tests) in
      let sign : bits_of a 31 31 ≡ 0 = omega arith in
      (λ i. shifted_of n (sign i) a) ∙ right_zeros n few a a_fits ∙ sym (signed_positive e)

  pub right_signed : shifted_of n (bits_of a 31 31) a ≡ shift_right_signed a n
  right_signed = by-sign (leb 2147483648 a) refl

-- a left shift is a right shift of the bits in reverse
pub left : (a n : ℕ) → a < 2 ^ 32 → n < 32 → reverse_of (shifted_of n 0 (reverse_of a 32)) 32 ≡ shift_left a n
left a n h few = ap (λ (x : ℕ). reverse_of x 32) (right_zeros n few (reverse_of a 32) (reverse_fits a 32)) ∙ left_shift a n few
