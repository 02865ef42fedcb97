-- Comparison by halves is comparison.
use Rattle.std.proofs.Common.{◌≡◌, ◌∙◌, ℕ, ◌+◌, ◌*◌, ◌/◌, ◌^◌, ◌<◌, ◌≤◌, ◌&&◌, ◌||◌, Bool, true, false, eqb, leb, ltb, bit_and, bit_or, refl, arith, ap}
use Rattle.std.proofs.lemmas.Bool.Decides.{nat_tests}
use Rattle.std.specs.Int.Bits.{and_lt}
use Rattle.std.proofs.lemmas.Nat.{or_lt}
use Rattle.core_words.specs.Values.{one_if, bits_of, join_of, sub_of}
use Rattle.isa_table.specs.Results.{is_less_of, is_less_signed}
use Rattle.hw_words.specs.Halves.{high_less, low_less, high_equal, low_equal, less_of, equal_of}
use Rattle.hw_words.proofs.Bits.{one_and, one_bit}

-- the top bit of a difference of 17 bits
borrow-at : (x y : ℕ) → x < 65536 → y < 65536 → (t : Bool) → ltb x y ≡ t → bits_of (sub_of 17 (join_of 16 0 x) (join_of 16 0 y)) 16 16 ≡ one_if t
borrow-at x y h k true e = let l : x < y = grind (arith, nat_tests) in omega arith
borrow-at x y h k false e = let l : y ≤ x = grind (arith, nat_tests) in omega arith

borrow : (x y : ℕ) → x < 65536 → y < 65536 → bits_of (sub_of 17 (join_of 16 0 x) (join_of 16 0 y)) 16 16 ≡ one_if (ltb x y)
borrow x y h k = borrow-at x y h k (ltb x y) refl

-- the same with the signs above, which are s and u
signed-at : (x y s u : ℕ) → x < 65536 → y < 65536 → s ≡ x / 32768 → u ≡ y / 32768 → (t : Bool) → ltb (x + u * 65536) (y + s * 65536) ≡ t
    → bits_of (sub_of 17 (join_of 16 s x) (join_of 16 u y)) 16 16 ≡ one_if t
signed-at x y s u h k e f true g = let l : x + u * 65536 < y + s * 65536 = grind (arith, nat_tests) in omega arith
signed-at x y s u h k e f false g = let l : y + s * 65536 ≤ x + u * 65536 = grind (arith, nat_tests) in omega arith

either : (s t u : Bool) → bit_or (one_if s) (bit_and (one_if t) (one_if u)) ≡ one_if (s || (t && u))
either true true true = refl
either true true false = refl
either true false u = refl
either false true true = refl
either false true false = refl
either false false u = refl

both : (s t : Bool) → bit_and (one_if s) (one_if t) ≡ one_if (s && t)
both true true = refl
both true false = refl
both false t = refl

order : (h l m n : ℕ) → l < 65536 → n < 65536 → ltb h m || (eqb h m && ltb l n) ≡ ltb (h * 65536 + l) (m * 65536 + n)
order h l m n a b = grind (arith, nat_tests)

same : (h l m n : ℕ) → l < 65536 → n < 65536 → eqb h m && eqb l n ≡ eqb (h * 65536 + l) (m * 65536 + n)
same h l m n a b = grind (arith, nat_tests)

order-signed : (h l m n s u : ℕ) → l < 65536 → n < 65536 → h < 65536 → m < 65536 → s ≡ h / 32768 → u ≡ m / 32768 → (p q : Bool) → leb 2147483648 (h * 65536 + l) ≡ p → leb 2147483648 (m * 65536 + n) ≡ q
    → ltb (h + u * 65536) (m + s * 65536) || (eqb h m && ltb l n) ≡ is_less_of p q (h * 65536 + l) (m * 65536 + n)
order-signed h l m n s u a b c d e f true true x y = grind (arith, nat_tests)
order-signed h l m n s u a b c d e f true false x y = grind (arith, nat_tests)
order-signed h l m n s u a b c d e f false true x y = grind (arith, nat_tests)
order-signed h l m n s u a b c d e f false false x y = grind (arith, nat_tests)

module _ (a b : ℕ) (a_fits : a < 2 ^ 32) (b_fits : b < 2 ^ 32) where
  whole : (n : ℕ) → n < 2 ^ 32 → bits_of n 31 16 * 65536 + bits_of n 15 0 ≡ n
  whole n h = omega arith

  sign : (n : ℕ) → n < 2 ^ 32 → bit_and 1 (bits_of n 31 31) ≡ bits_of n 31 16 / 32768
  sign n h = one_and (bits_of n 31 31) (omega arith) ∙ (omega arith)

  pub less_unsigned : less_of 0 a b ≡ one_if (ltb a b)
  unfolding less_of high_less low_less high_equal
  less_unsigned =
      (λ i. bit_or (borrow (bits_of a 31 16) (bits_of b 31 16) (omega arith) (omega arith) i)
      (bit_and (one_if (eqb (bits_of a 31 16) (bits_of b 31 16))) (borrow (bits_of a 15 0) (bits_of b 15 0) (omega arith) (omega arith) i)))
      ∙ either (ltb (bits_of a 31 16) (bits_of b 31 16)) (eqb (bits_of a 31 16) (bits_of b 31 16)) (ltb (bits_of a 15 0) (bits_of b 15 0))
      ∙ ap one_if (order (bits_of a 31 16) (bits_of a 15 0) (bits_of b 31 16) (bits_of b 15 0) (omega arith) (omega arith))
      ∙ (λ i. one_if (ltb (whole a a_fits i) (whole b b_fits i)))

  pub less_signed : less_of 1 a b ≡ one_if (is_less_signed a b)
  unfolding less_of high_less low_less high_equal
  less_signed =
      let h = bits_of a 31 16 in
      let m = bits_of b 31 16 in
      let s = bit_and 1 (bits_of a 31 31) in
      let u = bit_and 1 (bits_of b 31 31) in
      (λ i. bit_or (signed-at h m s u (omega arith) (omega arith) (sign a a_fits) (sign b b_fits) (ltb (h + u * 65536) (m + s * 65536)) refl i)
      (bit_and (one_if (eqb h m)) (borrow (bits_of a 15 0) (bits_of b 15 0) (omega arith) (omega arith) i)))
      ∙ either (ltb (h + u * 65536) (m + s * 65536)) (eqb h m) (ltb (bits_of a 15 0) (bits_of b 15 0))
      ∙ ap one_if (order-signed h (bits_of a 15 0) m (bits_of b 15 0) s u (omega arith) (omega arith) (omega arith) (omega arith) (sign a a_fits) (sign b b_fits)
      (leb 2147483648 (h * 65536 + bits_of a 15 0)) (leb 2147483648 (m * 65536 + bits_of b 15 0)) refl refl)
      ∙ (λ i. one_if (is_less_signed (whole a a_fits i) (whole b b_fits i)))

  pub equal_is : equal_of a b ≡ one_if (eqb a b)
  unfolding equal_of high_equal low_equal
  equal_is =
      both (eqb (bits_of a 31 16) (bits_of b 31 16)) (eqb (bits_of a 15 0) (bits_of b 15 0))
      ∙ ap one_if (same (bits_of a 31 16) (bits_of a 15 0) (bits_of b 31 16) (bits_of b 15 0) (omega arith) (omega arith))
      ∙ (λ i. one_if (eqb (whole a a_fits i) (whole b b_fits i)))

-- each is one bit
pub less_bit : (s a b : ℕ) → less_of s a b < 2
unfolding less_of high_less low_less high_equal
less_bit s a b =
    or_lt 1 _ _ (omega arith) (and_lt 1 _ _ (one_bit (eqb (bits_of a 31 16) (bits_of b 31 16))) (omega arith))

pub equal_bit : (a b : ℕ) → equal_of a b < 2
unfolding equal_of high_equal low_equal
equal_bit a b = and_lt 1 _ _ (one_bit (eqb (bits_of a 31 16) (bits_of b 31 16))) (one_bit (eqb (bits_of a 15 0) (bits_of b 15 0)))
