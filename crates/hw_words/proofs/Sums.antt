-- What the adder has: the sum, the difference, and in its carry the comparison.
use Rattle.std.proofs.Common.{◌≡◌, ◌∙◌, ℕ, ◌+◌, ◌-◌, ◌*◌, ◌^◌, ◌<◌, ◌≤◌, Bool, true, false, leb, ltb, refl, arith, ap, sym, bit_and, bit_xor}
use Rattle.std.proofs.lemmas.Bool.Decides.{nat_tests}
use Rattle.std.specs.Int.Bits.{xor_zero_r, xor_add_and}
use Rattle.std.proofs.lemmas.Nat.{and_mask}
use Rattle.std.proofs.Math.Nat.{mod-eq_of_lt}
use Rattle.core_words.specs.Values.{one_if, add_of, sub_of, not_of, bits_of}
use Rattle.isa_table.specs.Results.{is_less_of, is_less_signed}
use Rattle.hw_words.specs.Sums.{flipped_of, framed_of, sum_of, carry_of}

flip-none : (b : ℕ) → flipped_of 0 b ≡ b
unfolding flipped_of
flip-none b = xor_zero_r b

flip-all : (b : ℕ) → b < 2 ^ 32 → flipped_of 1 b ≡ 4294967295 - b
unfolding flipped_of
flip-all b h =
    let sum : bit_xor b 4294967295 + bit_and b 4294967295 * 2 ≡ b + 4294967295 = xor_add_and b 4294967295 in
    let all : bit_and b 4294967295 ≡ b = and_mask b 32 ∙ mod-eq_of_lt h in
    omega arith

pub sum_adds : (a b : ℕ) → a < 2 ^ 32 → b < 2 ^ 32 → sum_of 0 a b ≡ add_of 32 a b
unfolding sum_of framed_of
sum_adds a b h k = let f = flip-none b in omega arith

pub sum_subtracts : (a b : ℕ) → a < 2 ^ 32 → b < 2 ^ 32 → sum_of 1 a b ≡ sub_of 32 a b
unfolding sum_of framed_of
sum_subtracts a b h k = let f = flip-all b k in omega arith

carry-at : (a b : ℕ) → a < 2 ^ 32 → b < 2 ^ 32 → (t : Bool) → ltb a b ≡ t → not_of 1 (carry_of 1 a b) ≡ one_if t
unfolding carry_of framed_of
carry-at a b h k true e = let f = flip-all b k in let l : a < b = grind (arith, nat_tests) in omega arith
carry-at a b h k false e = let f = flip-all b k in let l : b ≤ a = grind (arith, nat_tests) in omega arith

-- no carry comes out of the difference where a is less
pub carry_tests : (a b : ℕ) → a < 2 ^ 32 → b < 2 ^ 32 → not_of 1 (carry_of 1 a b) ≡ one_if (ltb a b)
carry_tests a b h k = carry-at a b h k (ltb a b) refl

-- the carry of a sum is its bit 32
pub carry_adds : (a b : ℕ) → a < 2 ^ 32 → b < 2 ^ 32 → carry_of 0 a b ≡ bits_of (a + b) 32 32
unfolding carry_of framed_of
carry_adds a b h k = let f = flip-none b in omega arith

-- ---- signed comparison, by the signs
pub sign_is : (a : ℕ) → a < 2 ^ 32 → (s : Bool) → leb 2147483648 a ≡ s → bits_of a 31 31 ≡ one_if s
sign_is a h true e = let l : 2147483648 ≤ a = grind (arith, nat_tests) in omega arith
sign_is a h false e = let l : a < 2147483648 = grind (arith, nat_tests) in omega arith

signed-by : (a y : ℕ) → a < 2 ^ 32 → y < 2 ^ 32 → (s t l : Bool) → leb 2147483648 a ≡ s → leb 2147483648 y ≡ t → ltb a y ≡ l
    → bit_xor (bit_xor (one_if l) (one_if s)) (one_if t) ≡ one_if (is_less_of s t a y)
signed-by a y h k true true true d e f = sym (ap one_if f)
signed-by a y h k true true false d e f = sym (ap one_if f)
signed-by a y h k false false true d e f = sym (ap one_if f)
signed-by a y h k false false false d e f = sym (ap one_if f)
signed-by a y h k true false true d e f = absurd (grind (arith, nat_tests))
signed-by a y h k true false false d e f = refl
signed-by a y h k false true true d e f = refl
signed-by a y h k false true false d e f = absurd (grind (arith, nat_tests))

-- signs that differ turn the unsigned comparison over
pub signed_tests : (a y : ℕ) → a < 2 ^ 32 → y < 2 ^ 32 → bit_xor (bit_xor (not_of 1 (carry_of 1 a y)) (bits_of a 31 31)) (bits_of y 31 31) ≡ one_if (is_less_signed a y)
signed_tests a y h k =
    (λ i. bit_xor (bit_xor (carry_tests a y h k i) (sign_is a h (leb 2147483648 a) refl i)) (sign_is y k (leb 2147483648 y) refl i))
    ∙ signed-by a y h k (leb 2147483648 a) (leb 2147483648 y) (ltb a y) refl refl refl
