-- Numbers of one bit.
use Rattle.std.proofs.Common.{◌≡◌, ◌∙◌, ℕ, zero, suc, ◌*◌, ◌/◌, ◌^◌, ◌<◌, Bool, true, false, cond, not, eqb, bit_and, bit_or, bit_xor, refl, arith, ap}
use Rattle.std.specs.Int.Bits.{and_zero_r}
use Rattle.std.proofs.lemmas.Nat.{and_mask}
use Rattle.core_words.specs.Values.{one_if, choose, bits_of, join_of}

-- a bit is the number of its test
pub bit_is : (n : ℕ) → n < 2 → n ≡ one_if (eqb n 1)
bit_is zero h = refl
bit_is (suc zero) h = refl
bit_is (suc (suc n)) h = absurd (omega arith)

pub one_and : (x : ℕ) → x < 2 → bit_and 1 x ≡ x
one_and zero h = refl
one_and (suc zero) h = refl
one_and (suc (suc n)) h = absurd (omega arith)

pub one_or : (x : ℕ) → x < 2 → bit_or 1 x ≡ 1
one_or zero h = refl
one_or (suc zero) h = refl
one_or (suc (suc n)) h = absurd (omega arith)

pub one_bit : (t : Bool) → one_if t < 2
one_bit true = omega arith
one_bit false = omega arith

pub choice_bit : (c x y : ℕ) → x < 2 → y < 2 → choose c x y < 2
choice_bit c x y h k = go (eqb c 1)
  where
    go : (t : Bool) → cond t x y < 2
    go true = h
    go false = k

-- exclusive "or" with 1 turns a bit over
pub turned : (t : Bool) (n : ℕ) → n ≡ one_if t → bit_xor n 1 ≡ one_if (not t)
turned true n e = ap (λ (k : ℕ). bit_xor k 1) e
turned false n e = ap (λ (k : ℕ). bit_xor k 1) e

-- a number with its bit 0, and without it
pub with_lowest : (n : ℕ) → n < 2 ^ 32 → join_of 1 (bits_of n 31 1) (bit_and (bits_of n 0 0) 1) ≡ n
with_lowest n h = ap (join_of 1 (bits_of n 31 1)) (and_mask (bits_of n 0 0) 1) ∙ (omega arith)

pub without_lowest : (n : ℕ) → n < 2 ^ 32 → join_of 1 (bits_of n 31 1) (bit_and (bits_of n 0 0) 0) ≡ n / 2 * 2
without_lowest n h = ap (join_of 1 (bits_of n 31 1)) (and_zero_r (bits_of n 0 0)) ∙ (omega arith)

pub test_bit : (t : Bool) (n : ℕ) → n ≡ one_if t → join_of 1 0 (bit_and 1 n) ≡ one_if t
test_bit true n e = ap (λ (k : ℕ). join_of 1 0 (bit_and 1 k)) e
test_bit false n e = ap (λ (k : ℕ). join_of 1 0 (bit_and 1 k)) e
