-- Two claims have a word in common exactly where each value lies within its mask, and the values agree on the bits that
-- both masks have: then the values joined are such a word. Each fact on masks is shown bit by bit.
use Rattle.std.proofs.Common.{◌≡◌, ℕ, ◌+◌, ◌-◌, ◌%◌, ◌^◌, ◌<◌, ◌↔◌, IsTrue, nat_eq, min, max, bit_and, bit_or, bit_xor, w32, ap, sym, ◌∙◌, arith}
use Rattle.std.proofs.Math.Path.{ap₂}
use Rattle.std.specs.Int.Bits.{and_self}
use Rattle.std.specs.Int.{bit_at, bit_not}
use Rattle.std.proofs.lemmas.Bool.Decides.{nat_tests}
use Rattle.std.proofs.lemmas.Nat.{and_assoc, and_le_l, or_lt}
use Rattle.std.proofs.lemmas.Nat.Bits.{bit_at_and, bit_at_or, bit_at_xor, bit_at_not, bit_at-zero, bit_at-lt, same_from_bits, same_from_bits_below}

-- ---- on one bit

bit_within : (v m : ℕ) → v < 2 → m < 2 → min v (1 - m) ≡ 0 → min v m ≡ v
bit_within v m a b h = omega arith

bit_outside : (v m : ℕ) → v < 2 → m < 2 → min v m ≡ v → min v (1 - m) ≡ 0
bit_outside v m a b h = omega arith

bit_joined : (v m u n : ℕ) → v < 2 → m < 2 → u < 2 → n < 2 → min v m ≡ v → min u n ≡ u → min (min ((v + u) % 2) m) n ≡ 0
    → (min (max v u) m ≡ v) × (min (max v u) n ≡ u)
bit_joined v m u n a b c d h k e = (omega arith, omega arith)

bit_agrees : (w m n : ℕ) → w < 2 → m < 2 → n < 2 → min (min ((min w m + min w n) % 2) m) n ≡ 0
bit_agrees w m n a b c = omega arith

-- ---- on numbers

module _ (v m : ℕ) where
  outside_bit : m < 2 ^ 32 → (i : ℕ) → i < 32 → bit_at (bit_and v (bit_not w32 m)) i ≡ min (bit_at v i) (1 - bit_at m i)
  outside_bit b i l = bit_at_and v (bit_not w32 m) i ∙ ap (min (bit_at v i)) (bit_at_not w32 m i b l)

  within_mask : v < 2 ^ 32 → m < 2 ^ 32 → bit_and v (bit_not w32 m) ≡ 0 → bit_and v m ≡ v
  within_mask a b h = same_from_bits_below 32 (bit_and v m) v (omega (arith, and_le_l v m)) a
      (λ i l. bit_at_and v m i ∙ bit_within (bit_at v i) (bit_at m i) (bit_at-lt v i) (bit_at-lt m i)
      (sym (outside_bit b i l) ∙ ap (λ q. bit_at q i) h ∙ bit_at-zero i))

  none_outside : v < 2 ^ 32 → m < 2 ^ 32 → bit_and v m ≡ v → bit_and v (bit_not w32 m) ≡ 0
  none_outside a b h = same_from_bits_below 32 (bit_and v (bit_not w32 m)) 0 (omega (arith, and_le_l v (bit_not w32 m))) (omega arith)
      (λ i l. outside_bit b i l ∙ bit_outside (bit_at v i) (bit_at m i) (bit_at-lt v i) (bit_at-lt m i)
      (sym (bit_at_and v m i) ∙ ap (λ q. bit_at q i) h) ∙ sym (bit_at-zero i))

  -- a value has no bit outside its mask
  pub within_iff : v < 2 ^ 32 → m < 2 ^ 32 → IsTrue (nat_eq (bit_and v (2 ^ 32 - 1 - m)) 0) ↔ (bit_and v m ≡ v)
  within_iff a b = (λ h. within_mask a b (grind (arith, nat_tests)), λ h. let none : bit_and v (bit_not w32 m) ≡ 0 = none_outside a b h in grind (arith, nat_tests))

-- v and u are the values, m and n the masks
module _ (v m u n : ℕ) where
  differ_bit : (i : ℕ) → bit_at (bit_and (bit_and (bit_xor v u) m) n) i ≡ min (min ((bit_at v i + bit_at u i) % 2) (bit_at m i)) (bit_at n i)
  differ_bit i =
      bit_at_and (bit_and (bit_xor v u) m) n i ∙ ap (λ q. min q (bit_at n i)) (bit_at_and (bit_xor v u) m i)
      ∙ ap (λ q. min (min q (bit_at m i)) (bit_at n i)) (bit_at_xor v u i)

  joined_bit : bit_and v m ≡ v → bit_and u n ≡ u → bit_and (bit_and (bit_xor v u) m) n ≡ 0 → (i : ℕ)
      → (min (max (bit_at v i) (bit_at u i)) (bit_at m i) ≡ bit_at v i) × (min (max (bit_at v i) (bit_at u i)) (bit_at n i) ≡ bit_at u i)
  joined_bit h k e i =
      bit_joined (bit_at v i) (bit_at m i) (bit_at u i) (bit_at n i) (bit_at-lt v i) (bit_at-lt m i) (bit_at-lt u i) (bit_at-lt n i)
      (sym (bit_at_and v m i) ∙ ap (λ q. bit_at q i) h) (sym (bit_at_and u n i) ∙ ap (λ q. bit_at q i) k)
      (sym (differ_bit i) ∙ ap (λ q. bit_at q i) e ∙ bit_at-zero i)

  under_mask : (k i : ℕ) → bit_at (bit_and (bit_or v u) k) i ≡ min (max (bit_at v i) (bit_at u i)) (bit_at k i)
  under_mask k i = bit_at_and (bit_or v u) k i ∙ ap (λ q. min q (bit_at k i)) (bit_at_or v u i)

  -- a word of both claims
  abbrev pub HasWord : Type 0
  HasWord = (w : ℕ) × (w < 2 ^ 32) × (bit_and w m ≡ v) × (bit_and w n ≡ u)

  joined_word : v < 2 ^ 32 → u < 2 ^ 32 → bit_and v m ≡ v → bit_and u n ≡ u → bit_and (bit_and (bit_xor v u) m) n ≡ 0 → HasWord
  joined_word a b h k e =
      (bit_or v u, or_lt 32 v u a b, same_from_bits _ _ (λ i. under_mask m i ∙ (joined_bit h k e i).0), same_from_bits _ _ (λ i. under_mask n i ∙ (joined_bit h k e i).1))

  agree_bit : (w : ℕ) → bit_and w m ≡ v → bit_and w n ≡ u → (i : ℕ) → bit_at (bit_and (bit_and (bit_xor v u) m) n) i ≡ 0
  agree_bit w h k i =
      differ_bit i ∙ ap₂ (λ p q. min (min ((p + q) % 2) (bit_at m i)) (bit_at n i)) (sym (ap (λ q. bit_at q i) h) ∙ bit_at_and w m i) (sym (ap (λ q. bit_at q i) k) ∙ bit_at_and w n i)
      ∙ bit_agrees (bit_at w i) (bit_at m i) (bit_at n i) (bit_at-lt w i) (bit_at-lt m i) (bit_at-lt n i)

  agrees : HasWord → bit_and (bit_and (bit_xor v u) m) n ≡ 0
  agrees (w, l, h, k) = same_from_bits _ 0 (λ i. agree_bit w h k i ∙ sym (bit_at-zero i))

  pub overlap_iff : v < 2 ^ 32 → u < 2 ^ 32 → bit_and v m ≡ v → bit_and u n ≡ u → IsTrue (nat_eq (bit_and (bit_and (bit_xor v u) m) n) 0) ↔ HasWord
  overlap_iff a b h k = (λ e. joined_word a b h k (grind (arith, nat_tests)), λ w. let e = agrees w in grind (arith, nat_tests))

-- the value of a word under a mask lies within it
pub word_within : (w m v : ℕ) → bit_and w m ≡ v → bit_and v m ≡ v
word_within w m v h = ap (λ q. bit_and q m) (sym h) ∙ and_assoc m w m ∙ ap (bit_and w) (and_self m) ∙ h
