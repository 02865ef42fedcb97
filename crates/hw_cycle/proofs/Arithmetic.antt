-- The operators in 64 bits.
use Rattle.std.proofs.Common.{◌≡◌, ◌∙◌, ℕ, zero, suc, ◌+◌, ◌-◌, ◌*◌, ◌/◌, ◌%◌, ◌^◌, ◌<◌, ◌≤◌, ap, subst, arith, bit_and, pow-add}
use Rattle.std.proofs.lemmas.Nat.{and_mask, pow_pos}
use Rattle.std.proofs.Math.Pow.{mod-mod-pow}
use Rattle.std.proofs.Math.Nat.{add-mul-mod_self_right}
use Rattle.core_words.specs.Values.{add_of, sub_of, bits_of}

-- 64 is w and the rest
mod_wide : (w n : ℕ) → w ≤ 64 → n % 2 ^ 64 % 2 ^ w ≡ n % 2 ^ w
mod_wide w n h =
    let e : 64 - w + w ≡ 64 = omega arith in
    subst (λ k. n % 2 ^ k % 2 ^ w ≡ n % 2 ^ w) e (mod-mod-pow n (64 - w) w)

masked : (w n mask : ℕ) → mask ≡ 2 ^ w - 1 → bit_and n mask ≡ n % 2 ^ w
masked w n mask e = ap (bit_and n) e ∙ and_mask n w

pub sum_is : (w a b mask : ℕ) → w ≤ 64 → mask ≡ 2 ^ w - 1 → bit_and ((a + b) % 2 ^ 64) mask ≡ add_of w a b
sum_is w a b mask h e = masked w ((a + b) % 2 ^ 64) mask e ∙ mod_wide w (a + b) h

pub part_is : (a high low mask : ℕ) → mask ≡ 2 ^ (high + 1 - low) - 1 → bit_and (a / 2 ^ low) mask ≡ bits_of a high low
part_is a high low mask e = masked (high + 1 - low) (a / 2 ^ low) mask e

wrapped : (m k a b : ℕ) → b ≤ m → a + ((k * m + m) - b) ≡ (a + (m - b)) + k * m
wrapped m k a b h = omega arith

pow_split : (w : ℕ) → w ≤ 64 → 2 ^ 64 ≡ (2 ^ (64 - w) - 1) * 2 ^ w + 2 ^ w
pow_split w h =
    let e : 64 - w + w ≡ 64 = omega arith in
    let p : 0 < 2 ^ (64 - w) = pow_pos (64 - w) in
    subst (λ k. 2 ^ k ≡ (2 ^ (64 - w) - 1) * 2 ^ w + 2 ^ w) e (pow-add 2 (64 - w) w ∙ less_one (2 ^ (64 - w)) (2 ^ w) p)
  where
    less_one : (q m : ℕ) → 0 < q → q * m ≡ (q - 1) * m + m
    less_one zero m h = absurd (omega arith)
    less_one (suc q) m h = grind arith

pub difference_is : (w a b mask : ℕ) → w ≤ 64 → b < 2 ^ w → mask ≡ 2 ^ w - 1 → bit_and ((a + (2 ^ 64 - b)) % 2 ^ 64) mask ≡ sub_of w a b
difference_is w a b mask h l e =
    let le : b ≤ 2 ^ w = omega arith in
    masked w ((a + (2 ^ 64 - b)) % 2 ^ 64) mask e ∙ mod_wide w (a + (2 ^ 64 - b)) h
    ∙ ap (λ n. (a + (n - b)) % 2 ^ w) (pow_split w h)
    ∙ ap (λ n. n % 2 ^ w) (wrapped (2 ^ w) (2 ^ (64 - w) - 1) a b le)
    ∙ add-mul-mod_self_right (a + (2 ^ w - b)) (2 ^ (64 - w) - 1) (2 ^ w)
