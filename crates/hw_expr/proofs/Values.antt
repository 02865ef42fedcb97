-- Values of operators on one bit, and numbers with one bit.
use Rattle.std.proofs.Common.{◌≡◌, ◌∙◌, ℕ, zero, suc, ◌+◌, ◌-◌, ◌*◌, ◌/◌, ◌%◌, ◌^◌, ◌<◌, ◌≤◌, Bool, true, false, cond, eqb, ltb, refl, arith, ap, sym, subst}
use Rattle.std.proofs.lemmas.Bool.Decides.{nat_tests}
use Rattle.std.proofs.lemmas.Nat.Bits.{bit_at-pow_same, bit_at-pow_other}
use Rattle.std.proofs.Math.Nat.{div-eq_of_lt}
use Rattle.std.proofs.lemmas.Nat.{pow_pos, mod-pow-add}
use Rattle.core_words.specs.Values.{one_if, bits_of, choose, join_of}
use Rattle.hw_expr.specs.Signed.{sign_of, lts_of}
use Rattle.hw_expr.specs.Lists.{hot_of}

-- a choice by a test
pub choose_test : (b : Bool) (x y : ℕ) → choose (one_if b) x y ≡ cond b x y
choose_test true x y = refl
choose_test false x y = refl

hot-cases : (n v : ℕ) (t u w : Bool) → eqb v n ≡ t → ltb v n ≡ u → ltb v (n + 1) ≡ w → one_if t * 2 ^ n + cond u (2 ^ v) 0 ≡ cond w (2 ^ v) 0
hot-cases n v true true w e l m = absurd (grind (arith, nat_tests))
hot-cases n v true false true e l m = let s : n ≡ v = grind (arith, nat_tests) in let p : 2 ^ n ≡ 2 ^ v = ap (λ k. 2 ^ k) s in omega arith
hot-cases n v true false false e l m = absurd (grind (arith, nat_tests))
hot-cases n v false true true e l m = omega arith
hot-cases n v false true false e l m = absurd (grind (arith, nat_tests))
hot-cases n v false false true e l m = absurd (grind (arith, nat_tests))
hot-cases n v false false false e l m = omega arith

-- one bit more above
pub hot-more : (n v : ℕ) → join_of n (one_if (eqb v n)) (hot_of n v) ≡ hot_of (n + 1) v
hot-more n v = hot-cases n v (eqb v n) (ltb v n) (ltb v (n + 1)) refl refl refl

bit-of-test : (k v : ℕ) (t : Bool) → eqb v k ≡ t → 2 ^ v / 2 ^ k % 2 ≡ one_if t
bit-of-test k v true e = let s : k ≡ v = grind (arith, nat_tests) in subst (λ j. 2 ^ v / 2 ^ j % 2 ≡ 1) (sym s) (bit_at-pow_same v)
bit-of-test k v false e = bit_at-pow_other v k (grind (arith, nat_tests))

hot-bit-cases : (n v k : ℕ) (u : Bool) → ltb v n ≡ u → k < n → cond u (2 ^ v) 0 / 2 ^ k % 2 ≡ one_if (eqb v k)
hot-bit-cases n v k true l h = bit-of-test k v (eqb v k) refl
hot-bit-cases n v k false l h = no-bit (eqb v k) refl
  where
    no-bit : (t : Bool) → eqb v k ≡ t → 0 / 2 ^ k % 2 ≡ one_if t
    no-bit true e = absurd (grind (arith, nat_tests))
    no-bit false e = let none : 0 / 2 ^ k ≡ 0 = div-eq_of_lt (pow_pos k) in ap (λ m. m % 2) none

-- each bit below n
pub hot-bit : (n v k : ℕ) → k < n → bits_of (hot_of n v) k k ≡ one_if (eqb v k)
hot-bit n v k h =
    let one : k + 1 - k ≡ 1 = omega arith in
    ap (λ w. hot_of n v / 2 ^ k % 2 ^ w) one ∙ hot-bit-cases n v k (ltb v n) refl h

hot-first-cases : (v : ℕ) (t w : Bool) → eqb v 0 ≡ t → ltb v 1 ≡ w → one_if t ≡ cond w (2 ^ v) 0
hot-first-cases v true true e m = let s : 0 ≡ v = grind (arith, nat_tests) in ap (λ k. 2 ^ k) s
hot-first-cases v true false e m = absurd (grind (arith, nat_tests))
hot-first-cases v false true e m = absurd (grind (arith, nat_tests))
hot-first-cases v false false e m = refl

-- the first bit
pub hot-first : (n v : ℕ) → 1 ≡ n → one_if (eqb v (n - 1)) ≡ hot_of n v
hot-first n v s = subst (λ m. one_if (eqb v (m - 1)) ≡ hot_of m v) s (hot-first-cases v (eqb v 0) (ltb v 1) refl refl)

digit-picks : (f : ℕ → ℕ) (d h r : ℕ) → d < 2 → choose d (f (h + r)) (f r) ≡ f (d * h + r)
digit-picks f zero h r l = let e : r ≡ 0 * h + r = omega arith in ap f e
digit-picks f (suc zero) h r l = let e : h + r ≡ 1 * h + r = omega arith in ap f e
digit-picks f (suc (suc d)) h r l = absurd (omega arith)

-- the highest of b bits picks a half of what b bits can name
pub bit-picks : (f : ℕ → ℕ) (v b h : ℕ) → 1 ≤ b → h ≡ 2 ^ (b - 1)
    → choose (bits_of v (b - 1) (b - 1)) (f (h + v % 2 ^ (b - 1))) (f (v % 2 ^ (b - 1))) ≡ f (v % 2 ^ b)
bit-picks f v b h l is =
    let k = b - 1 in
    let r = v % 2 ^ k in
    let d = v / 2 ^ k % 2 in
    let one : k + 1 - k ≡ 1 = omega arith in
    let whole : 1 + k ≡ b = omega arith in
    let digit : d < 2 = omega arith in
    let split : v % 2 ^ (1 + k) ≡ d * 2 ^ k + r = mod-pow-add v 1 k in
    let sum : d * h + r ≡ v % 2 ^ b = ap (λ (m : ℕ). d * m + r) is ∙ sym split ∙ ap (λ (m : ℕ). v % 2 ^ m) whole in
    ap (λ (w : ℕ). choose (v / 2 ^ k % 2 ^ w) (f (h + r)) (f r)) one ∙ digit-picks f d h r digit ∙ ap f sum

-- a signed comparison by its signs
pub lts_from : (w x y e l s : ℕ) → s ≡ sign_of w x → e ≡ one_if (eqb (sign_of w x) (sign_of w y)) → l ≡ one_if (ltb x y) → choose e l s ≡ lts_of w x y
lts_from w x y e l s s_is e_is l_is =
    (λ i. choose (e_is i) (l_is i) (s_is i)) ∙ choose_test (eqb (sign_of w x) (sign_of w y)) (one_if (ltb x y)) (sign_of w x)
