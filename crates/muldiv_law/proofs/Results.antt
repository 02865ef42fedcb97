-- What the steps make in all, for each kind of product and quotient.
use Rattle.std.proofs.Common.{◌≡◌, ◌∙◌, ℕ, zero, suc, ◌+◌, ◌-◌, ◌*◌, ◌/◌, ◌%◌, ◌^◌, ◌<◌, ◌≤◌, Bool, true, false, cond, not, eqb, leb, bit_xor, inl, inr, refl, arith, ap, sym, subst}
use Rattle.std.proofs.lemmas.Bool.Decides.{nat_tests}
use Rattle.std.proofs.lemmas.Nat.{mod-mul-add}
use Rattle.std.proofs.Math.Nat.{div-eq_of_lt-le}
use Rattle.core_words.specs.Values.{choose, bits_of, one_if}
use Rattle.isa_table.specs.Results.{extend_64, negate_if, product_low, product_high_signed, product_high_mixed, product_high_unsigned, quotient_signed, quotient_unsigned, remainder_signed, remainder_unsigned}
use Rattle.muldiv_law.specs.Steps.{Halves, halves, division_signed, second_signed, first_signed, sign_of, wide_of, inverts, stepped, several, negated, half_of, turns, start_of, end_of, result_by}
use Rattle.muldiv_law.proofs.Products.{sign_in, Multiplied, product-goes, product-step, plain-end, signed-end}
use Rattle.muldiv_law.proofs.Quotients.{Dividing, IsWithout, quotient-goes}

-- ---- the negator
negated-plain : (v : ℕ) → v < 2 ^ 32 → negated 0 v ≡ v
unfolding negated
negated-plain v h = omega arith

negated-is : (t : Bool) (v : ℕ) → v < 2 ^ 32 → negated (one_if t) v ≡ negate_if t v
unfolding negated
negated-is true v h = omega arith
negated-is false v h = omega arith

-- ---- products
start-product : (f0 a : ℕ) → a < 2 ^ 32 → start_of 0 f0 a ≡ halves 0 a
unfolding start_of sign_of division_signed
start-product f0 a h = ap (halves 0) (negated-plain a h)

module _ (f1 f0 a b : ℕ) (bit-f1 : f1 < 2) (a_below : a < 2 ^ 32) (b_below : b < 2 ^ 32) where
  end-signed : first_signed 0 f1 f0 ≡ 1 → Multiplied (a / 2 ^ 31 % 2) (sign_in f1 b) a b (end_of 0 f1 f0 a b)
  unfolding end_of inverts
  end-signed e =
      subst (λ (h : Halves). Multiplied (a / 2 ^ 31 % 2) (sign_in f1 b) a b h)
      (λ i. stepped 0 f1 (wide_of 0 f1 f0 b) (sym e i) (several 0 f1 (wide_of 0 f1 f0 b) 0 31 (sym (start-product f0 a a_below) i)))
      (signed-end f1 f0 a b (several 0 f1 (wide_of 0 f1 f0 b) 0 31 (halves 0 a)) bit-f1 b_below (product-goes f1 f0 a b 31 bit-f1 a_below b_below (omega arith)))

  end-plain : first_signed 0 f1 f0 ≡ 0 → Multiplied 0 (sign_in f1 b) a b (end_of 0 f1 f0 a b)
  unfolding end_of inverts
  end-plain e =
      subst (λ (h : Halves). Multiplied 0 (sign_in f1 b) a b h)
      (λ i. stepped 0 f1 (wide_of 0 f1 f0 b) (sym e i) (several 0 f1 (wide_of 0 f1 f0 b) 0 31 (sym (start-product f0 a a_below) i)))
      (plain-end f1 a b _ (product-step f1 f0 a b 31 (several 0 f1 (wide_of 0 f1 f0 b) 0 31 (halves 0 a)) bit-f1 (omega arith) b_below (product-goes f1 f0 a b 31 bit-f1 a_below b_below (omega arith))))

none-turned : (c : Bool) → choose (one_if c) 0 0 ≡ 0
none-turned true = refl
none-turned false = refl

turns-product : (f1 f0 a b : ℕ) → f1 < 2 → turns 0 f1 f0 a b ≡ 0
unfolding turns sign_of division_signed
turns-product zero f0 a b h = none-turned (eqb b 0)
turns-product (suc zero) f0 a b h = refl
turns-product (suc (suc k)) f0 a b h = absurd (omega arith)

-- the half that is the result
module _ (f1 f0 a b : ℕ) (bit-f1 : f1 < 2) where
  product-result : (v : ℕ) → v < 2 ^ 32 → half_of 0 f1 f0 (end_of 0 f1 f0 a b).hi (end_of 0 f1 f0 a b).lo ≡ v → result_by 0 f1 f0 a b ≡ v
  unfolding result_by
  product-result v h e = (λ i. negated (turns-product f1 f0 a b bit-f1 i) (e i)) ∙ negated-plain v h

low-of : (ta tb a b : ℕ) (h : Halves) → Multiplied ta tb a b h → h.lo ≡ a * b % 2 ^ 32
low-of ta tb a b h is = let s = is.sum in let l = is.lo_below in omega arith

high-at : (ta tb a b sign hi lo : ℕ) → ta < 2 → tb < 2 → hi < 2 ^ 32 → lo < 2 ^ 32
    → hi * 2 ^ 32 + lo + a * tb * 2 ^ 32 + ta * b * 2 ^ 32 ≡ a * b + (ta * tb + sign) * 2 ^ 64
    → hi ≡ (a + ta * 18446744069414584320) * (b + tb * 18446744069414584320) / 2 ^ 32 % 2 ^ 32
high-at zero zero a b sign hi lo s t h l e =
    let k : (a + 0 * 18446744069414584320) * (b + 0 * 18446744069414584320) ≡ a * b = grind arith in
    let e1 : a * 0 ≡ 0 = omega arith in let e2 : 0 * b ≡ 0 = omega arith in
    omega arith
high-at (suc zero) zero a b sign hi lo s t h l e =
    let k : (a + 1 * 18446744069414584320) * (b + 0 * 18446744069414584320) ≡ a * b + 18446744069414584320 * b = grind arith in
    let e1 : a * 0 ≡ 0 = omega arith in let e2 : 1 * b ≡ b = omega arith in
    omega arith
high-at zero (suc zero) a b sign hi lo s t h l e =
    let k : (a + 0 * 18446744069414584320) * (b + 1 * 18446744069414584320) ≡ a * b + 18446744069414584320 * a = grind arith in
    let e1 : a * 1 ≡ a = omega arith in let e2 : 0 * b ≡ 0 = omega arith in
    omega arith
high-at (suc zero) (suc zero) a b sign hi lo s t h l e =
    let k : (a + 1 * 18446744069414584320) * (b + 1 * 18446744069414584320) ≡ a * b + 18446744069414584320 * a + 18446744069414584320 * b + 18446744069414584320 * 18446744069414584320 = grind arith in
    let e1 : a * 1 ≡ a = omega arith in let e2 : 1 * b ≡ b = omega arith in
    omega arith
high-at (suc (suc x)) tb a b sign hi lo s t h l e = absurd (omega arith)
high-at ta (suc (suc x)) a b sign hi lo s t h l e = absurd (omega arith)

high-of : (ta tb a b : ℕ) (h : Halves) → ta < 2 → tb < 2 → Multiplied ta tb a b h → h.hi ≡ (a + ta * 18446744069414584320) * (b + tb * 18446744069414584320) / 2 ^ 32 % 2 ^ 32
high-of ta tb a b h s t is = high-at ta tb a b is.sign h.hi h.lo s t is.hi_below is.lo_below is.sum

extended : (a : ℕ) → a < 2 ^ 32 → extend_64 a ≡ a + a / 2 ^ 31 % 2 * 18446744069414584320
extended a h = by (leb 2147483648 a) refl
  where
    by : (t : Bool) → leb 2147483648 a ≡ t → cond (leb 2147483648 a) (a + (2 ^ 64 - 2 ^ 32)) a ≡ a + a / 2 ^ 31 % 2 * 18446744069414584320
    by true e = let l : 2147483648 ≤ a = grind (arith, nat_tests) in (λ i. cond (e i) (a + (2 ^ 64 - 2 ^ 32)) a) ∙ omega arith
    by false e = let l : a < 2147483648 = grind (arith, nat_tests) in (λ i. cond (e i) (a + (2 ^ 64 - 2 ^ 32)) a) ∙ omega arith

plain : (b : ℕ) → b + 0 * 18446744069414584320 ≡ b
plain b = omega arith

module _ (a b : ℕ) (a_below : a < 2 ^ 32) (b_below : b < 2 ^ 32) where
  pub mul-is : result_by 0 0 0 a b ≡ product_low a b
  unfolding half_of first_signed
  mul-is = product-result 0 0 a b (omega arith) (product_low a b) (omega arith) (low-of _ _ a b _ (end-signed 0 0 a b (omega arith) a_below b_below refl))

  pub mulh-is : result_by 0 0 1 a b ≡ product_high_signed a b
  unfolding half_of first_signed sign_in second_signed
  mulh-is = product-result 0 1 a b (omega arith) (product_high_signed a b) (omega arith)
      (high-of (a / 2 ^ 31 % 2) (b / 2 ^ 31 % 2) a b _ (omega arith) (omega arith) (end-signed 0 1 a b (omega arith) a_below b_below refl)
      ∙ (λ i. sym (extended a a_below) i * sym (extended b b_below) i / 2 ^ 32 % 2 ^ 32))

  pub mulhsu-is : result_by 0 1 0 a b ≡ product_high_mixed a b
  unfolding half_of first_signed sign_in second_signed
  mulhsu-is = product-result 1 0 a b (omega arith) (product_high_mixed a b) (omega arith)
      (high-of (a / 2 ^ 31 % 2) 0 a b _ (omega arith) (omega arith) (end-signed 1 0 a b (omega arith) a_below b_below refl)
      ∙ (λ i. sym (extended a a_below) i * plain b i / 2 ^ 32 % 2 ^ 32))

  pub mulhu-is : result_by 0 1 1 a b ≡ product_high_unsigned a b
  unfolding half_of first_signed sign_in second_signed
  mulhu-is = product-result 1 1 a b (omega arith) (product_high_unsigned a b) (omega arith)
      (high-of 0 0 a b _ (omega arith) (omega arith) (end-plain 1 1 a b (omega arith) a_below b_below refl)
      ∙ (λ i. plain a i * plain b i / 2 ^ 32 % 2 ^ 32))

-- ---- quotients: sa and sb say whether the signs of a and b are taken off
magnitude-below : (t : Bool) (v : ℕ) → v < 2 ^ 32 → negate_if t v < 2 ^ 32
magnitude-below true v h = omega arith
magnitude-below false v h = h

xor-is : (s t : Bool) → bit_xor (one_if s) (one_if t) ≡ one_if (cond s (not t) t)
xor-is true true = refl
xor-is true false = refl
xor-is false true = refl
xor-is false false = refl

module _ (f0 a b : ℕ) (sa sb : Bool) (a_below : a < 2 ^ 32) (b_below : b < 2 ^ 32)
    (a-sign : sign_of 1 f0 a ≡ one_if sa) (b-sign : sign_of 1 f0 b ≡ one_if sb) (a-some : sa ≡ true → 1 ≤ a) (b-some : sb ≡ true → 1 ≤ b) where
  dividend : ℕ
  dividend = negate_if sa a

  divisor : ℕ
  divisor = negate_if sb b

  dividend-below : dividend < 2 ^ 32
  unfolding dividend
  dividend-below = magnitude-below sa a a_below

  without : IsWithout (sign_of 1 f0 b) b divisor
  unfolding divisor
  without = by sb b-sign b-some
    where
      by : (t : Bool) → sign_of 1 f0 b ≡ one_if t → (t ≡ true → 1 ≤ b) → IsWithout (sign_of 1 f0 b) b (negate_if t b)
      by true e some = let l = some refl in inr (e, omega arith)
      by false e some = inl (e, refl)

  start-quotient : start_of 1 f0 a ≡ halves 0 dividend
  unfolding start_of dividend
  start-quotient = ap (halves 0) (ap (λ (n : ℕ). negated n a) a-sign ∙ negated-is sa a a_below)

  end-quotient : (f1 : ℕ) → Dividing dividend divisor 32 (end_of 1 f1 f0 a b)
  unfolding end_of inverts several dividend
  end-quotient f1 =
      subst (λ (h : Halves). Dividing dividend divisor 32 (several 1 f1 (wide_of 1 f1 f0 b) (inverts 1 f0 b 0) 32 h)) (sym start-quotient)
      (quotient-goes f1 f0 dividend b divisor 32 (magnitude-below sa a a_below) b_below without (omega arith))

  module _ (f1 : ℕ) where
    abbrev ended : Halves
    ended = end_of 1 f1 f0 a b

    -- what was divided
    parts-are : dividend ≡ ended.lo * divisor + ended.hi
    parts-are =
        let is = end-quotient f1 in
        let none : is.rest < 1 = is.rest_below in
        let low : ended.lo ≡ is.quotient = is.lo_is ∙ omega arith in
        let whole : dividend ≡ is.quotient * divisor + ended.hi = is.a_is ∙ omega arith in
        whole ∙ ap (λ (q : ℕ). q * divisor + ended.hi) (sym low)

    lo-quotient : 0 < divisor → dividend / divisor ≡ ended.lo
    lo-quotient some =
        let e = parts-are in
        let l = (end-quotient f1).fits some in
        let m : (ended.lo + 1) * divisor ≡ ended.lo * divisor + divisor = grind arith in
        div-eq_of_lt-le {k = ended.lo} divisor (omega arith) (omega arith)

    hi-remainder : 0 < divisor → dividend % divisor ≡ ended.hi
    hi-remainder some = ap (λ (n : ℕ). n % divisor) parts-are ∙ mod-mul-add ended.lo divisor ended.hi ((end-quotient f1).fits some)

    lo-ones : divisor ≡ 0 → ended.lo ≡ 2 ^ 32 - 1
    lo-ones none =
        let is = end-quotient f1 in
        let ones = is.ones none in
        let rest : is.rest < 1 = is.rest_below in
        is.lo_is ∙ omega arith

    hi-whole : divisor ≡ 0 → ended.hi ≡ dividend
    hi-whole none = sym (parts-are ∙ ap (λ (d : ℕ). ended.lo * d + ended.hi) none ∙ omega arith)

    lo-below : ended.lo < 2 ^ 32
    lo-below =
        let is = end-quotient f1 in
        let rest : is.rest < 1 = is.rest_below in
        let q : is.quotient < 2 ^ 32 = is.quotient_below in
        let e = is.lo_is in
        omega arith

    hi-below : ended.hi < 2 ^ 32
    hi-below = let e = parts-are in let l = dividend-below in omega arith

  some-divisor : eqb b 0 ≡ false → 0 < divisor
  unfolding divisor
  some-divisor e = by sb b-some
    where
      by : (t : Bool) → (t ≡ true → 1 ≤ b) → 0 < negate_if t b
      by true some = let l = some refl in omega arith
      by false some = grind (arith, nat_tests)

  no-divisor : eqb b 0 ≡ true → divisor ≡ 0
  unfolding divisor
  no-divisor e = let none : b ≡ 0 = grind (arith, nat_tests) in by sb b-some none
    where
      by : (t : Bool) → (t ≡ true → 1 ≤ b) → b ≡ 0 → negate_if t b ≡ 0
      by true some none = let l = some refl in absurd (omega arith)
      by false some none = none

  turned-twice : negate_if sa dividend ≡ a
  unfolding dividend
  turned-twice = by sa a-some
    where
      by : (t : Bool) → (t ≡ true → 1 ≤ a) → negate_if t (negate_if t a) ≡ a
      by true some = let l = some refl in omega arith
      by false some = refl

  pub quotient-is : result_by 1 0 f0 a b ≡ cond (eqb b 0) (2 ^ 32 - 1) (negate_if (cond sa (not sb) sb) (negate_if sa a / negate_if sb b))
  unfolding result_by half_of turns dividend divisor
  quotient-is = by (eqb b 0) refl
    where
      by : (t : Bool) → eqb b 0 ≡ t → negated (choose (one_if (eqb b 0)) 0 (bit_xor (sign_of 1 f0 a) (sign_of 1 f0 b))) (end_of 1 0 f0 a b).lo
          ≡ cond (eqb b 0) (2 ^ 32 - 1) (negate_if (cond sa (not sb) sb) (negate_if sa a / negate_if sb b))
      by true e =
          (λ i. negated (choose (one_if (e i)) 0 (bit_xor (sign_of 1 f0 a) (sign_of 1 f0 b))) (lo-ones 0 (no-divisor e) i)) ∙ negated-plain (2 ^ 32 - 1) (omega arith)
          ∙ (λ i. cond (sym e i) (2 ^ 32 - 1) (negate_if (cond sa (not sb) sb) (negate_if sa a / negate_if sb b)))
      by false e =
          (λ i. negated (choose (one_if (e i)) 0 (bit_xor (a-sign i) (b-sign i))) (end_of 1 0 f0 a b).lo)
          ∙ ap (λ (n : ℕ). negated n (end_of 1 0 f0 a b).lo) (xor-is sa sb)
          ∙ negated-is (cond sa (not sb) sb) (end_of 1 0 f0 a b).lo (lo-below 0)
          ∙ ap (negate_if (cond sa (not sb) sb)) (sym (lo-quotient 0 (some-divisor e)))
          ∙ (λ i. cond (sym e i) (2 ^ 32 - 1) (negate_if (cond sa (not sb) sb) (negate_if sa a / negate_if sb b)))

  pub remainder-is : result_by 1 1 f0 a b ≡ cond (eqb b 0) a (negate_if sa (negate_if sa a % negate_if sb b))
  unfolding result_by half_of turns dividend divisor
  remainder-is = ap (λ (n : ℕ). negated n (end_of 1 1 f0 a b).hi) a-sign ∙ negated-is sa (end_of 1 1 f0 a b).hi (hi-below 1) ∙ by (eqb b 0) refl
    where
      by : (t : Bool) → eqb b 0 ≡ t → negate_if sa (end_of 1 1 f0 a b).hi ≡ cond (eqb b 0) a (negate_if sa (negate_if sa a % negate_if sb b))
      by true e = ap (negate_if sa) (hi-whole 1 (no-divisor e)) ∙ turned-twice ∙ (λ i. cond (sym e i) a (negate_if sa (negate_if sa a % negate_if sb b)))
      by false e = ap (negate_if sa) (sym (hi-remainder 1 (some-divisor e))) ∙ (λ i. cond (sym e i) a (negate_if sa (negate_if sa a % negate_if sb b)))

sign-is : (v : ℕ) → v < 2 ^ 32 → bits_of v 31 31 ≡ one_if (leb 2147483648 v)
sign-is v h = by (leb 2147483648 v) refl
  where
    by : (t : Bool) → leb 2147483648 v ≡ t → v / 2 ^ 31 % 2 ≡ one_if (leb 2147483648 v)
    by true e = let l : 2147483648 ≤ v = grind (arith, nat_tests) in (let one : v / 2 ^ 31 % 2 ≡ 1 = omega arith in one) ∙ ap one_if (sym e)
    by false e = let l : v < 2147483648 = grind (arith, nat_tests) in (let none : v / 2 ^ 31 % 2 ≡ 0 = omega arith in none) ∙ ap one_if (sym e)

negative-some : (v : ℕ) → leb 2147483648 v ≡ true → 1 ≤ v
negative-some v e = let l : 2147483648 ≤ v = grind (arith, nat_tests) in omega arith

none-some : (v : ℕ) → false ≡ true → 1 ≤ v
none-some v e = absurd (cc)

module _ (a b : ℕ) (a_below : a < 2 ^ 32) (b_below : b < 2 ^ 32) where
  pub div-is : result_by 1 0 0 a b ≡ quotient_signed a b
  unfolding sign_of division_signed
  div-is = quotient-is 0 a b (leb 2147483648 a) (leb 2147483648 b) a_below b_below (sign-is a a_below) (sign-is b b_below) (negative-some a) (negative-some b)

  pub divu-is : result_by 1 0 1 a b ≡ quotient_unsigned a b
  unfolding sign_of division_signed
  divu-is = quotient-is 1 a b false false a_below b_below refl refl (none-some a) (none-some b)

  pub rem-is : result_by 1 1 0 a b ≡ remainder_signed a b
  unfolding sign_of division_signed
  rem-is = remainder-is 0 a b (leb 2147483648 a) (leb 2147483648 b) a_below b_below (sign-is a a_below) (sign-is b b_below) (negative-some a) (negative-some b)

  pub remu-is : result_by 1 1 1 a b ≡ remainder_unsigned a b
  unfolding sign_of division_signed
  remu-is = remainder-is 1 a b false false a_below b_below refl refl (none-some a) (none-some b)
