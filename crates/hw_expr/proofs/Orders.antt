-- Numbers of a width in two's complement, and moved up by half of the range.
use Rattle.std.proofs.Common.{◌≡◌, ◌∙◌, ℕ, suc, ◌+◌, ◌-◌, ◌*◌, ◌/◌, ◌%◌, ◌^◌, ◌<◌, ◌≤◌, Bool, true, false, cond, eqb, ltb, refl, arith, ap, sym, inl, inr}
use Rattle.std.proofs.lemmas.Bool.{cases_lt}
use Rattle.std.proofs.lemmas.Bool.Decides.{nat_tests}
use Rattle.std.proofs.Math.Nat.{div-eq_of_lt, div-eq_of_lt-le, add-mul-mod_self_right, mod-eq_of_lt, pow-suc}
use Rattle.core_words.specs.Values.{one_if, add_of}
use Rattle.hw_expr.specs.Signed.{sign_of, lts_of}

test-same : (x y u v : ℕ) → (x < y → u < v) → (u < v → x < y) → (s t : Bool) → ltb x y ≡ s → ltb u v ≡ t → s ≡ t
test-same x y u v to from true true e f = refl
test-same x y u v to from true false e f = let l : x < y = grind (arith, nat_tests) in let m = to l in absurd (grind (arith, nat_tests))
test-same x y u v to from false true e f = let l : u < v = grind (arith, nat_tests) in let m = from l in absurd (grind (arith, nat_tests))
test-same x y u v to from false false e f = refl

test-yes : (u v : ℕ) → u < v → (t : Bool) → ltb u v ≡ t → 1 ≡ one_if t
test-yes u v l true e = refl
test-yes u v l false e = absurd (grind (arith, nat_tests))

test-no : (u v : ℕ) → v ≤ u → (t : Bool) → ltb u v ≡ t → 0 ≡ one_if t
test-no u v l true e = absurd (grind (arith, nat_tests))
test-no u v l false e = refl

-- w bits, of which the highest stands for h
module _ (w h : ℕ) (place : h ≡ 2 ^ (w - 1)) (whole : 2 ^ w ≡ h + h) (least : 1 ≤ w) where
  one-bit : (a : ℕ) → sign_of w a ≡ a / h % 2
  one-bit a =
      let one : w - 1 + 1 - (w - 1) ≡ 1 = omega arith in
      (λ i. a / sym place i % 2 ^ one i)

  sign-low : (a : ℕ) → a < h → sign_of w a ≡ 0
  sign-low a l = let q : a / h ≡ 0 = div-eq_of_lt l in one-bit a ∙ ap (λ n. n % 2) q

  sign-high : (a : ℕ) → h ≤ a → a < h + h → sign_of w a ≡ 1
  sign-high a l m = let q : a / h ≡ 1 = div-eq_of_lt-le {k = 1} h (omega arith) (omega arith) in one-bit a ∙ ap (λ n. n % 2) q

  moved-low : (a : ℕ) → a < h → add_of w a (2 ^ (w - 1)) ≡ a + h
  moved-low a l =
      let below : a + h < 2 ^ w = omega arith in
      ap (λ n. (a + n) % 2 ^ w) (sym place) ∙ mod-eq_of_lt below

  moved-high : (a : ℕ) → h ≤ a → a < h + h → add_of w a (2 ^ (w - 1)) ≡ a - h
  moved-high a l m =
      let below : a - h < 2 ^ w = omega arith in
      let sum : a + h ≡ a - h + 1 * 2 ^ w = omega arith in
      ap (λ n. (a + n) % 2 ^ w) (sym place) ∙ ap (λ n. n % 2 ^ w) sum ∙ add-mul-mod_self_right (a - h) 1 (2 ^ w) ∙ mod-eq_of_lt below

  order-at : (a b : ℕ) → a < h + h → b < h + h → lts_of w a b ≡ one_if (ltb (add_of w a (2 ^ (w - 1))) (add_of w b (2 ^ (w - 1))))
  order-at a b a_is b_is = elim (cases_lt a h) [
    | inl l ↦ elim (cases_lt b h) [
      | inl m ↦
          (λ i. cond (eqb (sign-low a l i) (sign-low b m i)) (one_if (ltb a b)) (sign-low a l i))
          ∙ ap one_if (test-same a b (a + h) (b + h) (λ p. omega arith) (λ p. omega arith) (ltb a b) (ltb (a + h) (b + h)) refl refl)
          ∙ (λ i. one_if (ltb (sym (moved-low a l) i) (sym (moved-low b m) i)))
      | inr m ↦
          (λ i. cond (eqb (sign-low a l i) (sign-high b m b_is i)) (one_if (ltb a b)) (sign-low a l i))
          ∙ test-no (a + h) (b - h) (omega arith) (ltb (a + h) (b - h)) refl
          ∙ (λ i. one_if (ltb (sym (moved-low a l) i) (sym (moved-high b m b_is) i)))
    ]
    | inr l ↦ elim (cases_lt b h) [
      | inl m ↦
          (λ i. cond (eqb (sign-high a l a_is i) (sign-low b m i)) (one_if (ltb a b)) (sign-high a l a_is i))
          ∙ test-yes (a - h) (b + h) (omega arith) (ltb (a - h) (b + h)) refl
          ∙ (λ i. one_if (ltb (sym (moved-high a l a_is) i) (sym (moved-low b m) i)))
      | inr m ↦
          (λ i. cond (eqb (sign-high a l a_is i) (sign-high b m b_is i)) (one_if (ltb a b)) (sign-high a l a_is i))
          ∙ ap one_if (test-same a b (a - h) (b - h) (λ p. omega arith) (λ p. omega arith) (ltb a b) (ltb (a - h) (b - h)) refl refl)
          ∙ (λ i. one_if (ltb (sym (moved-high a l a_is) i) (sym (moved-high b m b_is) i)))
    ]
  ]

halves-of : (w : ℕ) → 1 ≤ w → 2 ^ w ≡ 2 ^ (w - 1) + 2 ^ (w - 1)
halves-of w l =
    let e : suc (w - 1) ≡ w = omega arith in
    let p : 2 ^ suc (w - 1) ≡ 2 ^ (w - 1) * 2 = pow-suc 2 (w - 1) in
    let q : 2 ^ suc (w - 1) ≡ 2 ^ w = ap (λ k. 2 ^ k) e in
    omega arith

pub signed-order : (w a b : ℕ) → 1 ≤ w → a < 2 ^ w → b < 2 ^ w → lts_of w a b ≡ one_if (ltb (add_of w a (2 ^ (w - 1))) (add_of w b (2 ^ (w - 1))))
signed-order w a b l a_is b_is =
    let whole = halves-of w l in
    order-at w (2 ^ (w - 1)) refl whole l a b (omega arith) (omega arith)
