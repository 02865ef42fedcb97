-- Quotients and remainders: what 32 steps make.
use Rattle.std.proofs.Common.{◌≡◌, ◌∙◌, ℕ, zero, suc, ◌+◌, ◌-◌, ◌*◌, ◌/◌, ◌%◌, ◌^◌, ◌<◌, ◌≤◌, Bool, true, false, cond, ltb, ◌⊎◌, inl, inr, refl, arith, ap, sym, subst, pow-add}
use Rattle.std.proofs.lemmas.Bool.{cases_lt}
use Rattle.std.proofs.lemmas.Bool.Decides.{nat_tests}
use Rattle.std.proofs.lemmas.Nat.{pow_pos}
use Rattle.std.proofs.Math.Nat.{pow-suc}
use Rattle.core_words.specs.Values.{choose, bits_of, join_of, not_of}
use Rattle.muldiv_law.specs.Steps.{Halves, sign_of, wide_of, inverts, upper_of, summand_of, total_of, step_total, hi_after, lo_after, hi_stepped, lo_stepped, stepped, several}
use Rattle.muldiv_law.proofs.Numbers.{divides-above, divides-below, divides-above-negative, divides-below-negative, low-rest, divides}

-- the sum of a step where d is what is taken off: its carry says that d is not above x
pub record Takes (d total x : ℕ) : Type 0 where
  pub above : d ≤ x → (bits_of total 34 34 ≡ 1) × (bits_of total 32 1 ≡ (x - d) % 2 ^ 32)
  pub below : x < d → bits_of total 34 34 ≡ 0

-- how b is d
abbrev pub IsWithout : (sign b d : ℕ) → Type 0
IsWithout sign b d = ((sign ≡ 0) × (d ≡ b)) ⊎ ((sign ≡ 1) × (d + b ≡ 2 ^ 32))

takes-total : (sign b d x : ℕ) → b < 2 ^ 32 → x < 2 ^ 33 → IsWithout sign b d → Takes d (total_of x (join_of 32 sign b) 1 (not_of 1 sign)) x
unfolding total_of summand_of
takes-total zero b d x k h (inl e) = record {
  above = λ l. let f = e.1 in let r = divides-above x b h k (omega arith) in (r.0, r.1 ∙ ap (λ (z : ℕ). (x - z) % 2 ^ 32) (sym f));
  below = λ l. let f = e.1 in divides-below x b h k (omega arith);
}
takes-total (suc zero) b d x k h (inr e) = record { above = λ l. divides-above-negative x b d h k e.1 l; below = λ l. divides-below-negative x b d h k e.1 l }
takes-total zero b d x k h (inr e) = let f = e.0 in absurd (omega arith)
takes-total (suc sign) b d x k h (inl e) = let f = e.0 in absurd (omega arith)
takes-total (suc (suc sign)) b d x k h (inr e) = let f = e.0 in absurd (omega arith)

-- ---- after n steps, a the dividend and d the divisor, without their signs
pub record Dividing (a d n : ℕ) (h : Halves) : Type 0 where
  pub quotient : ℕ
  pub rest : ℕ
  pub lo_is : h.lo ≡ rest * 2 ^ n + quotient
  pub rest_below : rest < 2 ^ (32 - n)
  pub quotient_below : quotient < 2 ^ n
  pub a_is : a ≡ (quotient * d + h.hi) * 2 ^ (32 - n) + rest
  pub fits : 0 < d → h.hi < d
  pub ones : d ≡ 0 → quotient + 1 ≡ 2 ^ n

module _ (f1 f0 a b d n : ℕ) (h : Halves) (a_below : a < 2 ^ 32) (b_below : b < 2 ^ 32) (few : n < 32) (without : IsWithout (sign_of 1 f0 b) b d) (is : Dividing a d n h) where
  p : ℕ
  p = 2 ^ (31 - n)

  q : ℕ
  q = 2 ^ n

  places : p * q ≡ 2 ^ 31
  unfolding p q
  places = let e : 31 - n + n ≡ 31 = omega arith in sym (pow-add 2 (31 - n) n) ∙ ap (λ (k : ℕ). 2 ^ k) e

  wide : 2 ^ (32 - n) ≡ p * 2
  unfolding p
  wide = let e : 32 - n ≡ suc (31 - n) = omega arith in ap (λ (k : ℕ). 2 ^ k) e ∙ pow-suc 2 (31 - n)

  next-wide : 2 ^ (32 - suc n) ≡ p
  unfolding p
  next-wide = let e : 32 - suc n ≡ 31 - n = omega arith in ap (λ (k : ℕ). 2 ^ k) e

  next-q : 2 ^ suc n ≡ q * 2
  unfolding q
  next-q = pow-suc 2 n

  some-p : 0 < p
  unfolding p
  some-p = pow_pos (31 - n)

  d-below : d ≤ 2 ^ 32
  d-below = by without
    where
      by : IsWithout (sign_of 1 f0 b) b d → d ≤ 2 ^ 32
      by (inl e) = let f = e.1 in omega arith
      by (inr e) = let f = e.1 in omega arith

  wide-rest : is.rest < p * 2
  wide-rest = subst (λ (k : ℕ). is.rest < k) wide is.rest_below

  -- the next bit of the dividend, and what is left of it
  bit : ℕ
  bit = cond (ltb is.rest p) 0 1

  left : ℕ
  left = cond (ltb is.rest p) is.rest (is.rest - p)

  split : (is.rest ≡ bit * p + left) × (left < p) × (bit < 2)
  unfolding bit left
  split = by (ltb is.rest p) refl
    where
      by : (t : Bool) → ltb is.rest p ≡ t → (is.rest ≡ cond t 0 1 * p + cond t is.rest (is.rest - p)) × (cond t is.rest (is.rest - p) < p) × (cond t 0 1 < 2)
      by true e = let l : is.rest < p = grind (arith, nat_tests) in (omega arith, l, omega arith)
      by false e = let l : p ≤ is.rest = grind (arith, nat_tests) in let m = wide-rest in (omega arith, omega arith, omega arith)

  lo-parts : (c : ℕ) → (h.lo / 2 ^ 31 % 2 ≡ bit) × (h.lo % 2 ^ 31 * 2 + c ≡ left * (q * 2) + (is.quotient * 2 + c))
  unfolding q bit left
  lo-parts c = low-rest p q places left bit is.quotient c h.lo (is.lo_is ∙ ap (λ (k : ℕ). k * q + is.quotient) split.0) split.1 is.quotient_below split.2

  x : ℕ
  x = h.hi * 2 + bit

  a-is : a ≡ (is.quotient * d + h.hi) * (p * 2) + (bit * p + left)
  a-is = is.a_is ∙ (λ i. (is.quotient * d + h.hi) * wide i + split.0 i)

  total : ℕ
  total = step_total 1 (upper_of 1 f1 h.hi h.lo) (wide_of 1 f1 f0 b) (inverts 1 f0 b 0) h.lo

  new-hi : ℕ
  new-hi = hi_after 1 (upper_of 1 f1 h.hi h.lo) total

  upper-is : upper_of 1 f1 h.hi h.lo ≡ x
  unfolding upper_of x
  upper-is = let e = (lo-parts 0).0 in omega arith

  -- x P is within a
  x-within : (is.quotient * d * 2 + x) * p + left ≡ a
  unfolding x
  x-within = sym (a-is ∙ spread is.quotient d h.hi p bit left)
    where
      spread : (u v w y z l : ℕ) → (u * v + w) * (y * 2) + (z * y + l) ≡ (u * v * 2 + (w * 2 + z)) * y + l
      spread u v w y z l = grind arith

  x-below : x < 2 ^ 32
  x-below =
      let e = x-within in
      let s = some-p in
      let f : p ≡ suc (p - 1) = omega arith in
      let g : (is.quotient * d * 2 + x) * p ≡ (is.quotient * d * 2 + x) * suc (p - 1) = ap (λ (k : ℕ). (is.quotient * d * 2 + x) * k) f in
      let k : (is.quotient * d * 2 + x) * suc (p - 1) ≡ (is.quotient * d * 2 + x) + (is.quotient * d * 2 + x) * (p - 1) = spread (is.quotient * d * 2 + x) (p - 1) in
      omega arith
    where
      spread : (u v : ℕ) → u * suc v ≡ u + u * v
      spread u v = grind arith

  takes : Takes d total x
  unfolding total step_total inverts wide_of
  takes = subst (λ (z : ℕ). Takes d (total_of z (join_of 32 (sign_of 1 f0 b) b) 1 (not_of 1 (sign_of 1 f0 b))) x) (sym upper-is) (takes-total (sign_of 1 f0 b) b d x b_below (let l = x-below in omega arith) without)

  made : (c hi' : ℕ) → c < 2 → bits_of total 34 34 ≡ c → new-hi ≡ hi' → hi' + c * d ≡ x → (0 < d → hi' < d) → (d ≡ 0 → c ≡ 1)
      → Dividing a d (suc n) (stepped 1 f1 (wide_of 1 f1 f0 b) (inverts 1 f0 b 0) h)
  unfolding stepped hi_stepped lo_stepped lo_after new-hi total x q
  made c hi' bit-c carry hi-is sum fits ones = record {
    quotient = is.quotient * 2 + c;
    rest = left;
    lo_is =
        (λ i. h.lo / 1 % 2 ^ 31 * 2 + carry i) ∙ (let e : h.lo / 1 % 2 ^ 31 * 2 + c ≡ h.lo % 2 ^ 31 * 2 + c = omega arith in e) ∙ (lo-parts c).1 ∙ ap (λ (k : ℕ). left * k + (is.quotient * 2 + c)) (sym next-q);
    rest_below = subst (λ (k : ℕ). left < k) (sym next-wide) split.1;
    quotient_below = subst (λ (k : ℕ). is.quotient * 2 + c < k) (sym next-q) (let l : is.quotient < q = is.quotient_below in omega arith);
    a_is = divides p q places a d is.quotient h.hi bit left c hi' a-is sum ∙ (λ i. ((is.quotient * 2 + c) * d + sym hi-is i) * sym next-wide i + left);
    fits = λ s. subst (λ (k : ℕ). k < d) (sym hi-is) (fits s);
    ones = λ s. let e : is.quotient + 1 ≡ q = is.ones s in let f = ones s in (let g : is.quotient * 2 + c + 1 ≡ q * 2 = omega arith in g) ∙ sym next-q;
  }

  hi-above : bits_of total 34 34 ≡ 1 → new-hi ≡ bits_of total 32 1
  unfolding new-hi hi_after
  hi-above e = ap (λ (c : ℕ). choose c (bits_of total 32 1) (bits_of (upper_of 1 f1 h.hi h.lo) 31 0)) e

  hi-below : bits_of total 34 34 ≡ 0 → new-hi ≡ bits_of (upper_of 1 f1 h.hi h.lo) 31 0
  unfolding new-hi hi_after
  hi-below e = ap (λ (c : ℕ). choose c (bits_of total 32 1) (bits_of (upper_of 1 f1 h.hi h.lo) 31 0)) e

  below-two : 0 < d → x < d * 2
  unfolding x
  below-two s = let l = is.fits s in let m = split.2 in omega arith

  pub quotient-step : Dividing a d (suc n) (stepped 1 f1 (wide_of 1 f1 f0 b) (inverts 1 f0 b 0) h)
  quotient-step = by (cases_lt x d)
    where
      by : (x < d) ⊎ (d ≤ x) → Dividing a d (suc n) (stepped 1 f1 (wide_of 1 f1 f0 b) (inverts 1 f0 b 0) h)
      by (inl l) =
          let carry = takes.below l in
          let m = x-below in
          made 0 x (omega arith) carry (hi-below carry ∙ ap (λ (z : ℕ). bits_of z 31 0) upper-is ∙ omega arith) (omega arith) (λ s. l) (λ s. absurd (omega arith))
      by (inr l) =
          let t = takes.above l in
          let m = x-below in
          made 1 (x - d) (omega arith) t.0 (hi-above t.0 ∙ t.1 ∙ omega arith) (omega arith) (λ s. let k = below-two s in omega arith) (λ s. refl)

pub quotient-begins : (a d : ℕ) → a < 2 ^ 32 → Dividing a d 0 (record { hi = 0; lo = a })
quotient-begins a d h = record { quotient = 0; rest = a; lo_is = omega arith; rest_below = h; quotient_below = omega arith; a_is = omega arith; fits = λ s. s; ones = λ s. refl }

pub quotient-goes : (f1 f0 a b d n : ℕ) → a < 2 ^ 32 → b < 2 ^ 32 → IsWithout (sign_of 1 f0 b) b d → n ≤ 32 → Dividing a d n (several 1 f1 (wide_of 1 f1 f0 b) (inverts 1 f0 b 0) n (record { hi = 0; lo = a }))
unfolding several
quotient-goes f1 f0 a b d zero h k w l = quotient-begins a d h
quotient-goes f1 f0 a b d (suc n) h k w l = quotient-step f1 f0 a b d n (several 1 f1 (wide_of 1 f1 f0 b) (inverts 1 f0 b 0) n (record { hi = 0; lo = a })) h k (omega arith) w (quotient-goes f1 f0 a b d n h k w (omega arith))
