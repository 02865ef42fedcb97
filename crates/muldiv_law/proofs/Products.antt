-- Products: what 31 steps and a last one make.
use Rattle.std.proofs.Common.{◌≡◌, ◌∙◌, ℕ, zero, suc, ◌+◌, ◌-◌, ◌*◌, ◌/◌, ◌%◌, ◌^◌, ◌<◌, ◌≤◌, refl, arith, ap, sym, subst, pow-add}
use Rattle.std.proofs.Math.Nat.{pow-suc}
use Rattle.core_words.specs.Values.{choose, bits_of}
use Rattle.muldiv_law.specs.Steps.{Halves, second_signed, wide_of, upper_of, summand_of, total_of, step_total, hi_after, lo_after, hi_stepped, lo_stepped, stepped, several}
use Rattle.muldiv_law.proofs.Numbers.{adds-signed, keeps-signed, takes-signed, low-half, keeps-product, adds-product}

-- the sign bit of a number that is signed where f1 is 0
unfoldable pub sign_in : (f1 v : ℕ) → ℕ
sign_in f1 v = choose (second_signed 0 f1) (bits_of v 31 31) 0

total-is : (x other inv lo odd : ℕ) → bits_of lo 0 0 ≡ odd → step_total 0 x other inv lo ≡ total_of x other odd inv
unfolding step_total
total-is x other inv lo odd e = ap (λ (k : ℕ). total_of x other k inv) e

-- ---- one step's sum
keeps-at : (f1 f0 b inv hi lo : ℕ) → f1 < 2 → hi < 2 ^ 32 → let t : ℕ = total_of (upper_of 0 f1 hi lo) (wide_of 0 f1 f0 b) 0 inv in
    2 * (t / 2 ^ 2 % 2 ^ 32) + t / 2 ^ 1 % 2 + sign_in f1 hi * 2 ^ 32 ≡ hi + sign_in f1 (t / 2 ^ 2 % 2 ^ 32) * 2 ^ 33
unfolding total_of summand_of upper_of wide_of sign_in second_signed
keeps-at zero f0 b inv hi lo f h = keeps-signed hi h
keeps-at (suc zero) f0 b inv hi lo f h = omega arith
keeps-at (suc (suc k)) f0 b inv hi lo f h = absurd (omega arith)

adds-at : (f1 f0 b hi lo : ℕ) → f1 < 2 → hi < 2 ^ 32 → b < 2 ^ 32 → let t : ℕ = total_of (upper_of 0 f1 hi lo) (wide_of 0 f1 f0 b) 1 0 in
    2 * (t / 2 ^ 2 % 2 ^ 32) + t / 2 ^ 1 % 2 + (sign_in f1 hi + sign_in f1 b) * 2 ^ 32 ≡ hi + b + sign_in f1 (t / 2 ^ 2 % 2 ^ 32) * 2 ^ 33
unfolding total_of summand_of upper_of wide_of sign_in second_signed
adds-at zero f0 b hi lo f h k = adds-signed hi b h k
adds-at (suc zero) f0 b hi lo f h k = omega arith
adds-at (suc (suc m)) f0 b hi lo f h k = absurd (omega arith)

-- the last one: its sign is that of the result
takes-at : (f1 f0 b hi lo : ℕ) → f1 < 2 → hi < 2 ^ 32 → b < 2 ^ 32 → let t : ℕ = total_of (upper_of 0 f1 hi lo) (wide_of 0 f1 f0 b) 1 1 in
    2 * (t / 2 ^ 2 % 2 ^ 32) + t / 2 ^ 1 % 2 + sign_in f1 hi * 2 ^ 32 + b ≡ hi + sign_in f1 b * 2 ^ 32 + (t / 2 ^ 2 % 2 ^ 32) / 2 ^ 31 % 2 * 2 ^ 33
unfolding total_of summand_of upper_of wide_of sign_in second_signed
takes-at zero f0 b hi lo f h k = takes-signed hi b h k
takes-at (suc zero) f0 b hi lo f h k = omega arith
takes-at (suc (suc m)) f0 b hi lo f h k = absurd (omega arith)

-- ---- after n steps: low is what is known of the product, taken the part of a that is done
pub record Multiplying (f1 a b n : ℕ) (h : Halves) : Type 0 where
  pub low : ℕ
  pub rest : ℕ
  pub taken : ℕ
  pub hi_below : h.hi < 2 ^ 32
  pub lo_below : h.lo < 2 ^ 32
  pub lo_is : h.lo ≡ low * 2 ^ (32 - n) + rest
  pub rest_below : rest < 2 ^ (32 - n)
  pub a_is : a ≡ rest * 2 ^ n + taken
  pub taken_below : taken < 2 ^ n
  pub sum : h.hi * 2 ^ n + low + taken * sign_in f1 b * 2 ^ 32 ≡ taken * b + sign_in f1 h.hi * 2 ^ 32 * 2 ^ n

odd-of : (low p rest lo : ℕ) → lo ≡ low * (p * 2) + rest → bits_of lo 0 0 ≡ rest % 2
odd-of low p rest lo h = let e : low * (p * 2) ≡ low * p * 2 = grind arith in omega arith

parts : (a rest q taken r odd : ℕ) → a ≡ rest * q + taken → rest ≡ r * 2 + odd → a ≡ r * (q * 2) + (taken + odd * q)
parts a rest q taken r odd h e = h ∙ ap (λ (k : ℕ). k * q + taken) e ∙ grind arith

module _ (f1 f0 a b n : ℕ) (h : Halves) (bit-f1 : f1 < 2) (few : n < 32) (b_below : b < 2 ^ 32) (is : Multiplying f1 a b n h) where
  p : ℕ
  p = 2 ^ (31 - n)

  q : ℕ
  q = 2 ^ n

  places : p * q ≡ 2 ^ 31
  unfolding p q
  places = let e : 31 - n + n ≡ 31 = omega arith in sym (pow-add 2 (31 - n) n) ∙ ap (λ (k : ℕ). 2 ^ k) e

  wide : 2 ^ (32 - n) ≡ p * 2
  unfolding p
  wide = let e : 32 - n ≡ suc (31 - n) = omega arith in ap (λ (k : ℕ). 2 ^ k) e ∙ pow-suc 2 (31 - n)

  next-wide : 2 ^ (32 - suc n) ≡ p
  unfolding p
  next-wide = let e : 32 - suc n ≡ 31 - n = omega arith in ap (λ (k : ℕ). 2 ^ k) e

  next-q : 2 ^ suc n ≡ q * 2
  unfolding q
  next-q = pow-suc 2 n

  lo-is : h.lo ≡ is.low * (p * 2) + is.rest
  lo-is = is.lo_is ∙ ap (λ (k : ℕ). is.low * k + is.rest) wide

  total : (odd : ℕ) → ℕ
  total odd = total_of (upper_of 0 f1 h.hi h.lo) (wide_of 0 f1 f0 b) odd 0

  new-hi : ℕ → ℕ
  new-hi t = t / 2 ^ 2 % 2 ^ 32

  new-lo : ℕ → ℕ
  new-lo t = t / 2 ^ 1 % 2 * 2 ^ 31 + h.lo / 2 % 2 ^ 31

  made : (odd t taken : ℕ) → is.rest % 2 ≡ odd → taken ≡ is.taken + odd * q → taken < q * 2
      → new-hi t * (q * 2) + (t / 2 ^ 1 % 2 * q + is.low) + taken * sign_in f1 b * 2 ^ 32 ≡ taken * b + sign_in f1 (new-hi t) * 2 ^ 32 * (q * 2)
      → Multiplying f1 a b (suc n) (record { hi = new-hi t; lo = new-lo t })
  unfolding new-hi new-lo q
  made odd t taken o is-taken is-below sum = record {
    low = t / 2 ^ 1 % 2 * q + is.low;
    rest = is.rest / 2;
    taken = taken;
    hi_below = omega arith;
    lo_below = omega arith;
    lo_is =
        let below = is.lo_below in
        let same : h.lo / 2 % 2 ^ 31 ≡ h.lo / 2 = omega arith in
        let split : is.rest ≡ is.rest / 2 * 2 + odd = omega arith in
        let bit : odd < 2 = omega arith in
        ap (λ (k : ℕ). t / 2 ^ 1 % 2 * 2 ^ 31 + k) same
        ∙ low-half p q places is.low (is.rest / 2) (t / 2 ^ 1 % 2) odd h.lo (lo-is ∙ ap (λ (k : ℕ). is.low * (p * 2) + k) split) bit
        ∙ ap (λ (k : ℕ). (t / 2 ^ 1 % 2 * q + is.low) * k + is.rest / 2) (sym next-wide);
    rest_below =
        let r : is.rest < p * 2 = subst (λ (k : ℕ). is.rest < k) wide is.rest_below in
        subst (λ (k : ℕ). is.rest / 2 < k) (sym next-wide) (omega arith);
    a_is =
        let split : is.rest ≡ is.rest / 2 * 2 + odd = omega arith in
        parts a is.rest q is.taken (is.rest / 2) odd is.a_is split ∙ (λ i. is.rest / 2 * sym next-q i + sym is-taken i);
    taken_below = subst (λ (k : ℕ). taken < k) (sym next-q) is-below;
    sum = (λ i. new-hi t * next-q i + (t / 2 ^ 1 % 2 * q + is.low) + taken * sign_in f1 b * 2 ^ 32) ∙ sum ∙ (λ i. taken * b + sign_in f1 (new-hi t) * 2 ^ 32 * sym next-q i);
  }

  by-odd : (odd : ℕ) → is.rest % 2 ≡ odd → Multiplying f1 a b (suc n) (record { hi = new-hi (total odd); lo = new-lo (total odd) })
  unfolding new-hi new-lo q total
  by-odd zero o =
      made 0 (total 0) is.taken o (omega arith) (let l : is.taken < q = is.taken_below in omega arith)
      (keeps-product p q places h.hi is.low is.taken b (sign_in f1 h.hi) (sign_in f1 b) (new-hi (total 0)) (total 0 / 2 ^ 1 % 2) (sign_in f1 (new-hi (total 0))) is.sum (keeps-at f1 f0 b 0 h.hi h.lo bit-f1 is.hi_below))
  by-odd (suc zero) o =
      made 1 (total 1) (is.taken + q) o (omega arith) (let l : is.taken < q = is.taken_below in omega arith)
      (adds-product p q places h.hi is.low is.taken b (sign_in f1 h.hi) (sign_in f1 b) (new-hi (total 1)) (total 1 / 2 ^ 1 % 2) (sign_in f1 (new-hi (total 1))) is.sum (adds-at f1 f0 b h.hi h.lo bit-f1 is.hi_below b_below))
  by-odd (suc (suc k)) o = absurd (omega arith)

  pub product-step : Multiplying f1 a b (suc n) (stepped 0 f1 (wide_of 0 f1 f0 b) 0 h)
  unfolding stepped hi_stepped lo_stepped hi_after lo_after new-hi new-lo total
  product-step =
      subst (λ (t : ℕ). Multiplying f1 a b (suc n) (record { hi = new-hi t; lo = new-lo t }))
      (sym (total-is (upper_of 0 f1 h.hi h.lo) (wide_of 0 f1 f0 b) 0 h.lo (is.rest % 2) (odd-of is.low p is.rest h.lo lo-is))) (by-odd (is.rest % 2) refl)

pub product-begins : (f1 a b : ℕ) → f1 < 2 → a < 2 ^ 32 → Multiplying f1 a b 0 (record { hi = 0; lo = a })
unfolding sign_in second_signed
product-begins zero a b f h = record { low = 0; rest = a; taken = 0; hi_below = omega arith; lo_below = h; lo_is = omega arith; rest_below = h; a_is = omega arith; taken_below = omega arith; sum = omega arith }
product-begins (suc zero) a b f h = record { low = 0; rest = a; taken = 0; hi_below = omega arith; lo_below = h; lo_is = omega arith; rest_below = h; a_is = omega arith; taken_below = omega arith; sum = omega arith }
product-begins (suc (suc k)) a b f h = absurd (omega arith)

pub product-goes : (f1 f0 a b n : ℕ) → f1 < 2 → a < 2 ^ 32 → b < 2 ^ 32 → n ≤ 32 → Multiplying f1 a b n (several 0 f1 (wide_of 0 f1 f0 b) 0 n (record { hi = 0; lo = a }))
unfolding several
product-goes f1 f0 a b zero f h k l = product-begins f1 a b f h
product-goes f1 f0 a b (suc n) f h k l = product-step f1 f0 a b n (several 0 f1 (wide_of 0 f1 f0 b) 0 n (record { hi = 0; lo = a })) f (omega arith) k (product-goes f1 f0 a b n f h k (omega arith))

-- ---- the end: ta and tb are the signs of a and b
pub record Multiplied (ta tb a b : ℕ) (h : Halves) : Type 0 where
  pub sign : ℕ
  pub hi_below : h.hi < 2 ^ 32
  pub lo_below : h.lo < 2 ^ 32
  pub sum : h.hi * 2 ^ 32 + h.lo + a * tb * 2 ^ 32 + ta * b * 2 ^ 32 ≡ a * b + (ta * tb + sign) * 2 ^ 64

-- unsigned a
pub plain-end : (f1 a b : ℕ) (h : Halves) → Multiplying f1 a b 32 h → Multiplied 0 (sign_in f1 b) a b h
plain-end f1 a b h is =
    let none : is.rest < 1 = is.rest_below in
    let whole : a ≡ is.taken = is.a_is ∙ omega arith in
    let low : h.lo ≡ is.low = is.lo_is ∙ omega arith in
    let sum = is.sum in
    let e1 : is.taken * sign_in f1 b ≡ a * sign_in f1 b = ap (λ (k : ℕ). k * sign_in f1 b) (sym whole) in
    let e2 : is.taken * b ≡ a * b = ap (λ (k : ℕ). k * b) (sym whole) in
    record { sign = sign_in f1 h.hi; hi_below = is.hi_below; lo_below = is.lo_below; sum = omega arith }

last-kept : (a b t s s' hi low taken hi' bit lo' : ℕ) → a ≡ taken → lo' ≡ bit * 2 ^ 31 + low → hi * 2 ^ 31 + low + taken * t * 2 ^ 32 ≡ taken * b + s * 2 ^ 32 * 2 ^ 31
    → 2 * hi' + bit + s * 2 ^ 32 ≡ hi + s' * 2 ^ 33 → hi' * 2 ^ 32 + lo' + a * t * 2 ^ 32 + 0 * b * 2 ^ 32 ≡ a * b + (0 * t + s') * 2 ^ 64
last-kept a b t s s' hi low taken hi' bit lo' h k sum e =
    let e1 : a * t ≡ taken * t = ap (λ (z : ℕ). z * t) h in
    let e2 : a * b ≡ taken * b = ap (λ (z : ℕ). z * b) h in
    let e3 : 0 * b ≡ 0 = omega arith in
    let e4 : 0 * t ≡ 0 = omega arith in
    omega arith

last-taken : (a b t s s' hi low taken hi' bit lo' : ℕ) → a ≡ 2 ^ 31 + taken → lo' ≡ bit * 2 ^ 31 + low → hi * 2 ^ 31 + low + taken * t * 2 ^ 32 ≡ taken * b + s * 2 ^ 32 * 2 ^ 31
    → 2 * hi' + bit + s * 2 ^ 32 + b ≡ hi + t * 2 ^ 32 + s' * 2 ^ 33 → hi' * 2 ^ 32 + lo' + a * t * 2 ^ 32 + 1 * b * 2 ^ 32 ≡ a * b + (1 * t + s') * 2 ^ 64
last-taken a b t s s' hi low taken hi' bit lo' h k sum e =
    let e1 : a * t ≡ 2 ^ 31 * t + taken * t = ap (λ (z : ℕ). z * t) h ∙ grind arith in
    let e2 : a * b ≡ 2 ^ 31 * b + taken * b = ap (λ (z : ℕ). z * b) h ∙ grind arith in
    let e3 : 1 * b ≡ b = omega arith in
    let e4 : 1 * t ≡ t = omega arith in
    omega arith

-- signed a: the last step takes b off
module _ (f1 f0 a b : ℕ) (h : Halves) (bit-f1 : f1 < 2) (b_below : b < 2 ^ 32) (is : Multiplying f1 a b 31 h) where
  last-total : (odd : ℕ) → ℕ
  last-total odd = total_of (upper_of 0 f1 h.hi h.lo) (wide_of 0 f1 f0 b) odd 1

  last-hi : ℕ → ℕ
  last-hi t = t / 2 ^ 2 % 2 ^ 32

  last-lo : ℕ → ℕ
  last-lo t = t / 2 ^ 1 % 2 * 2 ^ 31 + h.lo / 2 % 2 ^ 31

  low-is : (t : ℕ) → last-lo t ≡ t / 2 ^ 1 % 2 * 2 ^ 31 + is.low
  unfolding last-lo
  low-is t = let l = is.lo_is in let k : is.rest < 2 = is.rest_below in let m = is.lo_below in omega arith

  by-last : (odd : ℕ) → is.rest ≡ odd → Multiplied odd (sign_in f1 b) a b (record { hi = last-hi (last-total odd); lo = last-lo (last-total odd) })
  unfolding last-hi last-total
  by-last zero o =
      let t = last-total 0 in
      let l = is.a_is in
      record {
        sign = sign_in f1 (last-hi t);
        hi_below = omega arith;
        lo_below = let e = low-is t in let l = is.lo_is in let m = is.lo_below in omega arith;
        sum = last-kept a b (sign_in f1 b) (sign_in f1 h.hi) (sign_in f1 (last-hi t)) h.hi is.low is.taken (last-hi t) (t / 2 ^ 1 % 2) (last-lo t) (omega arith) (low-is t) is.sum (keeps-at f1 f0 b 1 h.hi h.lo bit-f1 is.hi_below);
      }
  by-last (suc zero) o =
      let t = last-total 1 in
      let l = is.a_is in
      record {
        sign = last-hi t / 2 ^ 31 % 2;
        hi_below = omega arith;
        lo_below = let e = low-is t in let l = is.lo_is in let m = is.lo_below in omega arith;
        sum = last-taken a b (sign_in f1 b) (sign_in f1 h.hi) (last-hi t / 2 ^ 31 % 2) h.hi is.low is.taken (last-hi t) (t / 2 ^ 1 % 2) (last-lo t) (omega arith) (low-is t) is.sum (takes-at f1 f0 b h.hi h.lo bit-f1 is.hi_below b_below);
      }
  by-last (suc (suc k)) o = let l : is.rest < 2 = is.rest_below in absurd (omega arith)

  rest-is : is.rest ≡ a / 2 ^ 31 % 2
  rest-is = let e = is.a_is in let l : is.rest < 2 = is.rest_below in let k : is.taken < 2 ^ 31 = is.taken_below in omega arith

  pub signed-end : Multiplied (a / 2 ^ 31 % 2) (sign_in f1 b) a b (stepped 0 f1 (wide_of 0 f1 f0 b) 1 h)
  unfolding stepped hi_stepped lo_stepped hi_after lo_after last-hi last-lo last-total
  signed-end =
      let l : is.rest < 2 = is.rest_below in
      let e = is.lo_is in
      let odd : bits_of h.lo 0 0 ≡ is.rest = omega arith in
      subst (λ (k : ℕ). Multiplied k (sign_in f1 b) a b (stepped 0 f1 (wide_of 0 f1 f0 b) 1 h)) rest-is
      (subst (λ (t : ℕ). Multiplied is.rest (sign_in f1 b) a b (record { hi = last-hi t; lo = last-lo t })) (sym (total-is (upper_of 0 f1 h.hi h.lo) (wide_of 0 f1 f0 b) 1 h.lo is.rest odd)) (by-last is.rest refl))
