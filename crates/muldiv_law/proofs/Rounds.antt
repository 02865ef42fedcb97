-- From cycle to cycle: what the registers hold, by how many steps are made.
use Rattle.std.proofs.Common.{◌≡◌, ◌∙◌, ℕ, zero, suc, ◌+◌, ◌-◌, ◌*◌, ◌<◌, ◌≤◌, Bool, true, false, eqb, ltb, bit_and, refl, arith, ap}
use Rattle.std.proofs.lemmas.Bool.Decides.{nat_tests}
use Rattle.std.proofs.Math.Nat.{div-le_self}
use Rattle.core_words.specs.Values.{choose, bits_of, add_of, one_if}
use Rattle.muldiv_law.specs.Steps.{Halves, halves, first_signed, wide_of, inverts, stepped, several, last_inverts, hi_cycled, lo_cycled, fixed, start_of, end_of, result_by, result_of}
use Rattle.muldiv_law.specs.Machine.{rounds_of, works_of, count_next, hi_counted, lo_counted, hi_next, lo_next, Reached, Begins, GoesOn}

-- ---- steps behind steps
module _ (f2 f1 other inv : ℕ) where
  several-more : (k n : ℕ) (h : Halves) → several f2 f1 other inv k (several f2 f1 other inv n h) ≡ several f2 f1 other inv (k + n) h
  unfolding several
  several-more zero n h = let e : n ≡ 0 + n = omega arith in ap (λ (m : ℕ). several f2 f1 other inv m h) e
  several-more (suc k) n h =
      let e : suc (k + n) ≡ suc k + n = omega arith in
      ap (stepped f2 f1 other inv) (several-more k n h) ∙ ap (λ (m : ℕ). several f2 f1 other inv m h) e

  one-more : (n : ℕ) (h : Halves) → stepped f2 f1 other inv (several f2 f1 other inv n h) ≡ several f2 f1 other inv (suc n) h
  unfolding several
  one-more n h = refl

-- ---- counts
spread : (c u : ℕ) → suc c * u ≡ c * u + u
spread c u = grind arith

module _ (unroll rounds : ℕ) (whole : unroll * rounds ≡ 32) where
  some : 1 ≤ unroll
  some = by unroll whole
    where
      by : (u : ℕ) → u * rounds ≡ 32 → 1 ≤ u
      by zero e = absurd (let z : 0 * rounds ≡ 0 = omega arith in omega arith)
      by (suc u) e = omega arith

  some-rounds : 1 ≤ rounds
  some-rounds = by rounds whole
    where
      by : (n : ℕ) → unroll * n ≡ 32 → 1 ≤ n
      by zero e = absurd (let z : unroll * 0 ≡ 0 = omega arith in omega arith)
      by (suc n) e = omega arith

  next-count : (c : ℕ) → suc (unroll - 1 + c * unroll) ≡ (c + 1) * unroll
  next-count c =
      let s = some in
      let e : suc c * unroll ≡ c * unroll + unroll = spread c unroll in
      let f : suc c ≡ c + 1 = omega arith in
      (let g : suc (unroll - 1 + c * unroll) ≡ suc c * unroll = omega arith in g) ∙ ap (λ (k : ℕ). k * unroll) f

  last-count : (c : ℕ) → suc c ≡ rounds → unroll - 1 + c * unroll ≡ 31
  last-count c h =
      let s = some in
      let e : suc c * unroll ≡ c * unroll + unroll = spread c unroll in
      let f : suc c * unroll ≡ rounds * unroll = ap (λ (n : ℕ). n * unroll) h in
      let g : rounds * unroll ≡ unroll * rounds = grind arith in
      omega arith

yes : (m n : ℕ) → m ≡ n → eqb m n ≡ true
yes m n e = grind (arith, nat_tests)

no : (m n : ℕ) → m < n → eqb m n ≡ false
no m n l = grind (arith, nat_tests)

less : (m n : ℕ) → m < n → ltb m n ≡ true
less m n l = grind (arith, nat_tests)

equal : (m n : ℕ) → m ≡ n → ltb m n ≡ false
equal m n e = grind (arith, nat_tests)

-- ---- the first cycle
load : (unroll word a b count hi lo : ℕ) → halves (hi_next unroll (rounds_of unroll) word b 0 count hi lo) (lo_next unroll (rounds_of unroll) word a b 0 count hi lo)
    ≡ start_of (bits_of word 14 14) (bits_of word 12 12) a
unfolding hi_next lo_next works_of fixed start_of
load unroll word a b count hi lo = by (ltb count (rounds_of unroll)) refl
  where
    by : (t : Bool) → ltb count (rounds_of unroll) ≡ t → halves (hi_next unroll (rounds_of unroll) word b 0 count hi lo) (lo_next unroll (rounds_of unroll) word a b 0 count hi lo)
        ≡ start_of (bits_of word 14 14) (bits_of word 12 12) a
    by t e = refl

pub begins : Begins
unfolding count_next several
begins unroll word a b count hi lo whole =
    let n = some-rounds unroll (rounds_of unroll) whole in
    let none : 0 ≡ 0 * unroll = omega arith in
    record {
      count_is = refl;
      few = omega arith;
      steps = λ l. load unroll word a b count hi lo
          ∙ ap (λ (m : ℕ). several (bits_of word 14 14) (bits_of word 13 13) (wide_of (bits_of word 14 14) (bits_of word 13 13) (bits_of word 12 12) b)
          (inverts (bits_of word 14 14) (bits_of word 12 12) b 0) m (start_of (bits_of word 14 14) (bits_of word 12 12) a)) none;
      ended = λ h. absurd (omega arith);
      result = λ h. absurd (omega arith);
    }

-- ---- each later one
module _ (unroll word a b c count hi lo : ℕ) (whole : unroll * rounds_of unroll ≡ 32) (early : c ≤ rounds_of unroll) (is : Reached unroll word a b c count hi lo) where
  abbrev f2 : ℕ
  f2 = bits_of word 14 14

  abbrev f1 : ℕ
  f1 = bits_of word 13 13

  abbrev f0 : ℕ
  f0 = bits_of word 12 12

  abbrev other : ℕ
  other = wide_of f2 f1 f0 b

  abbrev plain : ℕ
  plain = inverts f2 f0 b 0

  abbrev begun : Halves
  begun = start_of f2 f0 a

  abbrev now : Halves
  now = halves hi lo

  abbrev after : Halves
  after = halves (hi_next unroll (rounds_of unroll) word b 1 count hi lo) (lo_next unroll (rounds_of unroll) word a b 1 count hi lo)

  most : rounds_of unroll ≤ 32
  most = div-le_self 32 unroll

  counts : count_next 1 count ≡ c + 1
  unfolding count_next
  counts = let m = most in ap (λ (k : ℕ). add_of 6 k 1) is.count_is ∙ omega arith

  -- a cycle of steps
  cycled : (last : Bool) → c < rounds_of unroll → eqb c (rounds_of unroll - 1) ≡ last
      → after ≡ stepped f2 f1 other (last_inverts f2 f1 f0 b (one_if last)) (several f2 f1 other plain (unroll - 1) (several f2 f1 other plain (c * unroll) begun))
  unfolding hi_next lo_next works_of hi_counted lo_counted hi_cycled lo_cycled stepped
  cycled last l q =
      let works : ltb count (rounds_of unroll) ≡ true = ap (λ (k : ℕ). ltb k (rounds_of unroll)) is.count_is ∙ less c (rounds_of unroll) l in
      let ends : eqb count (rounds_of unroll - 1) ≡ last = ap (λ (k : ℕ). eqb k (rounds_of unroll - 1)) is.count_is ∙ q in
      (λ i. halves
      (choose (bit_and 1 (one_if (works i))) (hi_counted unroll (rounds_of unroll) f2 f1 f0 b count hi lo) 0)
      (choose (bit_and 1 (one_if (works i))) (lo_counted unroll (rounds_of unroll) f2 f1 f0 b count hi lo) (fixed 1 f2 f1 f0 a b hi lo)))
      ∙ (λ i. stepped f2 f1 other (last_inverts f2 f1 f0 b (one_if (ends i))) (several f2 f1 other plain (unroll - 1) (is.steps l i)))

  steps-next : c + 1 < rounds_of unroll → after ≡ several f2 f1 other plain ((c + 1) * unroll) begun
  unfolding last_inverts
  steps-next l =
      cycled false (omega arith) (no c (rounds_of unroll - 1) (omega arith))
      ∙ ap (stepped f2 f1 other plain) (several-more f2 f1 other plain (unroll - 1) (c * unroll) begun)
      ∙ one-more f2 f1 other plain (unroll - 1 + c * unroll) begun
      ∙ ap (λ (m : ℕ). several f2 f1 other plain m begun) (next-count unroll (rounds_of unroll) whole c)

  steps-end : c + 1 ≡ rounds_of unroll → after ≡ end_of f2 f1 f0 a b
  unfolding last_inverts end_of
  steps-end h =
      cycled true (omega arith) (yes c (rounds_of unroll - 1) (omega arith))
      ∙ ap (stepped f2 f1 other (inverts f2 f0 b (first_signed f2 f1 f0)))
      (several-more f2 f1 other plain (unroll - 1) (c * unroll) begun ∙ ap (λ (m : ℕ). several f2 f1 other plain m begun) (last-count unroll (rounds_of unroll) whole c (omega arith)))

  gives : c ≡ rounds_of unroll → lo_next unroll (rounds_of unroll) word a b 1 count hi lo ≡ result_of word a b
  unfolding lo_next works_of fixed result_of result_by
  gives h =
      let rests : ltb count (rounds_of unroll) ≡ false = ap (λ (k : ℕ). ltb k (rounds_of unroll)) is.count_is ∙ equal c (rounds_of unroll) h in
      (λ i. choose (bit_and 1 (one_if (rests i))) (lo_counted unroll (rounds_of unroll) f2 f1 f0 b count hi lo) (fixed 1 f2 f1 f0 a b hi lo))
      ∙ (λ i. fixed 1 f2 f1 f0 a b (is.ended h i).hi (is.ended h i).lo)

  goes-next : Reached unroll word a b (c + 1) (count_next 1 count) (hi_next unroll (rounds_of unroll) word b 1 count hi lo) (lo_next unroll (rounds_of unroll) word a b 1 count hi lo)
  goes-next = record { count_is = counts; few = omega arith; steps = steps-next; ended = steps-end; result = λ h. gives (omega arith) }

pub goes_on : GoesOn
goes_on unroll word a b c count hi lo whole early is = goes-next unroll word a b c count hi lo whole early is
