-- Each shift of the light shifter ends in time, with the value of its row.
use Rattle.std.proofs.Common.{◌≡◌, ◌∙◌, ◌≢◌, ℕ, zero, suc, ◌+◌, ◌≤◌, Bool, true, false, eqb, List, get_or, bit_and, refl, arith, ap, sym}
use Rattle.std.proofs.lemmas.Bool.{eqb-true}
use Rattle.core_words.specs.Values.{choose, one_if, bits_of, sub_of}
use Rattle.unit_steps.specs.Cycles.{held_at, is_later, EndsIn, EndsWith}
use Rattle.unit_steps.specs.Parts.{RowsEnd}
use Rattle.unit_steps.proofs.Meeting.{met}
use Rattle.plug_shift.specs.Machine.{amount_of, moved_of, left_of, now_of, light_machine}
use Rattle.plug_shift.specs.Rows.{shift_rows}
use Rattle.plug_shift.proofs.Words.{field, amount_below}
use Rattle.plug_shift.proofs.Places.{moved_is, times, times_zero, times_suc, left_times, right_times, signed_times}

-- ---- the cycles

none_left : (m : ℕ) → m ≡ 0 → one_if (eqb m 0) ≡ 1
none_left m e = ap (λ (k : ℕ). one_if (eqb k 0)) e

some_left : (m : ℕ) → m ≢ 0 → one_if (eqb m 0) ≡ 0
some_left m some = by (eqb m 0) refl
  where
    by : (t : Bool) → eqb m 0 ≡ t → one_if t ≡ 0
    by true e = absurd (some (eqb-true m 0 e))
    by false e = refl

module _ (word a b : ℕ) (held : List ℕ) where
  abbrev after : ℕ → List ℕ
  after n = held_at light_machine word a b held n

  abbrev left_after : ℕ → ℕ
  left_after n = left_of word b (is_later n) (get_or (after n) 0 0)

  abbrev now_after : ℕ → ℕ
  now_after n = now_of a (is_later n) (get_or (after n) 1 0)

  -- with each cycle one place less is left
  left_is : (n : ℕ) → n ≤ amount_of word b → left_after n + n ≡ amount_of word b
  unfolding left_of held_at
  left_is zero l = omega arith
  left_is (suc n) l =
      let before = left_is n (omega arith) in
      let few = amount_below word b in
      let m : ℕ = left_after n in
      let is : m + n ≡ amount_of word b = before in
      let less : sub_of 5 m 1 + suc n ≡ amount_of word b = omega arith in
      less

  -- and one place more is moved
  now_is : (n : ℕ) → now_after n ≡ times (bits_of word 14 14) (bits_of word 30 30) a n
  unfolding now_of held_at
  now_is zero = sym (times_zero (bits_of word 14 14) (bits_of word 30 30) a)
  now_is (suc n) =
      ap (moved_of word) (now_is n)
      ∙ (moved_is word (times (bits_of word 14 14) (bits_of word 30 30) a n) ∙ sym (times_suc (bits_of word 14 14) (bits_of word 30 30) a n))

  ends_in : (result : ℕ) → times (bits_of word 14 14) (bits_of word 30 30) a (amount_of word b) ≡ result → EndsIn light_machine word a b held (amount_of word b) result
  ends_in result e = record {
    works = λ n l. some_left (left_after n) (λ none. let is = left_is n (omega arith) in omega (arith, is, none, l));
    ends = none_left (left_after (amount_of word b)) (let is = left_is (amount_of word b) (omega arith) in omega (arith, is));
    value_is = now_is (amount_of word b) ∙ e;
  }

-- ---- the rows

module _ (most : ℕ) (enough : 32 ≤ most) where
  ends_with : (word a b result : ℕ) → times (bits_of word 14 14) (bits_of word 30 30) a (amount_of word b) ≡ result → EndsWith light_machine most word a b result
  ends_with word a b result e held = (amount_of word b, (let few = amount_below word b in omega (arith, few, enough)), ends_in word a b held result e)

  row : (word a b v : ℕ) → eqb (bit_and word 0xfe00707f) v ≡ true
      → times (bits_of word 14 14) (bits_of word 30 30) a (amount_of word b) ≡ times (bits_of v 14 14) (bits_of v 30 30) a (choose (bits_of v 5 5) (bits_of b 4 0) (bits_of word 24 20))
  unfolding amount_of
  row word a b v h = λ i. times (field word v h 14 14 refl i) (field word v h 30 30 refl i) a (choose (field word v h 5 5 refl i) (bits_of b 4 0) (bits_of word 24 20))

  pub rows_end : RowsEnd shift_rows light_machine most
  rows_end = (
    λ set word pc a b found fits _. (_, refl, ends_with word a b _ (row word a b 0x1013 (met set word 24 found) ∙ left_times 0 a (bits_of word 24 20) fits)),
    (
      λ set word pc a b found fits _. (_, refl, ends_with word a b _ (row word a b 0x5013 (met set word 25 found) ∙ right_times a (bits_of word 24 20) fits)),
      (
        λ set word pc a b found fits _. (_, refl, ends_with word a b _ (row word a b 0x40005013 (met set word 26 found) ∙ signed_times a (bits_of word 24 20) fits (omega arith))),
        (
          λ set word pc a b found fits _. (_, refl, ends_with word a b _ (row word a b 0x1033 (met set word 29 found) ∙ left_times 0 a (bits_of b 4 0) fits)),
          (
            λ set word pc a b found fits _. (_, refl, ends_with word a b _ (row word a b 0x5033 (met set word 33 found) ∙ right_times a (bits_of b 4 0) fits)),
            (
              λ set word pc a b found fits _. (_, refl, ends_with word a b _ (row word a b 0x40005033 (met set word 34 found) ∙ signed_times a (bits_of b 4 0) fits (omega arith))),
              tt,
            ),
          ),
        ),
      ),
    ),
  )
