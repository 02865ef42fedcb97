-- An instruction ends two cycles behind its steps, with its row's value.
use Rattle.std.proofs.Common.{◌≡◌, ◌∙◌, ℕ, zero, suc, ◌+◌, ◌*◌, ◌^◌, ◌<◌, ◌≤◌, List, get_or, true, false, eqb, Some, bit_and, refl, arith, ap, subst}
use Rattle.std.proofs.Math.Numerals.{add-one}
use Rattle.std.proofs.lemmas.Bool.Decides.{nat_tests}
use Rattle.core_words.specs.Values.{one_if}
use Rattle.isa_table.specs.Rows.Action.{Computes}
use Rattle.isa_model.specs.Machine.{Set}
use Rattle.plug_law.specs.Table.{row_numbered, table_of}
use Rattle.unit_steps.specs.Cycles.{held_at, is_later, EndsIn, EndsWith}
use Rattle.unit_steps.proofs.Meeting.{met}
use Rattle.muldiv_law.specs.Steps.{result_of}
use Rattle.muldiv_law.specs.Machine.{rounds_of, ends_of, Reached}
use Rattle.muldiv_law.proofs.Rounds.{begins, goes_on}
use Rattle.muldiv_law.proofs.Rows.{right}
use Rattle.plug_muldiv.specs.Machine.{machine_of, MuldivIsRight}

same : (m n : ℕ) → m ≡ n → eqb m n ≡ true
same m n e = grind (arith, nat_tests)

less : (m n : ℕ) → m < n → eqb m n ≡ false
less m n l = grind (arith, nat_tests)

module _ (unroll word a b : ℕ) (whole : unroll * rounds_of unroll ≡ 32) (held : List ℕ) where
  -- what a register holds as a cycle begins
  abbrev at : (n register : ℕ) → ℕ
  at n register = get_or (held_at (machine_of unroll) word a b held n) register 0

  -- the cycle behind n others is reached
  reached : (n : ℕ) → n ≤ rounds_of unroll + 1 → Reached unroll word a b n (at (suc n) 0) (at (suc n) 1) (at (suc n) 2)
  unfolding held_at
  reached zero l = begins unroll word a b (get_or held 0 0) (get_or held 1 0) (get_or held 2 0) whole
  reached (suc n) l =
      subst (λ (k : ℕ). Reached unroll word a b k (at (suc (suc n)) 0) (at (suc (suc n)) 1) (at (suc (suc n)) 2)) (add-one n)
      (goes_on unroll word a b n (at (suc n) 0) (at (suc n) 1) (at (suc n) 2) whole (omega arith) (reached n (omega arith)))

  not_yet : (n : ℕ) → n < suc (suc (rounds_of unroll)) → (machine_of unroll).ends word a b (is_later n) (held_at (machine_of unroll) word a b held n) ≡ 0
  unfolding ends_of
  not_yet zero l = refl
  not_yet (suc n) l =
      let is = reached n (omega arith) in
      ap (λ (k : ℕ). bit_and 1 (one_if (eqb k (rounds_of unroll + 1)))) is.count_is ∙ ap (λ t. bit_and 1 (one_if t)) (less n (rounds_of unroll + 1) (omega arith))

  ends : EndsIn (machine_of unroll) word a b held (suc (suc (rounds_of unroll))) (result_of word a b)
  unfolding ends_of
  ends =
      let is = reached (suc (rounds_of unroll)) (omega arith) in
      record {
        works = not_yet;
        ends = ap (λ (k : ℕ). bit_and 1 (one_if (eqb k (rounds_of unroll + 1)))) is.count_is ∙ ap (λ t. bit_and 1 (one_if t)) (same (suc (rounds_of unroll)) (rounds_of unroll + 1) (omega arith));
        value_is = is.result (omega arith);
      }

pub ends_with : (unroll word a b : ℕ) → unroll * rounds_of unroll ≡ 32 → EndsWith (machine_of unroll) (rounds_of unroll + 4) word a b (result_of word a b)
ends_with unroll word a b whole held = (suc (suc (rounds_of unroll)), omega arith, ends unroll word a b whole held)

module _ (unroll : ℕ) (whole : unroll * rounds_of unroll ≡ 32) where
  -- one row of the eight
  row : (k : ℕ) → k < 8 → (set : Set) (word pc a b : ℕ) → (table_of set).row_of word ≡ Some (41 + k) → a < 2 ^ 32 → b < 2 ^ 32
      → (result : ℕ) × ((row_numbered (41 + k)).action pc word a b ≡ Computes result) × EndsWith (machine_of unroll) (rounds_of unroll + 4) word a b result
  row k l set word pc a b there a_fits b_fits =
      (result_of word a b, right word pc a b a_fits b_fits k l (met set word (41 + k) there), ends_with unroll word a b whole)

pub rows_end : MuldivIsRight
rows_end unroll whole =
    let all = row unroll whole in
    (all 0 (omega arith), (all 1 (omega arith), (all 2 (omega arith), (all 3 (omega arith), (all 4 (omega arith), (all 5 (omega arith), (all 6 (omega arith), (all 7 (omega arith), tt))))))))
