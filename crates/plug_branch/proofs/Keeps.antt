-- The unit keeps the law of Exec: it is done at once, and shows the effect of each row that it takes.
use Rattle.std.proofs.Common.{◌≡◌, ◌∙◌, ℕ, suc, ◌^◌, ◌<◌, Bool, true, false, eqb, List, [], ◌∷◌, ◌||◌, length, get_or, Option, Some, None, refl, sym, ap, subst, arith}
use Rattle.std.specs.List.{list_any}
use Rattle.std.proofs.lemmas.Bool.{both_ways, eqb-true}
use Rattle.bus_law.specs.Memory.{Memory}
use Rattle.isa_table.specs.Rows.{TableRow, meets}
use Rattle.isa_table.specs.Rows as rows
use Rattle.isa_csr.specs.Csrs.{Csrs}
use Rattle.isa_model.specs.Machine.{Set, has_row}
use Rattle.isa_model.specs.Effects.{Moment, Effect, effect_of, write_of}
use Rattle.isa_model.specs.Run.{is_fence_word}
use Rattle.plug_law.specs.Table.{row_numbered, table_of, number_of}
use Rattle.plug_law.specs.Exec.{ExecSignals, Terms, Shows}
use Rattle.plug_law.proofs.Rows.{row_is, is_met}
use Rattle.plug_law.proofs.IsTable.{is_table}
use Rattle.unit_law.specs.AtOnce.{IsAtOnce}
use Rattle.unit_law.proofs.AtOnce.{keeps_law as keeps_at_once}
use Rattle.plug_branch.specs.Law.{branch_rows, is_branch_row, IsBranch, BranchKeepsLaw, ShowsFlow}
use Rattle.plug_branch.proofs.Rows.{right}

-- a number of a list stands at some place
place_of : (xs : List ℕ) (n : ℕ) → list_any (λ x. eqb x n) xs ≡ true → (k : ℕ) × (k < length xs) × (get_or xs k 0 ≡ n)
place_of [] n h = absurd (both_ways false refl h)
place_of (x ∷ xs) n h = by (place_of xs n) (eqb x n) refl h
  where
    by : (list_any (λ y. eqb y n) xs ≡ true → (k : ℕ) × (k < length xs) × (get_or xs k 0 ≡ n))
        → (b : Bool) → eqb x n ≡ b → (b || list_any (λ y. eqb y n) xs) ≡ true → (k : ℕ) × (k < length (x ∷ xs)) × (get_or (x ∷ xs) k 0 ≡ n)
    by later true e g = (0, omega arith, eqb-true x n e)
    by later false e g = let w = later g in let l : w.0 < length xs = w.1 in (suc w.0, omega arith, w.2)

-- a word of a row that a set's table finds meets it
word_meets : (s : Set) (word number : ℕ) → (table_of s).row_of word ≡ Some number → meets word (row_numbered number) ≡ true
unfolding table_of
word_meets s word number h = by (rows.row_of (has_row s) word) refl h
  where
    some : (x y : ℕ) → ◌≡◌ {A = Option ℕ} (Some x) (Some y) → x ≡ y
    some x y e = cc

    none : (x : ℕ) → ◌≡◌ {A = Option ℕ} None (Some x) → ⊥
    none x e = cc

    by : (o : Option TableRow) → rows.row_of (has_row s) word ≡ o → Rattle.std.specs.Prelude.option_map number_of o ≡ Some number → meets word (row_numbered number) ≡ true
    by None e g = absurd (none number g)
    by (Some row) e g =
        let same : row.number ≡ number = some row.number number g in
        subst (λ n. meets word (row_numbered n) ≡ true) same (ap (meets word) (row_is (has_row s) word row e) ∙ is_met (has_row s) word row e)

-- outputs that are equal show the same
shows_same : (f : Effect) (v v' n n' c c' t t' : ℕ) (b b' : Bool) → v ≡ v' → n ≡ n' → c ≡ c' → t ≡ t' → b ≡ b' → Shows f v n c t b → Shows f v' n' c' t' b'
shows_same f v v' n n' c c' t t' b b' ev en ec et eb shows =
    subst (λ x. Shows f x n' c' t' b') ev (subst (λ x. Shows f v x c' t' b') en (subst (λ x. Shows f v n x t' b') ec (subst (λ x. Shows f v n c x b') et (subst (λ x. Shows f v n c t x) eb shows))))

-- for a set, and a unit that takes rows of these alone
module _ (set : Set) (x : Terms) (e : ExecSignals) (mem : ℕ → Memory) (csrs : ℕ → Csrs) (moments : ℕ → Moment)
    (table_is : x.table ≡ table_of set) (own : (number : ℕ) → x.claims number ≡ true → is_branch_row number ≡ true) (is : IsBranch e) where
  module _ (number word : ℕ) (claimed : x.claims number ≡ true) (found : x.table.row_of word ≡ Some number) where
    found_in : (table_of set).row_of word ≡ Some number
    found_in = (λ i. (sym table_is i).row_of word) ∙ found

    at : (k : ℕ) × (k < length branch_rows) × (get_or branch_rows k 0 ≡ number)
    at = place_of branch_rows number (own number claimed)

    module _ (pc a b : ℕ) (m : Memory) (c : Csrs) (o : Moment) where
      effect_is : x.table.effect number pc word a b m c o ≡ effect_of pc word m c o ((row_numbered number).action pc word a b)
      unfolding table_of
      effect_is = λ i. (table_is i).effect number pc word a b m c o

      shows_effect : a < 2 ^ 32 → b < 2 ^ 32 → ShowsFlow (x.table.effect number pc word a b m c o) word pc a b × (write_of (x.table.effect number pc word a b m c o) ≡ None)
      shows_effect h g =
          let met = subst (λ n. meets word (row_numbered n) ≡ true) (sym at.2) (word_meets set word number found_in) in
          subst (λ (f : Effect). ShowsFlow f word pc a b × (write_of f ≡ None)) (sym effect_is)
          (subst (λ n. ShowsFlow (effect_of pc word m c o ((row_numbered n).action pc word a b)) word pc a b × (write_of (effect_of pc word m c o ((row_numbered n).action pc word a b)) ≡ None)) at.2
          (right word pc a b h g at.0 at.1 met m c o))

    no_fence : is_fence_word word ≡ false
    no_fence = by (is_fence_word word) refl
      where
        not_there : (n : ℕ) → n ≡ 40 → is_branch_row n ≡ true → ⊥
        not_there n q h = both_ways (is_branch_row 40) refl (ap is_branch_row (sym q) ∙ h)

        by : (b : Bool) → is_fence_word word ≡ b → b ≡ false
        by true h = absurd (not_there number ((is_table set).fence_word word number found_in h) (own number claimed))
        by false h = refl

  at_once : IsAtOnce x e mem csrs moments
  at_once = record {
    at_once = is.done;
    shows = λ s go claimed found.
        let all = shows_effect (e.row (suc s)) (e.word (suc s)) claimed found (e.pc (suc s)) (e.a (suc s)) (e.b (suc s)) _ _ _ (is.a_fits s) (is.b_fits s) in (
          shows_same _ _ _ _ _ _ _ _ _ _ _ (sym (is.value s)) (sym (is.next_pc s)) (sym (is.cause s)) (sym (is.tval s)) (sym (is.trap s)) all.0,
          is.fence s ∙ sym (no_fence (e.row (suc s)) (e.word (suc s)) claimed found),
          all.1,
        );
  }

pub keeps_law : BranchKeepsLaw
keeps_law set x e db mem csrs moments table_is own free is = keeps_at_once x e db mem csrs moments free (at_once set x e mem csrs moments table_is own is)
