-- What a unit says of itself a plug-in may say.
use Rattle.std.proofs.Common.{◌≡◌, ℕ, zero, suc, ◌<◌, ◌≤◌, List, [], ◌∷◌, length, get_or, map, Bool, true, false, not, ltb, eqb, refl, inl, inr, sym, ap, subst, arith}
use Rattle.std.proofs.lemmas.Bool.{cases_Bool, and_parts, both_ways, leb-true, ltb-true}
use Rattle.std.proofs.lemmas.List.{get_or-map, length-map}
use Rattle.std.proofs.lemmas.List.Folds.{list_all_at}
use Rattle.std.specs.List.{list_all}
use Rattle.stage_map.specs.declared.config.PlugEntry.{PlugEntry}
use Rattle.plug_law.specs.Table.{row_numbered, is_bus_group}
use Rattle.plug_api.specs.declared.spec.PlugSpec.{PlugSpec}
use Rattle.plug_api.specs.Spec.{IsSpec, IsSound, IsOfTable, IsOfBus, no_claim}
use Rattle.plug_kinds.specs.Kinds.{claim_of, fault_in}
use Rattle.unit_parts.specs.Says.{unit_spec, is_unit_row, is_rising, are_unit_rows}

not_true : (b : Bool) → not b ≡ true → b ≡ false
not_true true e = grind (arith, e)
not_true false e = refl

all_at : (p : ℕ → Bool) (xs : List ℕ) → list_all p xs ≡ true → (i : ℕ) → i < length xs → p (get_or xs i 0) ≡ true
all_at p xs h i there = elim (cases_Bool (p (get_or xs i 0))) [
  | inl t ↦ t
  | inr f ↦ grind (arith, list_all_at p xs i 0 there f)
]

rises : (xs : List ℕ) → is_rising xs ≡ true → (j k : ℕ) → j < k → k < length xs → get_or xs j 0 < get_or xs k 0
rises [] h j k less there = grind arith
rises (x ∷ xs) h zero (suc k) less there = ltb-true _ _ (all_at (λ y. ltb x y) xs (and_parts _ _ h).0 k (omega arith))
rises (x ∷ xs) h (suc j) (suc k) less there = rises xs (and_parts _ _ h).1 j k (omega arith) (omega arith)
rises (x ∷ xs) h j zero less there = grind arith

-- ---- a row of a unit

pub unit_row : (n : ℕ) → is_unit_row n ≡ true → n < 49
unit_row n h = ltb-true _ _ (and_parts _ _ (and_parts _ _ h).0).0

pub no_fence : (n : ℕ) → is_unit_row n ≡ true → eqb n 40 ≡ false
no_fence n h = not_true _ (and_parts _ _ (and_parts _ _ h).0).1

no_bus : (n : ℕ) → is_unit_row n ≡ true → is_bus_group (row_numbered n).group ≡ false
no_bus n h = not_true _ (and_parts _ _ h).1

of_bus : (n : ℕ) → IsOfBus n → is_bus_group (row_numbered n).group ≡ true
of_bus n (inl e) = ap is_bus_group e
of_bus n (inr e) = ap is_bus_group e

-- ---- the rows of a unit

within_rows : (rows : List ℕ) (k : ℕ) → k < length (map claim_of rows) → k < length rows
within_rows rows k there = subst (λ n. k < n) (length-map rows claim_of) there

claim_at : (rows : List ℕ) (k : ℕ) → k < length (map claim_of rows) → get_or (map claim_of rows) k no_claim ≡ claim_of (get_or rows k 0)
claim_at rows k there = get_or-map claim_of rows k 0 no_claim (within_rows rows k there)

row_at : (rows : List ℕ) (k : ℕ) → k < length (map claim_of rows) → (get_or (map claim_of rows) k no_claim).row ≡ get_or rows k 0
row_at rows k there = ap (λ c. c.row) (claim_at rows k there)

module _ (rows : List ℕ) (h : are_unit_rows rows ≡ true) where
  pub each_row : list_all is_unit_row rows ≡ true
  each_row = (and_parts _ _ h).1

  is_unit : (k : ℕ) → k < length (map claim_of rows) → is_unit_row (get_or rows k 0) ≡ true
  is_unit k there = all_at is_unit_row rows each_row k (within_rows rows k there)

  pub are_known : (i : ℕ) → i < length rows → get_or rows i 0 < 57
  are_known i there = let row : get_or rows i 0 < 49 = unit_row (get_or rows i 0) (all_at is_unit_row rows each_row i there) in omega arith

  pub says : (name : List ℕ) (fixed : ℕ) → fixed ≤ 65535 → IsSpec (unit_spec name rows fixed)
  says name fixed most = record {
    fixed = most;
    per_row = omega arith;
    few_rows = subst (λ n. n ≤ 64) (sym (length-map rows claim_of)) (leb-true _ _ (and_parts _ _ (and_parts _ _ h).0).0);
    few_keys = omega arith;
    in_table = λ k there. subst IsOfTable (sym (claim_at rows k there)) (record { known = are_known k (within_rows rows k there); mask = refl; value = refl });
    rows_differ = λ j k less there e.
        let rise : get_or rows j 0 < get_or rows k 0 = rises rows (and_parts _ _ (and_parts _ _ h).0).1 j k less (within_rows rows k there) in
        let first : (get_or (map claim_of rows) j no_claim).row ≡ get_or rows j 0 = row_at rows j (omega arith) in
        let second : (get_or (map claim_of rows) k no_claim).row ≡ get_or rows k 0 = row_at rows k there in
        omega arith;
    offers_differ = λ j k less there e. absurd (omega arith);
    executes = refl;
    units = λ k there. refl;
    loads = λ k there bus. absurd (both_ways _ (no_bus (get_or rows k 0) (is_unit k there)) (of_bus (get_or rows k 0) (subst IsOfBus (row_at rows k there) bus)));
    system = λ k there least.
        let row : get_or rows k 0 < 49 = unit_row (get_or rows k 0) (is_unit k there) in
        let is : (get_or (map claim_of rows) k no_claim).row ≡ get_or rows k 0 = row_at rows k there in
        absurd (omega arith);
    commits = λ e. grind (arith, e);
  }

pub is_spec_of : (s : PlugSpec) (name rows : List ℕ) (fixed : ℕ) → s ≡ unit_spec name rows fixed → are_unit_rows rows ≡ true → fixed ≤ 65535 → IsSpec s
is_spec_of s name rows fixed e h most = subst IsSpec (sym e) (says rows h name fixed most)

-- ---- what is said stays the same

pub same_spec : (s t : PlugSpec) → s ≡ t → IsSpec s → IsSpec t
same_spec s t e = subst IsSpec e

pub same_sound : (s t : PlugSpec) → s ≡ t → IsSound (λ (e : PlugEntry). fault_in [] e.params) (λ (e : PlugEntry). s)
    → IsSound (λ (e : PlugEntry). fault_in [] e.params) (λ (e : PlugEntry). t)
same_sound s t e = subst (λ (x : PlugSpec). IsSound (λ (e : PlugEntry). fault_in [] e.params) (λ (e : PlugEntry). x)) e
