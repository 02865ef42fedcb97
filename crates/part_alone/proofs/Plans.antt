-- Plans of claims of some rows of the table.
use Rattle.std.proofs.Common.{◌≡◌, ◌∙◌, ℕ, suc, ◌+◌, ◌<◌, ◌≤◌, List, [], ◌∷◌, ◌++◌, length, get_or, refl, ap, sym, arith, subst, eqb, false, cond, length-append, inl, inr}
use Rattle.std.proofs.lemmas.Bool.{cases_lt}
use Rattle.std.proofs.lemmas.Bool.Decides.{nat_tests}
use Rattle.std.proofs.Math.ListN.{get_or-append}
use Rattle.isa_table.specs.declared.claim.Claim.{Claim}
use Rattle.plug_api.specs.declared.spec.Plan.{Plan}
use Rattle.plug_api.specs.Spec.{IsOfTable, no_claim}
use Rattle.plug_api.specs.Calls.{IsLawful, IsShape, rows_by}
use Rattle.plug_kinds.specs.declared.kind.Kind.TheVariants as kind
use Rattle.plug_kinds.specs.Kinds.{spec_of}
use Rattle.part_alone.specs.Chosen.{Chosen}
use Rattle.part_alone.proofs.Alone.{same_row}

pub none_yet : Chosen [] [] 0
none_yet = record {
  each = refl;
  few = omega arith;
  in_table = λ k l. absurd (omega arith);
  below = λ k l. absurd (omega arith);
  rising = λ j k m l. absurd (omega arith);
  least = λ k l. absurd (omega arith);
  most = λ k l. absurd (omega arith);
}

-- a row is left out
pub skip : (rows : List Claim) (owners : List ℕ) (n : ℕ) → Chosen rows owners n → Chosen rows owners (n + 1)
skip rows owners n s = record {
  each = s.each;
  few = let l = s.few in omega arith;
  in_table = s.in_table;
  below = λ k l. let b = s.below k l in omega arith;
  rising = s.rising;
  least = s.least;
  most = s.most;
}

last : {A : Type 0} (xs : List A) (x d : A) → get_or (xs ++ x ∷ []) (length xs) d ≡ x
last [] x d = refl
last (y ∷ ys) x d = last ys x d

module _ {A : Type 0} (xs : List A) (x d : A) where
  -- an element of a list with one more at its end
  old-at : (k : ℕ) → k < length xs → get_or (xs ++ x ∷ []) k d ≡ get_or xs k d
  old-at k l = get_or-append xs (x ∷ []) d k l

  new-at : (k : ℕ) → k ≡ length xs → get_or (xs ++ x ∷ []) k d ≡ x
  new-at k e = ap (λ (j : ℕ). get_or (xs ++ x ∷ []) j d) e ∙ last xs x d

  either : (P : A → Type 0) → ((k : ℕ) → k < length xs → P (get_or xs k d)) → P x → (k : ℕ) → k < length (xs ++ x ∷ []) → P (get_or (xs ++ x ∷ []) k d)
  either P old new k l =
      let n : length (xs ++ x ∷ []) ≡ length xs + 1 = length-append xs (x ∷ []) in
      elim (cases_lt k (length xs)) [
        | inl there ↦ subst P (sym (old-at k there)) (old k there)
        | inr past ↦ subst P (sym (new-at k (omega arith))) new
      ]

module _ (rows : List Claim) (owners : List ℕ) (n : ℕ) (s : Chosen rows owners n) (c : Claim) (owner : ℕ) (of_table : IsOfTable c) (row : c.row ≡ n) (least : 1 ≤ owner) (most : owner ≤ 3) where
  rising-more : (j k : ℕ) → j < k → k < length (rows ++ c ∷ []) → (get_or (rows ++ c ∷ []) j no_claim).row < (get_or (rows ++ c ∷ []) k no_claim).row
  rising-more j k m l =
      let many : length (rows ++ c ∷ []) ≡ length rows + 1 = length-append rows (c ∷ []) in
      let j_there : j < length rows = omega arith in
      let j_is : (get_or (rows ++ c ∷ []) j no_claim).row ≡ (get_or rows j no_claim).row = ap (λ (d : Claim). d.row) (old-at rows c no_claim j j_there) in
      elim (cases_lt k (length rows)) [
        | inl there ↦
            let k_is : (get_or (rows ++ c ∷ []) k no_claim).row ≡ (get_or rows k no_claim).row = ap (λ (d : Claim). d.row) (old-at rows c no_claim k there) in
            let up = s.rising j k m there in
            omega arith
        | inr past ↦
            let k_is : (get_or (rows ++ c ∷ []) k no_claim).row ≡ c.row = ap (λ (d : Claim). d.row) (new-at rows c no_claim k (omega arith)) in
            let up = s.below j j_there in
            omega arith
      ]

  pub one_more : Chosen (rows ++ c ∷ []) (owners ++ owner ∷ []) (n + 1)
  one_more = record {
    each = length-append owners (owner ∷ []) ∙ ap (λ m. m + 1) s.each ∙ sym (length-append rows (c ∷ []));
    few = let many : length (rows ++ c ∷ []) ≡ length rows + 1 = length-append rows (c ∷ []) in let l = s.few in omega arith;
    in_table = either rows c no_claim IsOfTable s.in_table of_table;
    below = either rows c no_claim (λ (d : Claim). d.row < n + 1) (λ k l. let b = s.below k l in omega arith) (omega arith);
    rising = rising-more;
    least = either owners owner 0 (λ o. 1 ≤ o) s.least least;
    most = either owners owner 0 (λ o. o ≤ 3) s.most most;
  }

-- none is of entry 0
none-by : (rows : List Claim) (owners : List ℕ) → ((k : ℕ) → k < length owners → 1 ≤ get_or owners k 0) → rows_by 0 rows owners ≡ []
none-by [] owners h = refl
none-by (c ∷ cs) [] h = refl
none-by (c ∷ cs) (o ∷ os) h =
    let l : 1 ≤ o = h 0 (omega arith) in
    let other : eqb o 0 ≡ false = grind (arith, nat_tests) in
    ap (λ b. cond b (c ∷ rows_by 0 cs os) (rows_by 0 cs os)) other ∙ none-by cs os (λ k l. h (suc k) (omega (arith, l)))

pub lawful_rows : (plan : Plan) (n : ℕ) → Chosen plan.rows plan.owners n → IsShape plan.shape → length plan.picks ≡ 4 → IsLawful (spec_of kind.Decoder []) plan 0
lawful_rows plan n s shape picks = record {
  shape = shape;
  few = omega arith;
  there = omega arith;
  each = sym s.each;
  owned = λ k l. let most = s.most k l in omega arith;
  in_table = s.in_table;
  rows_differ = λ j k l m same. let up = s.rising j k l m in omega arith;
  apart = λ j k l m both.
      let up = s.rising j k l m in
      let same = same_row _ _ (s.in_table j (omega arith)) (s.in_table k m) both in
      omega arith;
  own = none-by plan.rows plan.owners s.least;
}
