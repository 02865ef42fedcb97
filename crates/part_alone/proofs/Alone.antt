-- Plans in which one entry has all claims.
use Rattle.std.proofs.lemmas.Bool.{eq-eqb}
use Rattle.std.proofs.Common.{bit_and, ◌≡◌, ◌∙◌, ℕ, zero, suc, ◌<◌, ◌≤◌, List, [], ◌∷◌, length, get_or, replicate, refl, ap, sym, arith, subst, eqb, true, false, cond}
use Rattle.isa_table.specs.declared.claim.Claim.{Claim}
use Rattle.isa_table.proofs.Disjoint.{one_row}
use Rattle.plug_api.specs.declared.spec.Plan.{Plan}
use Rattle.plug_api.specs.declared.spec.PlugSpec.{PlugSpec}
use Rattle.plug_api.specs.Spec.{IsSpec, IsOfTable, no_claim}
use Rattle.plug_api.specs.Rules.{Overlap}
use Rattle.plug_api.specs.Calls.{IsLawful, IsShape, rows_by}

-- the claims of an entry, where each is of an entry e
module _ (own : ℕ) (e : ℕ) where
  all_own : eqb e own ≡ true → (rows : List Claim) → rows_by own rows (replicate {A = ℕ} (length rows) e) ≡ rows
  all_own same [] = refl
  all_own same (c ∷ cs) = ap (λ b. cond b (c ∷ rows_by own cs (replicate {A = ℕ} (length cs) e)) (rows_by own cs (replicate {A = ℕ} (length cs) e))) same ∙ ap (λ rest. c ∷ rest) (all_own same cs)

  none_own : eqb e own ≡ false → (rows : List Claim) → rows_by own rows (replicate {A = ℕ} (length rows) e) ≡ []
  none_own other [] = refl
  none_own other (c ∷ cs) = ap (λ b. cond b (c ∷ rows_by own cs (replicate {A = ℕ} (length cs) e)) (rows_by own cs (replicate {A = ℕ} (length cs) e))) other ∙ none_own other cs

at_most : (e n k : ℕ) → get_or (replicate {A = ℕ} n e) k 0 ≤ e
at_most e zero k = omega arith
at_most e (suc n) zero = omega arith
at_most e (suc n) (suc k) = at_most e n k

replicated : (e n : ℕ) → length (replicate {A = ℕ} n e) ≡ n
replicated e zero = refl
replicated e (suc n) = ap suc (replicated e n)

-- a word of two claims of the table is of one row
pub same_row : (a b : Claim) → IsOfTable a → IsOfTable b → Overlap a b → a.row ≡ b.row
same_row a b of_a of_b o =
    one_row o.0 a.row b.row of_a.known of_b.known
    (eq-eqb _ _ (ap (λ (m : ℕ). bit_and o.0 m) (sym of_a.mask) ∙ o.2 ∙ of_a.value)) (eq-eqb _ _ (ap (λ (m : ℕ). bit_and o.0 m) (sym of_b.mask) ∙ o.3 ∙ of_b.value))

-- a plan of some entries, of which e has these claims
module _ (claims : List Claim) (plan : Plan) (e : ℕ) (rows : plan.rows ≡ claims) (owners : plan.owners ≡ replicate {A = ℕ} (length claims) e) (shape : IsShape plan.shape)
    (some : e < length plan.picks) (few : length plan.picks ≤ 32) (in_table : (k : ℕ) → k < length claims → IsOfTable (get_or claims k no_claim))
    (differ : (j k : ℕ) → j < k → k < length claims → (get_or claims j no_claim).row ≡ (get_or claims k no_claim).row → ⊥) where
  -- it is lawful for an entry whose claims are so
  pub lawful_by : (spec : PlugSpec) (own : ℕ) → own < length plan.picks → rows_by own claims (replicate {A = ℕ} (length claims) e) ≡ spec.rows → IsLawful spec plan own
  lawful_by spec own there is =
      let many : length plan.rows ≡ length claims = ap length rows in
      let each : length plan.owners ≡ length claims = ap length owners ∙ replicated e (length claims) in
      record {
        shape = shape;
        few = few;
        there = there;
        each = many ∙ sym each;
        owned = λ k l. let m : get_or plan.owners k 0 ≤ e = subst (λ (os : List ℕ). get_or os k 0 ≤ e) (sym owners) (at_most e (length claims) k) in omega arith;
        in_table = λ k l. subst (λ (cs : List Claim). k < length cs → IsOfTable (get_or cs k no_claim)) (sym rows) (in_table k) l;
        rows_differ = λ j k l there. subst (λ (cs : List Claim). k < length cs → (get_or cs j no_claim).row ≡ (get_or cs k no_claim).row → ⊥) (sym rows) (differ j k l) there;
        apart = λ j k l there. subst (λ (cs : List Claim). k < length cs → Overlap (get_or cs j no_claim) (get_or cs k no_claim) → ⊥) (sym rows)
            (λ below both. differ j k l below (same_row _ _ (in_table j (omega arith)) (in_table k below) both)) there;
        own = (λ i. rows_by own (rows i) (owners i)) ∙ is;
      }

-- of one entry
pub alone : (spec : PlugSpec) (plan : Plan) → IsSpec spec → plan.rows ≡ spec.rows → plan.owners ≡ replicate {A = ℕ} (length spec.rows) 0 → IsShape plan.shape → length plan.picks ≡ 1
    → IsLawful spec plan 0
alone spec plan is rows owners shape picks =
    lawful_by spec.rows plan 0 rows owners shape (omega arith) (omega arith) is.in_table is.rows_differ spec 0 (omega arith) (all_own 0 0 refl spec.rows)

-- of two entries, of which the second claims
module _ (spec : PlugSpec) (plan : Plan) (is : IsSpec spec) (rows : plan.rows ≡ spec.rows) (owners : plan.owners ≡ replicate {A = ℕ} (length spec.rows) 1) (shape : IsShape plan.shape)
    (picks : length plan.picks ≡ 2) where
  pub second_lawful : IsLawful spec plan 1
  second_lawful = lawful_by spec.rows plan 1 rows owners shape (omega arith) (omega arith) is.in_table is.rows_differ spec 1 (omega arith) (all_own 1 1 refl spec.rows)

  pub first_lawful : (first : PlugSpec) → first.rows ≡ [] → IsLawful first plan 0
  first_lawful first none =
      lawful_by spec.rows plan 1 rows owners shape (omega arith) (omega arith) is.in_table is.rows_differ first 0 (omega arith) (none_own 0 1 refl spec.rows ∙ sym none)
