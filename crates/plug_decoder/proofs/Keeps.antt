-- The decoder keeps the law of Decoder: what it says of a word is what the table says of the word's row.
use Rattle.std.proofs.Common.{◌≡◌, ◌∙◌, ℕ, zero, suc, ◌^◌, ◌<◌, Bool, true, false, not, eqb, ◌&&◌, ◌||◌, List, [], ◌∷◌, length, get_or, bit_and, Option, Some, None, refl, sym, ap, subst, arith}
use Rattle.std.specs.Prelude.{option_map}
use Rattle.std.specs.List.{list_any}
use Rattle.std.proofs.lemmas.Bool.{both_ways, eqb-true, eq-eqb}
use Rattle.std.proofs.lemmas.Nat.{and_mask}
use Rattle.std.proofs.Math.Nat.{mod-eq_of_lt}
use Rattle.core_words.specs.Values.{one_if, not_of, bits_of}
use Rattle.isa_table.specs.declared.claim.Claim.{Claim}
use Rattle.isa_table.specs.Rows.{TableRow, table, meets, lui, row_among}
use Rattle.isa_table.specs.Rows as rows
use Rattle.isa_table.proofs.Disjoint.{one_row}
use Rattle.isa_table.proofs.Numbers.{number_at}
use Rattle.isa_model.specs.Machine.{Set, has_row}
use Rattle.plug_law.specs.Table.{row_numbered, table_of, number_of}
use Rattle.plug_law.specs.Decode.{Decodes, is_call}
use Rattle.plug_law.proofs.Rows.{row_is, is_met, is_taken}
use Rattle.plug_decoder.specs.Machine.{claim_at, legal_of, row_of, unit_of, flag_of, writes_of, uses_a, uses_b, has_value}
use Rattle.plug_decoder.specs.Law.{IsOf, HasCallRows, IsDecoded, AreClaims, DecoderKeepsLaw}
use Rattle.plug_decoder.proofs.Decodes.{decodes}

back : (b : Bool) → eqb (one_if b) 1 ≡ b
back true = refl
back false = refl

-- ---- rows of the table

-- where no row is found, no row that is taken is met
none_found : (taken : ℕ → Bool) (list : List TableRow) (word : ℕ) → row_among taken list word ≡ None
    → (k : ℕ) → k < length list → taken (get_or list k lui).number ≡ true → meets word (get_or list k lui) ≡ true → ⊥
none_found taken [] word e k l t m = absurd (omega arith)
none_found taken (r ∷ rest) word e k l t m = by (none_found taken rest word) (taken r.number && meets word r) refl e k l t m
  where
    not_none : (o : TableRow) → ◌≡◌ {A = Option TableRow} (Some o) None → ⊥
    not_none o h = cc

    by : (row_among taken rest word ≡ None → (k : ℕ) → k < length rest → taken (get_or rest k lui).number ≡ true → meets word (get_or rest k lui) ≡ true → ⊥)
        → (b : Bool) → (taken r.number && meets word r) ≡ b → ◌≡◌ {A = Option TableRow} (elim b [ true ↦ Some r | false ↦ row_among taken rest word ]) None
        → (k : ℕ) → k < length (r ∷ rest) → taken (get_or (r ∷ rest) k lui).number ≡ true → meets word (get_or (r ∷ rest) k lui) ≡ true → ⊥
    by later true h e k l t m = not_none r e
    by later false h e zero l t m = both_ways (taken r.number && meets word r) h (λ i. t i && m i)
    by later false h e (suc k) l t m = later e k (omega arith) t m

module _ (claims : List Claim) (owners : List ℕ) (set : Set) (owner : ℕ → ℕ) (are : AreClaims claims) (claims_is : (number : ℕ) → set.claims number ≡ list_any (λ c. eqb c.row number) claims)
    (owner_is : (k : ℕ) → k < length claims → owner (claim_at claims k).row ≡ get_or owners k 0) where
  -- a word of a claim is one of its row
  met : (word k : ℕ) → k < length claims → IsOf word (claim_at claims k) → meets word (row_numbered (claim_at claims k).row) ≡ true
  met word k l is = eq-eqb _ _ (ap (bit_and word) (sym (are.mask k l)) ∙ (is ∙ are.value k l))

  of_row : (word k : ℕ) → k < length claims → meets word (row_numbered (claim_at claims k).row) ≡ true → IsOf word (claim_at claims k)
  of_row word k l m = ap (bit_and word) (are.mask k l) ∙ (eqb-true _ _ m ∙ sym (are.value k l))

  -- a claim that has ECALL or EBREAK is of its row
  same_row : (word number k : ℕ) → number < 57 → k < length claims → meets word (row_numbered number) ≡ true → IsOf word (claim_at claims k) → number ≡ (claim_at claims k).row
  same_row word number k below l m is = one_row word number (claim_at claims k).row below (are.below k l) m (met word k l is)

  call_rows : HasCallRows claims
  call_rows word k l is = (
    λ e. sym (same_row word 38 k (omega arith) l (ap (λ w. meets w (row_numbered 38)) e) is),
    λ e. sym (same_row word 39 k (omega arith) l (ap (λ w. meets w (row_numbered 39)) e) is),
  )

  -- the claim of a row that the set has
  place_of : (list : List Claim) (number : ℕ) → list_any (λ c. eqb c.row number) list ≡ true → (k : ℕ) × (k < length list) × ((claim_at list k).row ≡ number)
  place_of [] number h = absurd (both_ways false refl h)
  place_of (c ∷ rest) number h = by (place_of rest number) (eqb c.row number) refl h
    where
      by : (list_any (λ x. eqb x.row number) rest ≡ true → (k : ℕ) × (k < length rest) × ((claim_at rest k).row ≡ number))
          → (b : Bool) → eqb c.row number ≡ b → (b || list_any (λ x. eqb x.row number) rest) ≡ true → (k : ℕ) × (k < length (c ∷ rest)) × ((claim_at (c ∷ rest) k).row ≡ number)
      by later true e g = (0, omega arith, eqb-true c.row number e)
      by later false e g = let w = later g in let l : w.0 < length rest = w.1 in (suc w.0, omega arith, w.2)

  claimed : (list : List Claim) (k : ℕ) → k < length list → list_any (λ c. eqb c.row (claim_at list k).row) list ≡ true
  claimed [] k l = absurd (omega arith)
  claimed (c ∷ rest) zero l = ap (λ b. b || list_any (λ x. eqb x.row c.row) rest) (eq-eqb c.row c.row refl)
  claimed (c ∷ rest) (suc k) l = or_true (eqb c.row (claim_at rest k).row) _ (claimed rest k (omega arith))
    where
      or_true : (a b : Bool) → b ≡ true → (a || b) ≡ true
      or_true true b h = refl
      or_true false b h = h

  set_has : (k : ℕ) → k < length claims → has_row set (claim_at claims k).row ≡ true
  set_has k l = ap (λ b. b || is_call (claim_at claims k).row) (claims_is (claim_at claims k).row ∙ claimed claims k l)

  -- ---- one word

  module _ (word : ℕ) (fits : word < 2 ^ 32) where
    decoded : IsDecoded claims owners word
    decoded = decodes claims owners are.none_overlap call_rows word fits

    whole : bit_and word 0xffffffff ≡ word
    whole = and_mask word 32 ∙ mod-eq_of_lt fits

    -- what the numbers say of the word's row
    record Told (number : ℕ) : Type 0 where
      legal : legal_of claims word ≡ 1
      row : row_of claims word ≡ number
      unit : is_call number ≡ false → unit_of claims owners word ≡ owner number
      flags : (is : ℕ → Bool) → flag_of is claims word ≡ one_if (is number)

    told_claim : (k number : ℕ) → k < length claims → (claim_at claims k).row ≡ number → meets word (row_numbered number) ≡ true → Told number
    told_claim k number l e m =
        let t = decoded.of_claim k l (of_row word k l (subst (λ n. meets word (row_numbered n) ≡ true) (sym e) m)) in
        record {
          legal = t.0;
          row = t.1 ∙ e;
          unit = λ c. t.2 ∙ (sym (owner_is k l) ∙ ap owner e);
          flags = λ is. t.3 is ∙ ap (λ n. one_if (is n)) e;
        }

    told_ecall : meets word (row_numbered 38) ≡ true → Told 38
    told_ecall m =
        let t = decoded.of_ecall (sym whole ∙ eqb-true _ _ m) in
        record { legal = t.0; row = t.1; unit = λ c. absurd (both_ways (is_call 38) c refl); flags = t.2 }

    told_ebreak : meets word (row_numbered 39) ≡ true → Told 39
    told_ebreak m =
        let t = decoded.of_ebreak (sym whole ∙ eqb-true _ _ m) in
        record { legal = t.0; row = t.1; unit = λ c. absurd (both_ways (is_call 39) c refl); flags = t.2 }

    told : (number : ℕ) → has_row set number ≡ true → meets word (row_numbered number) ≡ true → Told number
    told number h m = by (set.claims number) (eqb number 38) (eqb number 39) refl refl refl h
      where
        of_claims : set.claims number ≡ true → Told number
        of_claims e = let w = place_of claims number (sym (claims_is number) ∙ e) in told_claim w.0 number w.1 w.2 m

        by : (a b c : Bool) → set.claims number ≡ a → eqb number 38 ≡ b → eqb number 39 ≡ c → (a || (b || c)) ≡ true → Told number
        by true b c e f g h = of_claims e
        by false true c e f g h = let n : number ≡ 38 = eqb-true number 38 f in subst Told (sym n) (told_ecall (subst (λ k. meets word (row_numbered k) ≡ true) n m))
        by false false true e f g h = let n : number ≡ 39 = eqb-true number 39 g in subst Told (sym n) (told_ebreak (subst (λ k. meets word (row_numbered k) ≡ true) n m))
        by false false false e f g h = absurd (both_ways false refl h)

    -- no row is found: the word is of no claim, and neither ECALL nor EBREAK
    illegal : rows.row_of (has_row set) word ≡ None → legal_of claims word ≡ 0
    illegal e = decoded.of_none of_claim (λ w. call 38 refl (has_call 38 refl) (omega arith) (eq-eqb _ _ (whole ∙ w))) (λ w. call 39 refl (has_call 39 refl) (omega arith) (eq-eqb _ _ (whole ∙ w)))
      where
        has_call : (number : ℕ) → is_call number ≡ true → has_row set number ≡ true
        has_call number h = or_true (set.claims number) (is_call number) h
          where
            or_true : (a b : Bool) → b ≡ true → (a || b) ≡ true
            or_true true b h = refl
            or_true false b h = h

        call : (number : ℕ) → (get_or table number lui).number ≡ number → has_row set number ≡ true → number < 57 → meets word (row_numbered number) ≡ true → ⊥
        call number n h l m = none_found (has_row set) table word e number l (ap (has_row set) n ∙ h) m

        of_claim : (k : ℕ) → k < length claims → IsOf word (claim_at claims k) → ⊥
        of_claim k l is =
            none_found (has_row set) table word e (claim_at claims k).row (are.below k l)
            (ap (has_row set) (number_at (claim_at claims k).row (are.below k l)) ∙ set_has k l) (met word k l is)

    module _ (legal : Bool) (row unit : ℕ) (a b writes : Bool) (legal_is : legal ≡ eqb (legal_of claims word) 1) (row_is' : row ≡ row_of claims word) (unit_is : unit ≡ unit_of claims owners word)
        (a_is : a ≡ eqb (flag_of uses_a claims word) 1) (b_is : b ≡ eqb (flag_of uses_b claims word) 1) (writes_is : writes ≡ eqb (writes_of word (flag_of has_value claims word)) 1) where
      writes_bit : (v z : Bool) → eqb (bit_and (one_if v) (not_of 1 (one_if z))) 1 ≡ (v && not z)
      writes_bit true true = refl
      writes_bit true false = refl
      writes_bit false true = refl
      writes_bit false false = refl

      says : (number : ℕ) → Told number → Decodes (table_of set) owner (Some number) word legal row unit a b writes
      unfolding table_of writes_of
      says number t = (
        legal_is ∙ ap (λ n. eqb n 1) t.legal,
        row_is' ∙ t.row,
        λ c. unit_is ∙ t.unit c,
        a_is ∙ (ap (λ n. eqb n 1) (t.flags uses_a) ∙ back (uses_a number)),
        b_is ∙ (ap (λ n. eqb n 1) (t.flags uses_b) ∙ back (uses_b number)),
        writes_is ∙ ((λ i. eqb (bit_and (t.flags has_value i) (not_of 1 (one_if (eqb (bits_of word 11 7) 0)))) 1) ∙ writes_bit (has_value number) (eqb (bits_of word 11 7) 0)),
      )

      keeps : Decodes (table_of set) owner ((table_of set).row_of word) word legal row unit a b writes
      unfolding table_of
      keeps = by (rows.row_of (has_row set) word) refl
        where
          by : (o : Option TableRow) → rows.row_of (has_row set) word ≡ o → Decodes (table_of set) owner (option_map number_of o) word legal row unit a b writes
          by None e = legal_is ∙ ap (λ n. eqb n 1) (illegal e)
          by (Some r) e = says r.number (told r.number (is_taken (has_row set) word r e) (ap (meets word) (row_is (has_row set) word r e) ∙ is_met (has_row set) word r e))

pub keeps_law : DecoderKeepsLaw
keeps_law claims owners set owner d are claims_is owner_is is s =
    keeps claims owners set owner are claims_is owner_is (d.word (suc s)) (is.word_fits s)
    (d.legal (suc s)) (d.row (suc s)) (d.unit (suc s)) (d.uses_a (suc s)) (d.uses_b (suc s)) (d.writes (suc s))
    (is.legal s) (is.row s) (is.unit s) (is.uses_a s) (is.uses_b s) (is.writes s)
