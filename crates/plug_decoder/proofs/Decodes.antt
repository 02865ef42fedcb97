-- The decoder's law.
use Rattle.std.proofs.Common.{◌≡◌, ◌∙◌, ℕ, ◌^◌, ◌<◌, bit_and, Bool, bit_or, List, length, get_or, arith, ap, sym, inl, inr}
use Rattle.std.specs.Int.Bits.{or_zero_r}
use Rattle.std.proofs.lemmas.Bool.{cases_eq}
use Rattle.std.proofs.lemmas.Nat.{and_mask}
use Rattle.std.proofs.Math.Nat.{mod-eq_of_lt}
use Rattle.core_words.specs.Values.{one_if}
use Rattle.isa_table.specs.declared.claim.Claim.{Claim}
use Rattle.hw_words.specs.Gather.{or_from}
use Rattle.plug_decoder.specs.Machine.{claim_at, hit_of, ecall, ebreak, of_calls, legal_of, row_of, unit_of, flag_of}
use Rattle.plug_decoder.specs.Law.{IsOf, NoneOverlap, HasCallRows, IsDecoded}
use Rattle.plug_decoder.proofs.Gathers.{Gathers, hits, misses, masked_hit, masked_miss, masked_is, masked_zero, hit_is, gathers, or_same}

module _ (rows : List Claim) (owners : List ℕ) (apart : NoneOverlap rows) (calls : HasCallRows rows) (word : ℕ) (fits : word < 2 ^ 32) where
  kept : bit_and word 0xffffffff ≡ word
  kept = and_mask word 32 ∙ mod-eq_of_lt fits

  is_ecall : word ≡ 0x73 → IsOf word ecall
  is_ecall h = kept ∙ h

  is_ebreak : word ≡ 0x100073 → IsOf word ebreak
  is_ebreak h = kept ∙ h

  no_ecall : (word ≡ 0x73 → ⊥) → IsOf word ecall → ⊥
  no_ecall h is = h (sym kept ∙ is)

  no_ebreak : (word ≡ 0x100073 → ⊥) → IsOf word ebreak → ⊥
  no_ebreak h is = h (sym kept ∙ is)

  -- the numbers of the two calls
  calls_none : (word ≡ 0x73 → ⊥) → (word ≡ 0x100073 → ⊥) → (x y : ℕ) → of_calls word x y ≡ 0
  calls_none h k x y = (λ i. bit_or (masked_miss word ecall x (no_ecall h) i) (masked_miss word ebreak y (no_ebreak k) i))

  calls_first : word ≡ 0x73 → (x y : ℕ) → of_calls word x y ≡ x
  calls_first h x y = (λ i. bit_or (masked_hit word ecall x (is_ecall h) i) (masked_miss word ebreak y (no_ebreak (λ k. omega arith)) i)) ∙ or_zero_r x

  calls_second : word ≡ 0x100073 → (x y : ℕ) → of_calls word x y ≡ y
  calls_second h x y = (λ i. bit_or (masked_miss word ecall x (no_ecall (λ k. omega arith)) i) (masked_hit word ebreak y (is_ebreak h) i))

  hits_none : (word ≡ 0x73 → ⊥) → (word ≡ 0x100073 → ⊥) → bit_or (hit_of word ecall) (hit_of word ebreak) ≡ 0
  hits_none h k = (λ i. bit_or (misses word ecall (no_ecall h) i) (misses word ebreak (no_ebreak k) i))

  hits_first : word ≡ 0x73 → bit_or (hit_of word ecall) (hit_of word ebreak) ≡ 1
  hits_first h = (λ i. bit_or (hits word ecall (is_ecall h) i) (misses word ebreak (no_ebreak (λ k. omega arith)) i))

  hits_second : word ≡ 0x100073 → bit_or (hit_of word ecall) (hit_of word ebreak) ≡ 1
  hits_second h = (λ i. bit_or (misses word ecall (no_ecall (λ k. omega arith)) i) (hits word ebreak (is_ebreak h) i))

  all : Gathers rows word
  all = gathers rows apart word fits

  base_is : (x y : ℕ) (g : ℕ → ℕ) → x ≡ y → or_from x g (length rows) ≡ or_from y g (length rows)
  base_is x y g e = ap (λ (n : ℕ). or_from n g (length rows)) e

  -- a word of one of the two: each claim gives nothing or the same
  record Says (number : ℕ) : Type 0 where
    legal : legal_of rows word ≡ 1
    row : row_of rows word ≡ number
    flags : (is : ℕ → Bool) → flag_of is rows word ≡ one_if (is number)

  says : (number : ℕ) → bit_or (hit_of word ecall) (hit_of word ebreak) ≡ 1 → of_calls word 38 39 ≡ number
      → ((is : ℕ → Bool) → of_calls word (one_if (is 38)) (one_if (is 39)) ≡ one_if (is number))
      → ((j : ℕ) → j < length rows → IsOf word (claim_at rows j) → (claim_at rows j).row ≡ number) → Says number
  unfolding legal_of row_of flag_of
  says number one row flags same = record {
    legal = base_is _ 1 _ one ∙ or_same 1 _ (length rows) (λ k l. hit_is word (claim_at rows k));
    row = base_is _ number _ row ∙ or_same number _ (length rows) (λ k l. masked_is word (claim_at rows k) _ number (same k l));
    flags = λ is. base_is _ (one_if (is number)) _ (flags is)
        ∙ or_same (one_if (is number)) _ (length rows) (λ k l. masked_is word (claim_at rows k) _ (one_if (is number)) (λ h. ap (λ n. one_if (is n)) (same k l h)));
  }

  says_ecall : word ≡ 0x73 → Says 38
  says_ecall h = says 38 (hits_first h) (calls_first h 38 39) (λ is. calls_first h (one_if (is 38)) (one_if (is 39))) (λ j l of. (calls word j l of).0 h)

  says_ebreak : word ≡ 0x100073 → Says 39
  says_ebreak h = says 39 (hits_second h) (calls_second h 38 39) (λ is. calls_second h (one_if (is 38)) (one_if (is 39))) (λ j l of. (calls word j l of).1 h)

  -- a word of a claim
  abbrev IsTold : (j : ℕ) → Type 0
  IsTold j = (legal_of rows word ≡ 1) × (row_of rows word ≡ (claim_at rows j).row) × (unit_of rows owners word ≡ get_or owners j 0)
      × ((is : ℕ → Bool) → flag_of is rows word ≡ one_if (is (claim_at rows j).row))

  no_units : of_calls word 0 0 ≡ 0
  no_units = (λ i. bit_or (masked_zero word ecall i) (masked_zero word ebreak i))

  unit_told : (j : ℕ) → j < length rows → IsOf word (claim_at rows j) → unit_of rows owners word ≡ get_or owners j 0
  unfolding unit_of
  unit_told j l is = base_is _ 0 _ no_units ∙ (all.0 j l is).1 (λ k. get_or owners k 0)

  told_call : (number j : ℕ) → j < length rows → IsOf word (claim_at rows j) → (claim_at rows j).row ≡ number → Says number → IsTold j
  told_call number j l is e t = (t.legal, t.row ∙ sym e, unit_told j l is, λ p. t.flags p ∙ ap (λ n. one_if (p n)) (sym e))

  told_other : (j : ℕ) → j < length rows → IsOf word (claim_at rows j) → (word ≡ 0x73 → ⊥) → (word ≡ 0x100073 → ⊥) → IsTold j
  unfolding legal_of row_of flag_of
  told_other j l is h k =
      let one = all.0 j l is in (
        base_is _ 0 _ (hits_none h k) ∙ one.0,
        base_is _ 0 _ (calls_none h k 38 39) ∙ one.1 (λ i. (claim_at rows i).row),
        unit_told j l is,
        λ p. base_is _ 0 _ (calls_none h k (one_if (p 38)) (one_if (p 39))) ∙ one.1 (λ i. one_if (p (claim_at rows i).row)),
      )

  told_claim : (j : ℕ) → j < length rows → IsOf word (claim_at rows j) → IsTold j
  told_claim j l is = elim (cases_eq word 0x73) [
    | inl e ↦ told_call 38 j l is ((calls word j l is).0 e) (says_ecall e)
    | inr h ↦ elim (cases_eq word 0x100073) [
      | inl e ↦ told_call 39 j l is ((calls word j l is).1 e) (says_ebreak e)
      | inr k ↦ told_other j l is h k
    ]
  ]

  legal_none : ((j : ℕ) → j < length rows → IsOf word (claim_at rows j) → ⊥) → (word ≡ 0x73 → ⊥) → (word ≡ 0x100073 → ⊥) → legal_of rows word ≡ 0
  unfolding legal_of
  legal_none none h k = (all.1 none _).0 ∙ hits_none h k

  pub decodes : IsDecoded rows owners word
  decodes = record {
    of_claim = told_claim;
    of_ecall = λ h. let t = says_ecall h in (t.legal, t.row, t.flags);
    of_ebreak = λ h. let t = says_ebreak h in (t.legal, t.row, t.flags);
    of_none = legal_none;
  }
