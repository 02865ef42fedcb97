-- The law of the decoder: of claims that no word shares, the one of the word is told, and none where it is of none.
use Rattle.std.specs.Prelude.{◌≡◌, ℕ, suc, ◌<◌, ◌^◌, Bool, eqb, List, length, get_or, bit_and}
use Rattle.std.specs.List.{list_any}
use Rattle.core_words.specs.Values.{one_if}
use Rattle.isa_table.specs.declared.claim.Claim.{Claim}
use Rattle.isa_model.specs.Machine.{Set}
use Rattle.plug_law.specs.Table.{row_numbered, table_of}
use Rattle.plug_law.specs.Decode.{DecodeSignals, DecodeLaw}
use Rattle.plug_decoder.specs.Machine.{claim_at, legal_of, row_of, unit_of, flag_of, writes_of, uses_a, uses_b, has_value}

abbrev pub IsOf : (word : ℕ) → Claim → Type 0
IsOf word claim = bit_and word claim.mask ≡ claim.value

-- no word is of two claims
abbrev pub NoneOverlap : List Claim → Type 0
NoneOverlap rows = (i j : ℕ) → i < length rows → j < length rows → (i ≡ j → ⊥)
    → ((w : ℕ) × (w < 2 ^ 32) × IsOf w (claim_at rows i) × IsOf w (claim_at rows j)) → ⊥

-- a claim that has ECALL or EBREAK is of its row
abbrev pub HasCallRows : List Claim → Type 0
HasCallRows rows = (word j : ℕ) → j < length rows → IsOf word (claim_at rows j) → (word ≡ 0x73 → (claim_at rows j).row ≡ 38) × (word ≡ 0x100073 → (claim_at rows j).row ≡ 39)

-- what the decoder says of a word; is: any property of rows
pub record IsDecoded (rows : List Claim) (owners : List ℕ) (word : ℕ) : Type 0 where
  pub of_claim : (j : ℕ) → j < length rows → IsOf word (claim_at rows j)
      → (legal_of rows word ≡ 1) × (row_of rows word ≡ (claim_at rows j).row) × (unit_of rows owners word ≡ get_or owners j 0)
      × ((is : ℕ → Bool) → flag_of is rows word ≡ one_if (is (claim_at rows j).row))
  pub of_ecall : word ≡ 0x73 → (legal_of rows word ≡ 1) × (row_of rows word ≡ 38) × ((is : ℕ → Bool) → flag_of is rows word ≡ one_if (is 38))
  pub of_ebreak : word ≡ 0x100073 → (legal_of rows word ≡ 1) × (row_of rows word ≡ 39) × ((is : ℕ → Bool) → flag_of is rows word ≡ one_if (is 39))
  pub of_none : ((j : ℕ) → j < length rows → IsOf word (claim_at rows j) → ⊥) → (word ≡ 0x73 → ⊥) → (word ≡ 0x100073 → ⊥) → legal_of rows word ≡ 0

-- the claims of a plan are of the table, and no word is of two
pub record AreClaims (rows : List Claim) : Type 0 where
  pub below : (k : ℕ) → k < length rows → (claim_at rows k).row < 57
  pub mask : (k : ℕ) → k < length rows → (claim_at rows k).mask ≡ (row_numbered (claim_at rows k).row).mask
  pub value : (k : ℕ) → k < length rows → (claim_at rows k).value ≡ (row_numbered (claim_at rows k).row).value
  pub none_overlap : NoneOverlap rows

-- the outputs of each cycle are the equations at its word
pub record IsDecoder (rows : List Claim) (owners : List ℕ) (d : DecodeSignals) : Type 0 where
  pub word_fits : (s : ℕ) → d.word (suc s) < 2 ^ 32
  pub legal : (s : ℕ) → d.legal (suc s) ≡ eqb (legal_of rows (d.word (suc s))) 1
  pub row : (s : ℕ) → d.row (suc s) ≡ row_of rows (d.word (suc s))
  pub unit : (s : ℕ) → d.unit (suc s) ≡ unit_of rows owners (d.word (suc s))
  pub uses_a : (s : ℕ) → d.uses_a (suc s) ≡ eqb (flag_of uses_a rows (d.word (suc s))) 1
  pub uses_b : (s : ℕ) → d.uses_b (suc s) ≡ eqb (flag_of uses_b rows (d.word (suc s))) 1
  pub writes : (s : ℕ) → d.writes (suc s) ≡ eqb (writes_of (d.word (suc s)) (flag_of has_value rows (d.word (suc s)))) 1

-- for the set of these claims, and an owner of each
abbrev pub DecoderKeepsLaw : Type 0
DecoderKeepsLaw =
    (rows : List Claim) (owners : List ℕ) (set : Set) (owner : ℕ → ℕ) (d : DecodeSignals)
    → AreClaims rows
    → ((number : ℕ) → set.claims number ≡ list_any (λ c. eqb c.row number) rows)
    → ((k : ℕ) → k < length rows → owner (claim_at rows k).row ≡ get_or owners k 0)
    → IsDecoder rows owners d → DecodeLaw (table_of set) owner d
