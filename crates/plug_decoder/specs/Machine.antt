-- The decoder in equations over numbers: each claim is compared with the word, and what is asked of the word's row is the "or" of
-- the numbers of all claims, each of which is 0 where the word is not of it.
use Rattle.std.specs.Prelude.{ℕ, Bool, eqb, List, get_or, length, bit_and, bit_or}
use Rattle.core_words.specs.Values.{one_if, choose, not_of, bits_of}
use Rattle.isa_table.specs.declared.claim.Claim.{Claim}
use Rattle.plug_law.specs.Table.{row_numbered}
use Rattle.hw_words.specs.Gather.{or_from}

abbrev pub claim_at : List Claim → ℕ → Claim
claim_at rows k = get_or rows k (record { mask = 0; value = 0; row = 0 })

-- 1 where a word is of a claim
unfoldable pub hit_of : (word : ℕ) → Claim → ℕ
hit_of word claim = one_if (eqb (bit_and word claim.mask) claim.value)

-- a number where a word is of a claim, else 0
abbrev pub masked : (word : ℕ) → Claim → ℕ → ℕ
masked word claim number = choose (hit_of word claim) number 0

-- what the table says of a row of this number
abbrev pub uses_a : (row : ℕ) → Bool
uses_a row = (row_numbered row).uses_a

abbrev pub uses_b : (row : ℕ) → Bool
uses_b row = (row_numbered row).uses_b

abbrev pub has_value : (row : ℕ) → Bool
has_value row = (row_numbered row).has_value

-- ECALL and EBREAK, which the core has in each set
abbrev pub ecall : Claim
ecall = record { mask = 0xffffffff; value = 0x73; row = 38 }

abbrev pub ebreak : Claim
ebreak = record { mask = 0xffffffff; value = 0x100073; row = 39 }

-- a number for each of the two
abbrev pub of_calls : (word first second : ℕ) → ℕ
of_calls word first second = bit_or (masked word ecall first) (masked word ebreak second)

-- 1 where the word has a row
unfoldable pub legal_of : (rows : List Claim) (word : ℕ) → ℕ
legal_of rows word = or_from (bit_or (hit_of word ecall) (hit_of word ebreak)) (λ k. hit_of word (claim_at rows k)) (length rows)

-- the number of its row
unfoldable pub row_of : (rows : List Claim) (word : ℕ) → ℕ
row_of rows word = or_from (of_calls word 38 39) (λ k. masked word (claim_at rows k) (claim_at rows k).row) (length rows)

-- 1 where the row has a property
unfoldable pub flag_of : (is : ℕ → Bool) (rows : List Claim) (word : ℕ) → ℕ
flag_of is rows word = or_from (of_calls word (one_if (is 38)) (one_if (is 39))) (λ k. masked word (claim_at rows k) (one_if (is (claim_at rows k).row))) (length rows)

-- the entry that claims the row
unfoldable pub unit_of : (rows : List Claim) (owners : List ℕ) (word : ℕ) → ℕ
unit_of rows owners word = or_from (of_calls word 0 0) (λ k. masked word (claim_at rows k) (get_or owners k 0)) (length rows)

-- 1 where the row has a value and rd is not register 0
unfoldable pub writes_of : (word has_value : ℕ) → ℕ
writes_of word has_value = bit_and has_value (not_of 1 (one_if (eqb (bits_of word 11 7) 0)))
