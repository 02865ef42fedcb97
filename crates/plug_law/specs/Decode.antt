-- The law of Decoder: for each word the row of the table and what the pipeline needs of it, in the same cycle.
use Rattle.std.specs.Prelude.{◌≡◌, ℕ, suc, Bool, true, false, not, eqb, ◌&&◌, ◌||◌, Option, Some, None}
use Rattle.core_words.specs.Fields.{rd_of}
use Rattle.plug_law.specs.Table.{Table}

pub record DecodeSignals : Type 0 where
  pub word : ℕ → ℕ
  -- the word has a row, and its number
  pub legal : ℕ → Bool
  pub row : ℕ → ℕ
  -- the entry that the row belongs to
  pub unit : ℕ → ℕ
  -- its effect depends on registers rs1 and rs2, and it writes register rd where it retires
  pub uses_a : ℕ → Bool
  pub uses_b : ℕ → Bool
  pub writes : ℕ → Bool

-- ECALL and EBREAK, which the pipeline makes itself: they belong to no entry
abbrev pub is_call : ℕ → Bool
is_call row = eqb row 38 || eqb row 39

-- the outputs for a word; all but legal are free where it has no row. Register 0 is never written.
abbrev pub Decodes : Table → (owner : ℕ → ℕ) → Option ℕ → (word : ℕ) (legal : Bool) (row unit : ℕ) (uses_a uses_b writes : Bool) → Type 0
Decodes t owner None word legal row unit uses_a uses_b writes = legal ≡ false
Decodes t owner (Some r) word legal row unit uses_a uses_b writes =
    (legal ≡ true) × (row ≡ r) × (is_call r ≡ false → unit ≡ owner r) × (uses_a ≡ t.uses_a r) × (uses_b ≡ t.uses_b r)
    × (writes ≡ (t.has_value r && not (eqb (rd_of word) 0)))

abbrev pub DecodeLaw : Table → (owner : ℕ → ℕ) → DecodeSignals → Type 0
DecodeLaw t owner d =
    (s : ℕ) → Decodes t owner (t.row_of (d.word (suc s))) (d.word (suc s)) (d.legal (suc s)) (d.row (suc s)) (d.unit (suc s)) (d.uses_a (suc s)) (d.uses_b (suc s)) (d.writes (suc s))
