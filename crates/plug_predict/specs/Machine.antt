-- The part in equations over numbers: what each of its circuits has for the word and the pc.
use Rattle.std.specs.Prelude.{ℕ, eqb, bit_and, bit_or}
use Rattle.core_words.specs.Values.{one_if, choose, bits_of, join_of, add_of, not_of}
use Rattle.core_words.specs.Fields.{imm_b, imm_j}
use Rattle.isa_model.specs.Effects.{behind}
use Rattle.plug_predict.specs.declared.styles.Style.{Style}
use Rattle.plug_predict.specs.declared.styles.Style.TheVariants.{Next, Static}

-- 1 for JAL
unfoldable pub jal_of : (word : ℕ) → ℕ
jal_of word = one_if (eqb (bits_of word 6 0) 0x6f)

-- 1 for a branch that goes backward
unfoldable pub backward_of : (word : ℕ) → ℕ
backward_of word = bit_and (bit_and (one_if (eqb (bits_of word 6 0) 0x63)) (not_of 1 (one_if (eqb (bits_of word 14 13) 1)))) (bits_of word 31 31)

-- the pc and an immediate, whose low two bits are cleared
unfoldable pub reached_of : (pc immediate : ℕ) → ℕ
reached_of pc immediate = add_of 32 pc (join_of 2 (bits_of immediate 31 2) 0)

-- one of both targets where one is taken
unfoldable pub chosen_of : (jal backward jump branch next : ℕ) → ℕ
chosen_of jal backward jump branch next = choose (bit_or jal backward) (choose jal jump branch) next

unfoldable pub static_guess_of : (pc word : ℕ) → ℕ
static_guess_of pc word = chosen_of (jal_of word) (backward_of word) (reached_of pc (imm_j word)) (reached_of pc (imm_b word)) (behind pc)

abbrev pub guess_of : Style → (pc word : ℕ) → ℕ
guess_of Next pc word = behind pc
guess_of Static pc word = static_guess_of pc word
