-- The pc behind an instruction as it is guessed from its pc and its word (RISC-V Unprivileged ISA 20191213, 2.5).
use Rattle.std.specs.Prelude.{ℕ, ◌*◌, ◌/◌, Bool, not, cond, eqb, ◌&&◌}
use Rattle.core_words.specs.Values.{add_of, bits_of}
use Rattle.core_words.specs.Fields.{imm_b, imm_j}
use Rattle.isa_model.specs.Effects.{behind}
use Rattle.plug_predict.specs.declared.styles.Style.{Style}
use Rattle.plug_predict.specs.declared.styles.Style.TheVariants.{Next, Static}

-- a word of JAL
abbrev pub is_jal : (word : ℕ) → Bool
is_jal word = eqb (bits_of word 6 0) 0x6f

-- a word of a branch: no branch has 010 or 011 as its funct3
abbrev pub is_branch : (word : ℕ) → Bool
is_branch word = eqb (bits_of word 6 0) 0x63 && not (eqb (bits_of word 14 13) 1)

-- the sign of its immediate is 1: a branch goes backward
abbrev pub is_backward : (word : ℕ) → Bool
is_backward word = eqb (bits_of word 31 31) 1

-- a target with the low two bits of its immediate cleared
abbrev pub target_at : (pc immediate : ℕ) → ℕ
target_at pc immediate = add_of 32 pc (immediate / 4 * 4)

-- JAL and branches that go backward are taken, whatever rows a core has, and all else goes on behind itself
abbrev pub static_of : (pc word : ℕ) → ℕ
static_of pc word = cond (is_jal word) (target_at pc (imm_j word)) (cond (is_branch word && is_backward word) (target_at pc (imm_b word)) (behind pc))

abbrev pub predict_of : Style → (pc word : ℕ) → ℕ
predict_of Next pc word = behind pc
predict_of Static pc word = static_of pc word
