-- The unit in equations over numbers: what each of its circuits has for the word, the pc and the operands (RISC-V Unprivileged
-- ISA 20191213, 2.5).
use Rattle.std.specs.Prelude.{ℕ, eqb, bit_and, bit_or, bit_xor}
use Rattle.core_words.specs.Values.{one_if, choose, bits_of, join_of, add_of, not_of}
use Rattle.core_words.specs.Fields.{imm_i, imm_b, imm_j}
use Rattle.hw_words.specs.Halves.{less_of, equal_of}
use Rattle.isa_model.specs.Effects.{behind}

-- the comparison that bits 14 and 13 name: less, as signed or as unsigned numbers, or equal
unfoldable pub tested_of : (word a b : ℕ) → ℕ
tested_of word a b = choose (bits_of word 14 14) (less_of (not_of 1 (bits_of word 13 13)) a b) (equal_of a b)

-- the condition of a branch: bit 12 turns the comparison over
unfoldable pub holds_of : (word a b : ℕ) → ℕ
holds_of word a b = bit_xor (tested_of word a b) (bits_of word 12 12)

-- 1 where the target is taken: bit 2 tells jumps from branches
unfoldable pub taken_of : (word a b : ℕ) → ℕ
taken_of word a b = bit_or (bits_of word 2 2) (holds_of word a b)

-- the immediate: bit 3 tells JAL
unfoldable pub offset_of : (word : ℕ) → ℕ
offset_of word = choose (bits_of word 3 3) (imm_j word) (choose (bits_of word 2 2) (imm_i word) (imm_b word))

-- 1 for JALR
unfoldable pub indirect_of : (word : ℕ) → ℕ
indirect_of word = bit_and (bits_of word 2 2) (not_of 1 (bits_of word 3 3))

unfoldable pub sum_of : (word pc a : ℕ) → ℕ
sum_of word pc a = add_of 32 (choose (indirect_of word) a pc) (offset_of word)

-- the target: JALR clears bit 0 of the sum
unfoldable pub target_of : (word pc a : ℕ) → ℕ
target_of word pc a = join_of 1 (bits_of (sum_of word pc a) 31 1) (bit_and (bits_of (sum_of word pc a) 0 0) (not_of 1 (indirect_of word)))

-- where the program goes on
unfoldable pub goes_on : (taken target pc : ℕ) → ℕ
goes_on taken target pc = choose taken target (behind pc)

-- 1 where the target is taken and is no multiple of 4
unfoldable pub trap_on : (taken target : ℕ) → ℕ
trap_on taken target = bit_and taken (not_of 1 (one_if (eqb (bits_of target 1 0) 0)))

-- ---- the outputs of the unit, beside the value, which is the pc behind

unfoldable pub next_of : (word pc a b : ℕ) → ℕ
next_of word pc a b = goes_on (taken_of word a b) (target_of word pc a) pc

unfoldable pub trap_of : (word pc a b : ℕ) → ℕ
trap_of word pc a b = trap_on (taken_of word a b) (target_of word pc a)
