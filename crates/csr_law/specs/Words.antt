-- What the word of a CSR access, an MRET or a WFI says (RISC-V Unprivileged 20191213, 9.1; RISC-V Privileged 20190608, 3.2.2 and
-- 3.2.3), and what an access makes of the value read.
use Rattle.std.specs.Prelude.{ℕ, Bool, cond, not, eqb, ◌&&◌, ◌||◌, bit_and, bit_or}
use Rattle.core_words.specs.Values.{bits_of, not_of}
use Rattle.core_words.specs.Fields.{rs1_of}

-- one bit of a number
abbrev pub bit : (v k : ℕ) → Bool
bit v k = eqb (bits_of v k k) 1

-- bits 12 and 13 are both 0 in MRET and WFI, which bit 29 tells apart
unfoldable pub is_access : (word : ℕ) → Bool
is_access word = bit word 12 || bit word 13

unfoldable pub is_return : (word : ℕ) → Bool
is_return word = not (bit word 12 || bit word 13) && bit word 29

unfoldable pub is_wait : (word : ℕ) → Bool
is_wait word = not (bit word 12 || bit word 13) && not (bit word 29)

-- the rs1 field, or the value of register rs1
unfoldable pub operand_of : (word a : ℕ) → ℕ
operand_of word a = cond (bit word 14) (rs1_of word) a

-- CSRRW and CSRRWI write always, the others where the rs1 field is not 0
unfoldable pub writes_of : (word : ℕ) → Bool
writes_of word = not (bit word 13) || not (eqb (rs1_of word) 0)

-- the value written: the operand, or the old value with its bits set or cleared
unfoldable pub new_of : (word a old : ℕ) → ℕ
new_of word a old = cond (bit word 13) (cond (bit word 12) (bit_and old (not_of 32 (operand_of word a))) (bit_or old (operand_of word a))) (operand_of word a)

-- the numbers that are never written (2.1)
abbrev pub is_refused_number : (number : ℕ) → Bool
is_refused_number number = eqb (bits_of number 11 10) 3
