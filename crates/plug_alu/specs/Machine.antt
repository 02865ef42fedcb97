-- The unit in equations over numbers: what each of its circuits has for the word, the pc and the operands (RISC-V Unprivileged
-- ISA 20191213, 2.4).
use Rattle.std.specs.Prelude.{ℕ, bit_and, bit_or, bit_xor}
use Rattle.core_words.specs.Values.{choose, bits_of, join_of, add_of, not_of}
use Rattle.core_words.specs.Fields.{imm_i, imm_u}
use Rattle.hw_words.specs.Sums.{sum_of, carry_of}

-- the second operand: the register, or the immediate
unfoldable pub second_of : (word b : ℕ) → ℕ
second_of word b = choose (bits_of word 5 5) b (imm_i word)

-- 1 for a difference: SUB and the comparisons
unfoldable pub subtracts : (word : ℕ) → ℕ
subtracts word = bit_or (bit_and (bits_of word 5 5) (bits_of word 30 30)) (bits_of word 13 13)

-- 1 where a is less than y: no carry came out of a - y, and signs that differ turn that over
unfoldable pub less_of : (word a y carry : ℕ) → ℕ
less_of word a y carry = choose (bits_of word 12 12) (not_of 1 carry) (bit_xor (bit_xor (not_of 1 carry) (bits_of a 31 31)) (bits_of y 31 31))

-- the immediate of the U format, alone or on the pc, else 0
unfoldable pub upper_of : (word pc : ℕ) → ℕ
upper_of word pc = choose (bits_of word 2 2) (choose (bits_of word 5 5) (imm_u word) (add_of 32 pc (imm_u word))) 0

-- 1 where a bitwise function is asked
unfoldable pub is_logic_of : (word : ℕ) → ℕ
is_logic_of word = bit_and (not_of 1 (bits_of word 2 2)) (bits_of word 14 14)

-- the bitwise functions of both operands, else 0
unfoldable pub logic_of : (word a y : ℕ) → ℕ
logic_of word a y = choose (is_logic_of word) (choose (bits_of word 13 13) (choose (bits_of word 12 12) (bit_and a y) (bit_or a y)) (bit_xor a y)) 0

-- 1 where a sum, a difference or a comparison is asked
unfoldable pub is_arithmetic_of : (word : ℕ) → ℕ
is_arithmetic_of word = not_of 1 (bit_or (bits_of word 2 2) (bits_of word 14 14))

-- the sum, else 0
unfoldable pub summed_of : (word sum : ℕ) → ℕ
summed_of word sum = choose (bit_and (is_arithmetic_of word) (not_of 1 (bits_of word 13 13))) sum 0

-- the comparison, else 0
unfoldable pub tested_of : (word less : ℕ) → ℕ
tested_of word less = join_of 1 0 (bit_and (bit_and (is_arithmetic_of word) (bits_of word 13 13)) less)

unfoldable pub alu_value : (word pc a b : ℕ) → ℕ
alu_value word pc a b =
    let y = second_of word b in
    let s = subtracts word in
    bit_or (bit_or (upper_of word pc) (logic_of word a y)) (bit_or (summed_of word (sum_of s a y)) (tested_of word (less_of word a y (carry_of s a y))))
