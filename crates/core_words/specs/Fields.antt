-- The fields of a 32-bit instruction word (RISC-V Unprivileged ISA 20191213, 2.2 and 2.3).
use Rattle.std.specs.Prelude.{ℕ, ◌+◌, ◌-◌, ◌*◌, ◌%◌, ◌^◌, cond, ltb}
use Rattle.core_words.specs.Values.{bits_of}

-- the number of the destination register
abbrev pub rd_of : ℕ → ℕ
rd_of word = bits_of word 11 7

-- the numbers of the source registers
abbrev pub rs1_of : ℕ → ℕ
rs1_of word = bits_of word 19 15

abbrev pub rs2_of : ℕ → ℕ
rs2_of word = bits_of word 24 20

-- the number of the CSR (9.1)
abbrev pub csr_of : ℕ → ℕ
csr_of word = bits_of word 31 20

-- a number of k bits, from 1 to 32, as 32 bits with the sign in its highest bit
abbrev pub extend : (k v : ℕ) → ℕ
extend k v = cond (ltb v (2 ^ (k - 1))) v (v + 2 ^ 32 - 2 ^ k)

-- the same of the low bits of a number
abbrev pub sext_of : (n width : ℕ) → ℕ
sext_of n width = extend width (n % 2 ^ width)

-- the immediate of each format, 32 bits with the sign in bit 31 of the word
unfoldable pub imm_i : ℕ → ℕ
imm_i word = extend 12 (bits_of word 31 20)

unfoldable pub imm_s : ℕ → ℕ
imm_s word = extend 12 (bits_of word 31 25 * 2 ^ 5 + bits_of word 11 7)

unfoldable pub imm_b : ℕ → ℕ
imm_b word = extend 13 (bits_of word 31 31 * 2 ^ 12 + bits_of word 7 7 * 2 ^ 11 + bits_of word 30 25 * 2 ^ 5 + bits_of word 11 8 * 2)

unfoldable pub imm_u : ℕ → ℕ
imm_u word = bits_of word 31 12 * 2 ^ 12

unfoldable pub imm_j : ℕ → ℕ
imm_j word = extend 21 (bits_of word 31 31 * 2 ^ 20 + bits_of word 19 12 * 2 ^ 12 + bits_of word 20 20 * 2 ^ 11 + bits_of word 30 21 * 2)
