-- Computed examples of the definitions.
use Rattle.std.proofs.Common.{◌≡◌, [], ◌∷◌, true, false, codes, refl}
use Rattle.core_words.specs.Names.{same_name}
use Rattle.core_words.specs.Values.{add_of, sub_of, not_of, bits_of, choose, join_of}
use Rattle.core_words.specs.Fields.{rd_of, rs1_of, rs2_of, csr_of, extend, sext_of, imm_i, imm_s, imm_b, imm_u, imm_j}
use Rattle.core_words.specs.Words.{word_from, le_bytes}

same : same_name (codes "clk") (codes "clk") ≡ true
same = refl

shorter : same_name (codes "clk") (codes "cl") ≡ false
shorter = refl

other : same_name (codes "clk") (codes "clj") ≡ false
other = refl

sum_wraps : add_of 8 200 100 ≡ 44
sum_wraps = refl

difference_wraps : sub_of 8 3 5 ≡ 254
difference_wraps = refl

difference_of_equals : sub_of 8 5 5 ≡ 0
difference_of_equals = refl

all_turned : not_of 4 5 ≡ 10
all_turned = refl

nibble : bits_of 0xabcd 11 8 ≡ 0xb
nibble = refl

first_chosen : choose 1 5 7 ≡ 5
first_chosen = refl

second_chosen : choose 0 5 7 ≡ 7
second_chosen = refl

joined : join_of 4 0xa 0xb ≡ 0xab
joined = refl

positive : extend 12 0x7ff ≡ 0x7ff
positive = refl

negative : extend 12 0x800 ≡ 0xfffff800
negative = refl

high_bits_left_out : sext_of 0xfffff7ff 12 ≡ 0x7ff
high_bits_left_out = refl

whole_word : sext_of 0x80000000 32 ≡ 0x80000000
whole_word = refl

lowest_byte_first : le_bytes 0x89abcdef ≡ 0xef ∷ 0xcd ∷ 0xab ∷ 0x89 ∷ []
lowest_byte_first = refl

word_of_bytes : word_from (1 ∷ 0xef ∷ 0xcd ∷ 0xab ∷ 0x89 ∷ []) 1 ≡ 0x89abcdef
word_of_bytes = refl

-- addi x1, x0, 5
rd_of_addi : rd_of 0x00500093 ≡ 1
rd_of_addi = refl

imm_of_addi : imm_i 0x00500093 ≡ 5
unfolding imm_i
imm_of_addi = refl

-- addi x1, x0, -1
imm_of_minus_one : imm_i 0xfff00093 ≡ 0xffffffff
unfolding imm_i
imm_of_minus_one = refl

-- add x3, x1, x2
sources_of_add : rs1_of 0x002081b3 ≡ 1
sources_of_add = refl

second_of_add : rs2_of 0x002081b3 ≡ 2
second_of_add = refl

-- lui x30, 0xf0000
imm_of_lui : imm_u 0xf0000f37 ≡ 0xf0000000
unfolding imm_u
imm_of_lui = refl

-- sw x2, 20(x1)
imm_of_sw : imm_s 0x0020aa23 ≡ 20
unfolding imm_s
imm_of_sw = refl

-- beq x5, x0, 16
imm_of_beq : imm_b 0x00028863 ≡ 16
unfolding imm_b
imm_of_beq = refl

-- jal x0, -16
imm_of_jal : imm_j 0xff1ff06f ≡ 0xfffffff0
unfolding imm_j
imm_of_jal = refl

-- csrrw x0, mtvec, x1
csr_of_csrrw : csr_of 0x30509073 ≡ 0x305
csr_of_csrrw = refl
