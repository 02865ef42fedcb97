-- For each row of the unit, the bits of the word choose the row's value.
use Rattle.std.proofs.Common.{◌≡◌, ◌∙◌, ℕ, zero, suc, ◌+◌, ◌-◌, ◌^◌, ◌<◌, true, eqb, ltb, refl, arith, ap, sym, bit_and, bit_or, bit_xor}
use Rattle.std.specs.Int.Bits.{or_zero_r}
use Rattle.core_words.specs.Values.{one_if, choose, bits_of, join_of, add_of, not_of}
use Rattle.core_words.specs.Fields.{imm_i, imm_u}
use Rattle.isa_table.specs.Results.{is_less_signed}
use Rattle.isa_table.specs.Rows.{meets, lui, auipc}
use Rattle.isa_table.specs.Rows.Action.{Computes}
use Rattle.hw_words.specs.Sums.{sum_of, carry_of}
use Rattle.hw_words.proofs.Bits.{test_bit}
use Rattle.hw_words.proofs.Immediates.{imm_i_fits}
use Rattle.hw_words.proofs.Sums.{sum_adds, sum_subtracts, carry_tests, signed_tests}
use Rattle.hw_words.proofs.Fields.{field_met, same_of}
use Rattle.plug_alu.specs.Machine.{second_of, subtracts, less_of, upper_of, is_logic_of, logic_of, is_arithmetic_of, summed_of, tested_of, alu_value}
use Rattle.plug_alu.specs.Law.{IsRight}

-- the unit over the bits that it looks at
late_by : (b2 b13 b14 sum less : ℕ) → ℕ
late_by b2 b13 b14 sum less =
    let arithmetic = not_of 1 (bit_or b2 b14) in
    bit_or (choose (bit_and arithmetic (not_of 1 b13)) sum 0) (join_of 1 0 (bit_and (bit_and arithmetic b13) less))

less_by : (b12 a y carry : ℕ) → ℕ
less_by b12 a y carry = choose b12 (not_of 1 carry) (bit_xor (bit_xor (not_of 1 carry) (bits_of a 31 31)) (bits_of y 31 31))

by_bits : (b2 b5 b12 b13 b14 b30 : ℕ) (i u pc a b : ℕ) → ℕ
by_bits b2 b5 b12 b13 b14 b30 i u pc a b =
    let y = choose b5 b i in
    let s = bit_or (bit_and b5 b30) b13 in
    bit_or
    (bit_or (choose b2 (choose b5 u (add_of 32 pc u)) 0) (choose (bit_and (not_of 1 b2) b14) (choose b13 (choose b12 (bit_and a y) (bit_or a y)) (bit_xor a y)) 0))
    (late_by b2 b13 b14 (sum_of s a y) (less_by b12 a y (carry_of s a y)))

opened : (word pc a b : ℕ) → by_bits (bits_of word 2 2) (bits_of word 5 5) (bits_of word 12 12) (bits_of word 13 13) (bits_of word 14 14) (bits_of word 30 30) (imm_i word) (imm_u word) pc a b ≡ alu_value word pc a b
unfolding by_bits late_by less_by second_of subtracts less_of upper_of is_logic_of logic_of is_arithmetic_of summed_of tested_of alu_value
opened word pc a b = refl

late_upper : (b13 b14 sum less : ℕ) → b14 < 2 → late_by 1 b13 b14 sum less ≡ 0
unfolding late_by
late_upper b13 zero sum less h = refl
late_upper b13 (suc zero) sum less h = refl
late_upper b13 (suc (suc n)) sum less h = absurd (omega arith)

less_signed : (a y : ℕ) → a < 2 ^ 32 → y < 2 ^ 32 → less_by 0 a y (carry_of 1 a y) ≡ one_if (is_less_signed a y)
unfolding less_by
less_signed a y h k = signed_tests a y h k

less_unsigned : (a y : ℕ) → a < 2 ^ 32 → y < 2 ^ 32 → less_by 1 a y (carry_of 1 a y) ≡ one_if (ltb a y)
unfolding less_by
less_unsigned a y h k = carry_tests a y h k

module _ (word pc a b : ℕ) (a_fits : a < 2 ^ 32) (b_fits : b < 2 ^ 32) where
  -- the fields of a word of a row, by its mask and value
  module _ (m v : ℕ) (meets_is : eqb (bit_and word m) v ≡ true) where
    field : (high low : ℕ) → bits_of m high low ≡ 2 ^ (high + 1 - low) - 1 → bits_of word high low ≡ bits_of v high low
    field high low covered = field_met word m v high low (same_of (bit_and word m) v meets_is) covered

  is_lui : meets word lui ≡ true → alu_value word pc a b ≡ imm_u word
  unfolding by_bits
  is_lui h =
      sym (opened word pc a b)
      ∙ (λ i. by_bits (field 0x7f 0x37 h 2 2 refl i) (field 0x7f 0x37 h 5 5 refl i) (bits_of word 12 12) (bits_of word 13 13) (bits_of word 14 14) (bits_of word 30 30) (imm_i word) (imm_u word) pc a b)
      ∙ ap (bit_or (bit_or (imm_u word) 0)) (late_upper (bits_of word 13 13) (bits_of word 14 14) _ _ (omega arith))
      ∙ or_zero_r (bit_or (imm_u word) 0) ∙ or_zero_r (imm_u word)

  is_auipc : meets word auipc ≡ true → alu_value word pc a b ≡ add_of 32 pc (imm_u word)
  unfolding by_bits
  is_auipc h =
      sym (opened word pc a b)
      ∙ (λ i. by_bits (field 0x7f 0x17 h 2 2 refl i) (field 0x7f 0x17 h 5 5 refl i) (bits_of word 12 12) (bits_of word 13 13) (bits_of word 14 14) (bits_of word 30 30) (imm_i word) (imm_u word) pc a b)
      ∙ ap (bit_or (bit_or (add_of 32 pc (imm_u word)) 0)) (late_upper (bits_of word 13 13) (bits_of word 14 14) _ _ (omega arith))
      ∙ or_zero_r (bit_or (add_of 32 pc (imm_u word)) 0) ∙ or_zero_r (add_of 32 pc (imm_u word))

  -- a row of funct3, with the immediate
  short : (v : ℕ) → eqb (bit_and word 0x707f) v ≡ true
      → alu_value word pc a b ≡ by_bits (bits_of v 2 2) (bits_of v 5 5) (bits_of v 12 12) (bits_of v 13 13) (bits_of v 14 14) (bits_of word 30 30) (imm_i word) (imm_u word) pc a b
  short v h =
      sym (opened word pc a b)
      ∙ (λ i. by_bits (field 0x707f v h 2 2 refl i) (field 0x707f v h 5 5 refl i) (field 0x707f v h 12 12 refl i) (field 0x707f v h 13 13 refl i) (field 0x707f v h 14 14 refl i) (bits_of word 30 30) (imm_i word) (imm_u word) pc a b)

  -- a row of funct7
  long : (v : ℕ) → eqb (bit_and word 0xfe00707f) v ≡ true
      → alu_value word pc a b ≡ by_bits (bits_of v 2 2) (bits_of v 5 5) (bits_of v 12 12) (bits_of v 13 13) (bits_of v 14 14) (bits_of v 30 30) (imm_i word) (imm_u word) pc a b
  long v h =
      sym (opened word pc a b)
      ∙ (λ i. by_bits (field 0xfe00707f v h 2 2 refl i) (field 0xfe00707f v h 5 5 refl i) (field 0xfe00707f v h 12 12 refl i) (field 0xfe00707f v h 13 13 refl i) (field 0xfe00707f v h 14 14 refl i) (field 0xfe00707f v h 30 30 refl i) (imm_i word) (imm_u word) pc a b)

  i_fits : imm_i word < 2 ^ 32
  i_fits = imm_i_fits word

  pub right : IsRight word pc a b
  unfolding by_bits late_by
  right zero l h = ap Computes (sym (is_lui h))
  right (suc zero) l h = ap Computes (sym (is_auipc h))
  right (suc (suc zero)) l h = ap Computes (sym (short 0x13 h ∙ or_zero_r _ ∙ sum_adds a (imm_i word) a_fits i_fits))
  right (suc (suc (suc zero))) l h = ap Computes (sym (short 0x2013 h ∙ test_bit (is_less_signed a (imm_i word)) _ (less_signed a (imm_i word) a_fits i_fits)))
  right (suc (suc (suc (suc zero)))) l h = ap Computes (sym (short 0x3013 h ∙ test_bit (ltb a (imm_i word)) _ (less_unsigned a (imm_i word) a_fits i_fits)))
  right (suc (suc (suc (suc (suc zero))))) l h = ap Computes (sym (short 0x4013 h ∙ or_zero_r _))
  right (suc (suc (suc (suc (suc (suc zero)))))) l h = ap Computes (sym (short 0x6013 h ∙ or_zero_r _))
  right (suc (suc (suc (suc (suc (suc (suc zero))))))) l h = ap Computes (sym (short 0x7013 h ∙ or_zero_r _))
  right (suc (suc (suc (suc (suc (suc (suc (suc zero)))))))) l h = ap Computes (sym (long 0x33 h ∙ or_zero_r _ ∙ sum_adds a b a_fits b_fits))
  right (suc (suc (suc (suc (suc (suc (suc (suc (suc zero))))))))) l h = ap Computes (sym (long 0x40000033 h ∙ or_zero_r _ ∙ sum_subtracts a b a_fits b_fits))
  right (suc (suc (suc (suc (suc (suc (suc (suc (suc (suc zero)))))))))) l h = ap Computes (sym (long 0x2033 h ∙ test_bit (is_less_signed a b) _ (less_signed a b a_fits b_fits)))
  right (suc (suc (suc (suc (suc (suc (suc (suc (suc (suc (suc zero))))))))))) l h = ap Computes (sym (long 0x3033 h ∙ test_bit (ltb a b) _ (less_unsigned a b a_fits b_fits)))
  right (suc (suc (suc (suc (suc (suc (suc (suc (suc (suc (suc (suc zero)))))))))))) l h = ap Computes (sym (long 0x4033 h ∙ or_zero_r _))
  right (suc (suc (suc (suc (suc (suc (suc (suc (suc (suc (suc (suc (suc zero))))))))))))) l h = ap Computes (sym (long 0x6033 h ∙ or_zero_r _))
  right (suc (suc (suc (suc (suc (suc (suc (suc (suc (suc (suc (suc (suc (suc zero)))))))))))))) l h = ap Computes (sym (long 0x7033 h ∙ or_zero_r _))
  right (suc (suc (suc (suc (suc (suc (suc (suc (suc (suc (suc (suc (suc (suc (suc k))))))))))))))) l h = absurd (omega arith)
