-- For each row of the unit the bits of the word choose its result.
use Rattle.std.proofs.Common.{◌≡◌, ◌∙◌, ℕ, zero, suc, ◌+◌, ◌-◌, ◌^◌, ◌<◌, true, eqb, bit_and, refl, arith, ap, sym}
use Rattle.core_words.specs.Values.{bits_of}
use Rattle.isa_table.specs.Rows.Action.{Computes}
use Rattle.hw_words.proofs.Fields.{field_met, same_of}
use Rattle.muldiv_law.specs.Steps.{result_by, result_of}
use Rattle.muldiv_law.specs.Law.{IsRight}
use Rattle.muldiv_law.proofs.Results.{mul-is, mulh-is, mulhsu-is, mulhu-is, div-is, divu-is, rem-is, remu-is}

module _ (word pc a b : ℕ) (a_fits : a < 2 ^ 32) (b_fits : b < 2 ^ 32) where
  field : (v : ℕ) → eqb (bit_and word 0xfe00707f) v ≡ true → (high low : ℕ) → bits_of 0xfe00707f high low ≡ 2 ^ (high + 1 - low) - 1 → bits_of word high low ≡ bits_of v high low
  field v h high low covered = field_met word 0xfe00707f v high low (same_of (bit_and word 0xfe00707f) v h) covered

  by_row : (v : ℕ) → eqb (bit_and word 0xfe00707f) v ≡ true → result_of word a b ≡ result_by (bits_of v 14 14) (bits_of v 13 13) (bits_of v 12 12) a b
  unfolding result_of
  by_row v h = (λ i. result_by (field v h 14 14 refl i) (field v h 13 13 refl i) (field v h 12 12 refl i) a b)

  pub right : IsRight word pc a b
  right zero l h = ap Computes (sym (by_row 0x2000033 h ∙ mul-is a b a_fits b_fits))
  right (suc zero) l h = ap Computes (sym (by_row 0x2001033 h ∙ mulh-is a b a_fits b_fits))
  right (suc (suc zero)) l h = ap Computes (sym (by_row 0x2002033 h ∙ mulhsu-is a b a_fits b_fits))
  right (suc (suc (suc zero))) l h = ap Computes (sym (by_row 0x2003033 h ∙ mulhu-is a b a_fits b_fits))
  right (suc (suc (suc (suc zero)))) l h = ap Computes (sym (by_row 0x2004033 h ∙ div-is a b a_fits b_fits))
  right (suc (suc (suc (suc (suc zero))))) l h = ap Computes (sym (by_row 0x2005033 h ∙ divu-is a b a_fits b_fits))
  right (suc (suc (suc (suc (suc (suc zero)))))) l h = ap Computes (sym (by_row 0x2006033 h ∙ rem-is a b a_fits b_fits))
  right (suc (suc (suc (suc (suc (suc (suc zero))))))) l h = ap Computes (sym (by_row 0x2007033 h ∙ remu-is a b a_fits b_fits))
  right (suc (suc (suc (suc (suc (suc (suc (suc k)))))))) l h = absurd (omega arith)
