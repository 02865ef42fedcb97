-- For each row of the unit, the bits of the word choose the row's outputs.
use Rattle.std.proofs.Common.{◌≡◌, ◌∙◌, ℕ, zero, suc, ◌+◌, ◌-◌, ◌*◌, ◌/◌, ◌^◌, ◌<◌, true, eqb, ltb, not, Some, refl, arith, bit_and, bit_or, bit_xor}
use Rattle.std.specs.Int.Bits.{xor_zero_r}
use Rattle.std.proofs.lemmas.Nat.{xor_lt}
use Rattle.core_words.specs.Values.{choose, bits_of, join_of, add_of, not_of}
use Rattle.core_words.specs.Fields.{imm_i, imm_b, imm_j}
use Rattle.isa_table.specs.Results.{is_less_signed}
use Rattle.isa_table.specs.Rows.{meets, jal, jalr}
use Rattle.isa_model.specs.Effects.{behind}
use Rattle.hw_words.specs.Halves.{less_of, equal_of}
use Rattle.hw_words.proofs.Bits.{choice_bit, one_or, turned, with_lowest, without_lowest}
use Rattle.hw_words.proofs.Fields.{field_met, same_of}
use Rattle.hw_words.proofs.Halves.{less_unsigned, less_signed, equal_is, less_bit, equal_bit}
use Rattle.plug_branch.specs.Machine.{tested_of, holds_of, taken_of, offset_of, indirect_of, sum_of, target_of}
use Rattle.plug_branch.specs.Law.{IsRight}
use Rattle.plug_branch.proofs.Flows.{jumps, branches}

-- the unit over the bits that it looks at
taken_by : (b2 b12 b13 b14 a b : ℕ) → ℕ
taken_by b2 b12 b13 b14 a b = bit_or b2 (bit_xor (choose b14 (less_of (not_of 1 b13) a b) (equal_of a b)) b12)

sum_by : (b2 b3 i j k pc a : ℕ) → ℕ
sum_by b2 b3 i j k pc a = add_of 32 (choose (bit_and b2 (not_of 1 b3)) a pc) (choose b3 j (choose b2 i k))

target_by : (b2 b3 i j k pc a : ℕ) → ℕ
target_by b2 b3 i j k pc a =
    join_of 1 (bits_of (sum_by b2 b3 i j k pc a) 31 1) (bit_and (bits_of (sum_by b2 b3 i j k pc a) 0 0) (not_of 1 (bit_and b2 (not_of 1 b3))))

-- a jump is taken whatever the other bits are
jump_taken : (b12 b13 b14 a b : ℕ) → b12 < 2 → taken_by 1 b12 b13 b14 a b ≡ 1
unfolding taken_by
jump_taken b12 b13 b14 a b h = one_or _ (xor_lt 1 _ b12 (choice_bit b14 _ _ (less_bit (not_of 1 b13) a b) (equal_bit a b)) h)

module _ (word pc a b : ℕ) (a_fits : a < 2 ^ 32) (b_fits : b < 2 ^ 32) where
  -- the fields of a word of a row, by its mask and value
  module _ (m v : ℕ) (meets_is : eqb (bit_and word m) v ≡ true) where
    field : (high low : ℕ) → bits_of m high low ≡ 2 ^ (high + 1 - low) - 1 → bits_of word high low ≡ bits_of v high low
    field high low covered = field_met word m v high low (same_of (bit_and word m) v meets_is) covered

  target_at : (b2 b3 : ℕ) → bits_of word 2 2 ≡ b2 → bits_of word 3 3 ≡ b3 → target_of word pc a ≡ target_by b2 b3 (imm_i word) (imm_j word) (imm_b word) pc a
  unfolding target_of sum_of offset_of indirect_of target_by sum_by
  target_at b2 b3 e f = λ i. target_by (e i) (f i) (imm_i word) (imm_j word) (imm_b word) pc a

  taken_at : (b2 b12 b13 b14 : ℕ) → bits_of word 2 2 ≡ b2 → bits_of word 12 12 ≡ b12 → bits_of word 13 13 ≡ b13 → bits_of word 14 14 ≡ b14
      → taken_of word a b ≡ taken_by b2 b12 b13 b14 a b
  unfolding taken_of holds_of tested_of taken_by
  taken_at b2 b12 b13 b14 e f g h = λ i. taken_by (e i) (f i) (g i) (h i) a b

  is_jal : meets word jal ≡ true → (taken_of word a b ≡ 1) × (target_of word pc a ≡ add_of 32 pc (imm_j word))
  unfolding target_by sum_by
  is_jal h = (
    taken_at _ _ _ _ (field 0x7f 0x6f h 2 2 refl) refl refl refl ∙ jump_taken (bits_of word 12 12) (bits_of word 13 13) (bits_of word 14 14) a b (omega arith),
    target_at _ _ (field 0x7f 0x6f h 2 2 refl) (field 0x7f 0x6f h 3 3 refl) ∙ with_lowest (add_of 32 pc (imm_j word)) (omega arith),
  )

  is_jalr : meets word jalr ≡ true → (taken_of word a b ≡ 1) × (target_of word pc a ≡ add_of 32 a (imm_i word) / 2 * 2)
  unfolding target_by sum_by
  is_jalr h = (
    taken_at _ _ _ _ (field 0x707f 0x67 h 2 2 refl) refl refl refl ∙ jump_taken (bits_of word 12 12) (bits_of word 13 13) (bits_of word 14 14) a b (omega arith),
    target_at _ _ (field 0x707f 0x67 h 2 2 refl) (field 0x707f 0x67 h 3 3 refl) ∙ without_lowest (add_of 32 a (imm_i word)) (omega arith),
  )

  -- a branch, whose funct3 is known
  module _ (v : ℕ) (h : eqb (bit_and word 0x707f) v ≡ true) where
    branch_target : bits_of v 2 2 ≡ 0 → bits_of v 3 3 ≡ 0 → target_of word pc a ≡ add_of 32 pc (imm_b word)
    unfolding target_by sum_by
    branch_target e f = target_at 0 0 (field 0x707f v h 2 2 refl ∙ e) (field 0x707f v h 3 3 refl ∙ f) ∙ with_lowest (add_of 32 pc (imm_b word)) (omega arith)

    branch_taken : taken_of word a b ≡ taken_by (bits_of v 2 2) (bits_of v 12 12) (bits_of v 13 13) (bits_of v 14 14) a b
    branch_taken = taken_at _ _ _ _ (field 0x707f v h 2 2 refl) (field 0x707f v h 12 12 refl) (field 0x707f v h 13 13 refl) (field 0x707f v h 14 14 refl)

  -- the target of a branch
  abbrev to : ℕ
  to = add_of 32 pc (imm_b word)

  pub right : IsRight word pc a b
  unfolding taken_by
  right zero l h m c o = let j = is_jal h in jumps word pc a b (add_of 32 pc (imm_j word)) j.0 j.1 (Some (behind pc)) refl
  right (suc zero) l h m c o = let j = is_jalr h in jumps word pc a b (add_of 32 a (imm_i word) / 2 * 2) j.0 j.1 (Some (behind pc)) refl
  right (suc (suc zero)) l h m c o =
      branches word pc a b to (eqb a b) (branch_taken 0x63 h ∙ xor_zero_r (equal_of a b) ∙ equal_is a b a_fits b_fits) (branch_target 0x63 h refl refl)
  right (suc (suc (suc zero))) l h m c o =
      branches word pc a b to (not (eqb a b)) (branch_taken 0x1063 h ∙ turned (eqb a b) (equal_of a b) (equal_is a b a_fits b_fits)) (branch_target 0x1063 h refl refl)
  right (suc (suc (suc (suc zero)))) l h m c o =
      branches word pc a b to (is_less_signed a b) (branch_taken 0x4063 h ∙ xor_zero_r (less_of 1 a b) ∙ less_signed a b a_fits b_fits) (branch_target 0x4063 h refl refl)
  right (suc (suc (suc (suc (suc zero))))) l h m c o =
      branches word pc a b to (not (is_less_signed a b)) (branch_taken 0x5063 h ∙ turned (is_less_signed a b) (less_of 1 a b) (less_signed a b a_fits b_fits)) (branch_target 0x5063 h refl refl)
  right (suc (suc (suc (suc (suc (suc zero)))))) l h m c o =
      branches word pc a b to (ltb a b) (branch_taken 0x6063 h ∙ xor_zero_r (less_of 0 a b) ∙ less_unsigned a b a_fits b_fits) (branch_target 0x6063 h refl refl)
  right (suc (suc (suc (suc (suc (suc (suc zero))))))) l h m c o =
      branches word pc a b to (not (ltb a b)) (branch_taken 0x7063 h ∙ turned (ltb a b) (less_of 0 a b) (less_unsigned a b a_fits b_fits)) (branch_target 0x7063 h refl refl)
  right (suc (suc (suc (suc (suc (suc (suc (suc k)))))))) l h m c o = absurd (omega arith)
