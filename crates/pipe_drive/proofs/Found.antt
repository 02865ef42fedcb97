-- The pipeline's things by their numbers.
use Rattle.std.proofs.Common.{◌≡◌, ◌∙◌, ℕ, zero, suc, ◌+◌, ◌*◌, ◌<◌, List, [], ◌∷◌, length, get_or, sym, ap, subst, arith, Option}
use Rattle.hw_module.specs.Rows.{ModuleValue, reg_at, wire_at}
use Rattle.pipe_drive.specs.Rows.{AreRegs, AreWires, IsMade, bare_reg, bare_wire, own_shapes, wire_levels, chosen_shapes, tail_shapes, plain, PlaceRows}

module _ (d : ModuleValue) where
  pub reg_row : (k : ℕ) (xs : List (ℕ × Option ℕ)) → AreRegs d k xs → (j : ℕ) (x : ℕ × Option ℕ) → j < length xs → reg_at d.regs (k + j) ≡ bare_reg (get_or xs j x)
  reg_row k [] h j x l = absurd (omega arith)
  reg_row k (y ∷ ys) h zero x l = let e : k + 0 ≡ k = omega arith in ap (reg_at d.regs) e ∙ h.0
  reg_row k (y ∷ ys) h (suc j) x l = let e : k + suc j ≡ k + 1 + j = omega arith in ap (reg_at d.regs) e ∙ reg_row (k + 1) ys h.1 j x (omega arith)

  pub wire_row : (k : ℕ) (ls : List ℕ) → AreWires d k ls → (j x : ℕ) → j < length ls → wire_at d.wires (k + j) ≡ bare_wire (get_or ls j x)
  wire_row k [] h j x l = absurd (omega arith)
  wire_row k (y ∷ ys) h zero x l = let e : k + 0 ≡ k = omega arith in ap (wire_at d.wires) e ∙ h.0
  wire_row k (y ∷ ys) h (suc j) x l = let e : k + suc j ≡ k + 1 + j = omega arith in ap (wire_at d.wires) e ∙ wire_row (k + 1) ys h.1 j x (omega arith)

  pub chosen_row : (k n : ℕ) → AreRegs d k (chosen_shapes n) → (j : ℕ) → j < n → reg_at d.regs (k + j) ≡ bare_reg (plain 1)
  chosen_row k zero h j l = absurd (omega arith)
  chosen_row k (suc n) h zero l = let e : k + 0 ≡ k = omega arith in ap (reg_at d.regs) e ∙ h.0
  chosen_row k (suc n) h (suc j) l = let e : k + suc j ≡ k + 1 + j = omega arith in ap (reg_at d.regs) e ∙ chosen_row (k + 1) n h.1 j (omega arith)

  pub tail_row : (k n : ℕ) → AreRegs d k (tail_shapes n) → (j : ℕ) → j < n → PlaceRows d (k + 3 * j)
  tail_row k zero h j l = absurd (omega arith)
  tail_row k (suc n) h zero l =
      let e : k + 3 * 0 ≡ k = omega arith in
      let f : k + 1 + 1 ≡ k + 2 = omega arith in
      subst (PlaceRows d) (sym e) (record { writes = h.0; rd = h.1.0; value = subst (λ i. reg_at d.regs i ≡ bare_reg (plain 32)) f h.1.1.0 })
  tail_row k (suc n) h (suc j) l =
      let e : k + 1 + 1 + 1 + 3 * j ≡ k + 3 * suc j = omega arith in
      subst (PlaceRows d) e (tail_row (k + 1 + 1 + 1) n h.1.1.1 j (omega arith))

module _ {old new : ModuleValue} {reset_pc units places : ℕ} (made : IsMade old new reset_pc units places) where
  pub wire_found : (j : ℕ) → j < 8 → (length old.wires + j < length new.wires) × (wire_at new.wires (length old.wires + j) ≡ bare_wire (get_or wire_levels j 0))
  wire_found j l = let n = made.more_wires in (omega arith, wire_row new (length old.wires) wire_levels made.wires j 0 l)

  pub reg_found : (j : ℕ) → j < 15 → (length old.regs + j < length new.regs) × (reg_at new.regs (length old.regs + j) ≡ bare_reg (get_or (own_shapes reset_pc) j (plain 1)))
  reg_found j l = let n = made.more_regs in (omega arith, reg_row new (length old.regs) (own_shapes reset_pc) made.regs j (plain 1) l)

  pub chosen_found : (j : ℕ) → j < units → (length old.regs + 15 + j < length new.regs) × (reg_at new.regs (length old.regs + 15 + j) ≡ bare_reg (plain 1))
  chosen_found j l = let n = made.more_regs in (omega arith, chosen_row new (length old.regs + 15) units made.chosen j l)

  pub place_found : (j : ℕ) → j < places → (length old.regs + 15 + units + 3 * j + 2 < length new.regs) × PlaceRows new (length old.regs + 15 + units + 3 * j)
  place_found j l = let n = made.more_regs in (omega arith, tail_row new (length old.regs + 15 + units) places made.tail j l)
