-- The scope of a module stays where only an array gets its write.
use Rattle.std.proofs.Common.{◌≡◌, ◌∙◌, ℕ, ◌+◌, ◌<◌, cond, length, List, ltb, ap, sym, refl, subst, inl, inr, Some, None}
use Rattle.std.proofs.lemmas.Bool.{cases_eq}
use Rattle.hw_module.specs.declared.rows.ArrayRow.{ArrayRow}
use Rattle.hw_module.specs.declared.rows.ArrayWrite.{ArrayWrite}
use Rattle.hw_module.specs.declared.rows.RegRow.{RegRow}
use Rattle.hw_module.specs.Rows.{ModuleValue, array_at, reg_at, wire_at}
use Rattle.hw_module.specs.Scope.{scope_of, input_width}
use Rattle.plug_icache.specs.Registers.{AreOpenArrays}

-- arrays keep their widths and bits
pub record SameShape (old new : ArrayRow) : Type 0 where
  pub width : new.width ≡ old.width
  pub bits : new.bits ≡ old.bits

pub shape_same : (old new : ModuleValue) (array : ℕ) (w : ArrayWrite) → array_at new.arrays array ≡ record (array_at old.arrays array) { write = Some w }
    → ((k : ℕ) → (k ≡ array → ⊥) → array_at new.arrays k ≡ array_at old.arrays k) → (k : ℕ) → SameShape (array_at old.arrays k) (array_at new.arrays k)
shape_same old new array w driven others k = elim (cases_eq k array) [
  | inl same ↦ record {
    width = ap (λ (j : ℕ). (array_at new.arrays j).width) same ∙ (ap (λ (row : ArrayRow). row.width) driven ∙ ap (λ (j : ℕ). (array_at old.arrays j).width) (sym same));
    bits = ap (λ (j : ℕ). (array_at new.arrays j).bits) same ∙ (ap (λ (row : ArrayRow). row.bits) driven ∙ ap (λ (j : ℕ). (array_at old.arrays j).bits) (sym same));
  }
  | inr other ↦ record { width = ap (λ (row : ArrayRow). row.width) (others k other); bits = ap (λ (row : ArrayRow). row.bits) (others k other) }
]

pub array_scope : (old new : ModuleValue) → new.wires ≡ old.wires → new.regs ≡ old.regs → length new.arrays ≡ length old.arrays
    → ((k : ℕ) → SameShape (array_at old.arrays k) (array_at new.arrays k)) → scope_of new ≡ scope_of old
unfolding scope_of
array_scope old new wires regs count same = λ i. record {
  inputs = input_width;
  wires = λ k. cond (ltb k (length (wires i))) (Some ((wire_at (wires i) k).width, (wire_at (wires i) k).level)) None;
  regs = λ k. cond (ltb k (length (regs i))) (Some (reg_at (regs i) k).width) None;
  arrays = λ k. cond (ltb k (count i)) (Some ((same k).width i, (same k).bits i)) None;
}

-- open arrays stay where the rows are the same
pub arrays_stay : (old new : ModuleValue) → new.arrays ≡ old.arrays → (entry tags l k : ℕ) → AreOpenArrays old entry tags l k → AreOpenArrays new entry tags l k
arrays_stay old new same entry tags l k h = record {
  there = subst (λ (rs : List ArrayRow). tags + 1 < length rs) (sym same) h.there;
  tag = ap (λ (rs : List ArrayRow). array_at rs tags) same ∙ h.tag;
  cell = ap (λ (rs : List ArrayRow). array_at rs (tags + 1)) same ∙ h.cell;
}
