-- What an entry has after the first call.
use Rattle.std.proofs.Common.{◌≡◌, ◌∙◌, ℕ, ◌+◌, ◌<◌, ◌≤◌, length, ap, sym, Bool, true, false, cond, ◌&&◌, Option, None, Some, inl, inr, arith}
use Rattle.std.proofs.lemmas.Bool.{cases_lt, cases_Bool, and_parts, or_cases, both_ways}
use Rattle.std.proofs.lemmas.List.{get_or_past}
use Rattle.hw_module.specs.declared.rows.Owner.TheVariants.{Pipe, Entry}
use Rattle.hw_module.specs.declared.rows.RegRow.{RegRow}
use Rattle.hw_module.specs.declared.rows.ArrayRow.{ArrayRow}
use Rattle.hw_module.specs.Rows.{ModuleValue, array_at, reg_at, out_at}
use Rattle.service_reg.specs.declared.service.Service.{Service}
use Rattle.service_reg.specs.declared.service.Service.TheVariants.{Fetch, DataBus}
use Rattle.plug_part.specs.Of.{part_of, tree_option, write_trees}
use Rattle.plug_part.specs.Owned.{is_fetch_out, is_bus_out, is_out_of, offers}
use Rattle.plug_build.specs.World.{World, part_in}
use Rattle.plug_kit.proofs.Rows.{part_array, part_reg}
use Rattle.plug_icache.specs.Begun.{IsOpen}
use Rattle.plug_icache.specs.Registers.{open_array, open_row}

-- the registers of an entry that had none are those that it made
pub only_new : (by : ℕ) (old new : ModuleValue) (n : ℕ) → length new.regs ≡ length old.regs + n → ((k : ℕ) → k < length old.regs → reg_at new.regs k ≡ reg_at old.regs k)
    → ((k : ℕ) → (reg_at old.regs k).owner ≡ Entry by → ⊥) → (k : ℕ) → (reg_at new.regs k).owner ≡ Entry by → (length old.regs ≤ k) × (k < length old.regs + n)
only_new by old new n count before nothing k own = elim (cases_lt k (length new.regs)) [
  | inr past ↦ absurd (let e : Pipe ≡ Entry by = sym (ap (λ (row : RegRow). row.owner) (get_or_past new.regs k _ past)) ∙ own in cc)
  | inl there ↦ elim (cases_lt k (length old.regs)) [
    | inl l ↦ absurd (nothing k (sym (ap (λ (row : RegRow). row.owner) (before k l)) ∙ own))
    | inr ge ↦ (ge, omega arith)
  ]
]

-- and so are its arrays
pub only_new_arrays : (by : ℕ) (old new : ModuleValue) (n : ℕ) → length new.arrays ≡ length old.arrays + n → ((k : ℕ) → k < length old.arrays → array_at new.arrays k ≡ array_at old.arrays k)
    → ((k : ℕ) → (array_at old.arrays k).owner ≡ Entry by → ⊥) → (k : ℕ) → (array_at new.arrays k).owner ≡ Entry by → (length old.arrays ≤ k) × (k < length old.arrays + n)
only_new_arrays by old new n count before nothing k own = elim (cases_lt k (length new.arrays)) [
  | inr past ↦ absurd (let e : Pipe ≡ Entry by = sym (ap (λ (row : ArrayRow). row.owner) (get_or_past new.arrays k _ past)) ∙ own in cc)
  | inl there ↦ elim (cases_lt k (length old.arrays)) [
    | inl l ↦ absurd (nothing k (sym (ap (λ (row : ArrayRow). row.owner) (before k l)) ∙ own))
    | inr ge ↦ (ge, omega arith)
  ]
]

module _ (takes : Service → Bool) (entry : ℕ) (w : World) where
  pub array_open : (k width bits : ℕ) → array_at w.design.arrays k ≡ open_array entry width bits → (part_in takes entry w).arrays k ≡ Some (record { width = width; bits = bits; write = None })
  array_open k width bits is =
      part_array takes entry w k (ap (λ (row : ArrayRow). row.owner) is)
      ∙ ap (λ (row : ArrayRow). Some (record { width = row.width; bits = row.bits; write = write_trees w.pool.nodes row.write })) is

  -- an open register of the entry is one of its part
  pub part_open : (k width : ℕ) (reset : Option ℕ) → reg_at w.design.regs k ≡ open_row entry width reset → IsOpen (part_in takes entry w) k width reset
  part_open k width reset is =
      part_reg takes entry w k (ap (λ (row : RegRow). row.owner) is)
      ∙ ap (λ (row : RegRow). Some (record { width = row.width; reset = row.reset; next = tree_option w.pool.nodes row.next })) is

  -- the part drives no output while those of the instruction bus are open, where the entry does not offer DataBus
  pub outs_open : (q : ℕ) → offers w.reg entry DataBus ≡ false → (is_fetch_out q ≡ true → out_at w.design.outs q ≡ None) → (part_in takes entry w).outs q ≡ None
  unfolding part_of
  outs_open q bus none = elim (cases_Bool (is_out_of w.reg entry q)) [
    | inr not-out ↦ ap (λ b. cond b (tree_option w.pool.nodes (out_at w.design.outs q)) None) not-out
    | inl is-out ↦ ap (λ b. cond b (tree_option w.pool.nodes (out_at w.design.outs q)) None) is-out
        ∙ ap (tree_option w.pool.nodes) (elim (or_cases (offers w.reg entry Fetch && is_fetch_out q) (offers w.reg entry DataBus && is_bus_out q) is-out) [
          | inl f ↦ none (and_parts (offers w.reg entry Fetch) (is_fetch_out q) f).1
          | inr b ↦ absurd (both_ways (offers w.reg entry DataBus) bus (and_parts (offers w.reg entry DataBus) (is_bus_out q) b).0)
        ])
  ]
