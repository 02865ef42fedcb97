-- What the first call made is found again in the second.
use Rattle.std.proofs.Common.{◌≡◌, ◌∙◌, ℕ, Bool, ◌+◌, ◌*◌, ◌<◌, ◌≤◌, length, ap, sym, subst, arith, inl, inr, None, Some}
use Rattle.std.proofs.lemmas.Bool.{cases_lt}
use Rattle.hw_module.specs.declared.rows.Owner.TheVariants.{Entry}
use Rattle.hw_module.specs.declared.rows.RegRow.{RegRow}
use Rattle.hw_module.specs.Rows.{reg_at}
use Rattle.service_reg.specs.declared.service.Service.{Service}
use Rattle.plug_build.specs.World.{World, part_in}
use Rattle.plug_kit.proofs.Things.{open_reg}
use Rattle.plug_kit.proofs.Rows.{part_reg}
use Rattle.plug_fetch.specs.Begun.{BeginsFetch}
use Rattle.plug_fetch.specs.Registers.{IsOpenPlace, IsOpenCommand}

module _ (takes : Service → Bool) (e : ℕ) (w : World) (depth reset_pc : ℕ) (begun : BeginsFetch depth reset_pc (part_in takes e w)) where
  pub places_open : (i : ℕ) → i < depth → IsOpenPlace w.design e (begun.first + 4 * i)
  places_open i l = record {
    there = (open_reg takes e w _ 1 None (begun.error i l)).0;
    held = (open_reg takes e w _ 1 (Some 0) (begun.held i l)).1;
    pc = (open_reg takes e w _ 32 None (begun.pc i l)).1;
    word = (open_reg takes e w _ 32 None (begun.word i l)).1;
    error = (open_reg takes e w _ 1 None (begun.error i l)).1;
  }

  pub command_open : IsOpenCommand w.design e (begun.first + 4 * depth) reset_pc
  command_open = record {
    there = (open_reg takes e w _ 32 (Some reset_pc) begun.next_pc).0;
    given = (open_reg takes e w _ 1 (Some 0) begun.given).1;
    owed = (open_reg takes e w _ 1 (Some 0) begun.owed).1;
    dropped = (open_reg takes e w _ 1 (Some 0) begun.dropped).1;
    address = (open_reg takes e w _ 32 None begun.address).1;
    next_pc = (open_reg takes e w _ 32 (Some reset_pc) begun.next_pc).1;
  }

  pub first_owned : 1 ≤ depth → (begun.first < length w.design.regs) × ((reg_at w.design.regs begun.first).owner ≡ Entry e)
  first_owned least =
      let zero-is : begun.first + 4 * 0 ≡ begun.first = omega arith in
      let h = places_open 0 least in
      (let t = h.there in omega arith, ap (λ (k : ℕ). (reg_at w.design.regs k).owner) (sym zero-is) ∙ ap (λ (row : RegRow). row.owner) h.held)

  -- the least register of the entry is the first of the part
  pub first_is : 1 ≤ depth → (first : ℕ) → (reg_at w.design.regs first).owner ≡ Entry e → ((k : ℕ) → k < first → (reg_at w.design.regs k).owner ≡ Entry e → ⊥) → first ≡ begun.first
  first_is least first own none =
      let from = (begun.regs first _ (part_reg takes e w first own)).0 in
      elim (cases_lt begun.first first) [
        | inl below ↦ absurd (none begun.first below (first_owned least).1)
        | inr above ↦ omega arith
      ]

  -- the registers of the command from the number on that the second call finds
  pub command_at : (first count : ℕ) → count ≡ depth → 1 ≤ depth → (reg_at w.design.regs first).owner ≡ Entry e → ((k : ℕ) → k < first → (reg_at w.design.regs k).owner ≡ Entry e → ⊥)
      → IsOpenCommand w.design e (first + 4 * count) reset_pc
  command_at first count is least own none =
      subst (λ (k : ℕ). IsOpenCommand w.design e (k + 4 * count) reset_pc) (sym (first_is least first own none))
      (subst (λ (n : ℕ). IsOpenCommand w.design e (begun.first + 4 * n) reset_pc) (sym is) command_open)
