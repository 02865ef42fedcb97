-- What the first call made is found again in the second.
use Rattle.std.proofs.Common.{◌≡◌, ◌∙◌, ℕ, Bool, ◌+◌, ◌-◌, ◌<◌, ◌≤◌, length, ap, sym, subst, arith, inl, inr, Option, None, Some}
use Rattle.std.proofs.lemmas.Bool.{cases_lt}
use Rattle.hw_module.specs.declared.rows.Owner.TheVariants.{Entry}
use Rattle.hw_module.specs.declared.rows.RegRow.{RegRow}
use Rattle.hw_module.specs.declared.rows.ArrayRow.{ArrayRow}
use Rattle.hw_module.specs.Rows.{reg_at, array_at}
use Rattle.service_reg.specs.declared.service.Service.{Service}
use Rattle.plug_build.specs.World.{World, part_in}
use Rattle.plug_kit.proofs.Things.{open_array, open_reg}
use Rattle.plug_kit.proofs.Rows.{part_array, part_reg}
use Rattle.plug_icache.specs.Begun.{AreOpen, BeginsIcache}
use Rattle.plug_icache.specs.Registers.{AreOpenArrays, AreOpenRegs, IsOpenFour}

module _ (takes : Service → Bool) (e : ℕ) (w : World) where
  four_open : (reg a b c d : ℕ) (ra rb rc rd : Option ℕ) → AreOpen (part_in takes e w) reg a b c d ra rb rc rd → IsOpenFour w.design e reg a b c d ra rb rc rd
  four_open reg a b c d ra rb rc rd h = record {
    there = (open_reg takes e w _ d rd h.fourth).0;
    first = (open_reg takes e w _ a ra h.first).1;
    second = (open_reg takes e w _ b rb h.second).1;
    third = (open_reg takes e w _ c rc h.third).1;
    fourth = (open_reg takes e w _ d rd h.fourth).1;
  }

  module _ (l k reset_pc : ℕ) (begun : BeginsIcache l k reset_pc (part_in takes e w)) where
    regs_open : AreOpenRegs w.design e begun.first l k reset_pc
    regs_open = record {
      front = four_open _ _ _ _ _ _ _ _ _ begun.front;
      reading = four_open _ _ _ _ _ _ _ _ _ begun.reading;
      caught = four_open _ _ _ _ _ _ _ _ _ begun.caught;
      item = four_open _ _ _ _ _ _ _ _ _ begun.item;
    }

    arrays_open : AreOpenArrays w.design e begun.tags l k
    arrays_open = record {
      there = (open_array takes e w _ 32 (l + k) begun.cell).0;
      tag = (open_array takes e w _ (31 - k - l) l begun.tag).1;
      cell = (open_array takes e w _ 32 (l + k) begun.cell).1;
    }

    pub first_owned : (begun.first < length w.design.regs) × ((reg_at w.design.regs begun.first).owner ≡ Entry e)
    first_owned = let t = regs_open.front.there in (omega arith, ap (λ (row : RegRow). row.owner) regs_open.front.first)

    pub tags_owned : (begun.tags < length w.design.arrays) × ((array_at w.design.arrays begun.tags).owner ≡ Entry e)
    tags_owned = let t = arrays_open.there in (omega arith, ap (λ (row : ArrayRow). row.owner) arrays_open.tag)

    -- the least register of the entry is the first of the part
    pub first_is : (first : ℕ) → (reg_at w.design.regs first).owner ≡ Entry e → ((j : ℕ) → j < first → (reg_at w.design.regs j).owner ≡ Entry e → ⊥) → first ≡ begun.first
    first_is first own none =
        let from = (begun.regs first _ (part_reg takes e w first own)).0 in
        elim (cases_lt begun.first first) [
          | inl below ↦ absurd (none begun.first below first_owned.1)
          | inr above ↦ omega arith
        ]

    -- and its least array that of the tags
    pub tags_is : (tags : ℕ) → (array_at w.design.arrays tags).owner ≡ Entry e → ((j : ℕ) → j < tags → (array_at w.design.arrays j).owner ≡ Entry e → ⊥) → tags ≡ begun.tags
    tags_is tags own none =
        let from = (begun.arrays tags _ (part_array takes e w tags own)).0 in
        elim (cases_lt begun.tags tags) [
          | inl below ↦ absurd (none begun.tags below tags_owned.1)
          | inr above ↦ omega arith
        ]

    pub regs_at : (first : ℕ) → first ≡ begun.first → AreOpenRegs w.design e first l k reset_pc
    regs_at first is = subst (λ (j : ℕ). AreOpenRegs w.design e j l k reset_pc) (sym is) regs_open

    pub arrays_at : (tags : ℕ) → tags ≡ begun.tags → AreOpenArrays w.design e tags l k
    arrays_at tags is = subst (λ (j : ℕ). AreOpenArrays w.design e j l k) (sym is) arrays_open
