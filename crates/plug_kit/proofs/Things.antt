-- Things that are made in the first call of an entry and driven in the second.
use Rattle.std.proofs.Common.{◌≡◌, ◌∙◌, ℕ, ◌+◌, ◌<◌, List, length, arith, ap, sym, Bool, Option, None, Some, inl, inr, refl}
use Rattle.std.proofs.lemmas.Bool.{cases_lt}
use Rattle.std.proofs.lemmas.List.{get_or_past}
use Rattle.hw_pool.specs.declared.node.Node.{Node}
use Rattle.hw_expr.specs.declared.net.Net.{Net}
use Rattle.hw_module.specs.declared.rows.Owner.TheVariants.{Pipe, Entry}
use Rattle.hw_module.specs.declared.rows.RegRow.{RegRow}
use Rattle.hw_module.specs.declared.rows.ArrayRow.{ArrayRow}
use Rattle.hw_module.specs.declared.rows.ArrayWrite.{ArrayWrite}
use Rattle.hw_module.specs.Rows.{ModuleValue, reg_at, array_at}
use Rattle.service_reg.specs.declared.service.Service.{Service}
use Rattle.service_ports.specs.Ports.{Ports}
use Rattle.service_ports.specs.Registry.{Offered, offered_as}
use Rattle.service_ports.proofs.Offers.{none_some}
use Rattle.plug_part.specs.Part.{PartReg, PartArray}
use Rattle.plug_part.specs.Of.{tree_option, write_trees}
use Rattle.plug_build.specs.World.{World, part_in}
use Rattle.plug_kit.proofs.Rows.{some_eq, reg_in, array_in}

-- in what was made, the register or array that is new is the only one of an entry that had none
pub only_new_reg : (by number : ℕ) (old new : ModuleValue) → number ≡ length old.regs → length new.regs ≡ length old.regs + 1 → ((k : ℕ) → k < length old.regs → reg_at new.regs k ≡ reg_at old.regs k)
    → ((k : ℕ) → (reg_at old.regs k).owner ≡ Entry by → ⊥) → (k : ℕ) → (reg_at new.regs k).owner ≡ Entry by → k ≡ number
only_new_reg by number old new at count before none k own = elim (cases_lt k (length new.regs)) [
  | inr past ↦ absurd (let e : Pipe ≡ Entry by = sym (ap (λ (row : RegRow). row.owner) (get_or_past new.regs k _ past)) ∙ own in cc)
  | inl there ↦ elim (cases_lt k (length old.regs)) [
    | inl l ↦ absurd (none k (sym (ap (λ (row : RegRow). row.owner) (before k l)) ∙ own))
    | inr ge ↦ omega arith
  ]
]

pub only_new_array : (by number : ℕ) (old new : ModuleValue) → number ≡ length old.arrays → length new.arrays ≡ length old.arrays + 1 → ((k : ℕ) → k < length old.arrays → array_at new.arrays k ≡ array_at old.arrays k)
    → ((k : ℕ) → (array_at old.arrays k).owner ≡ Entry by → ⊥) → (k : ℕ) → (array_at new.arrays k).owner ≡ Entry by → k ≡ number
only_new_array by number old new at count before none k own = elim (cases_lt k (length new.arrays)) [
  | inr past ↦ absurd (let e : Pipe ≡ Entry by = sym (ap (λ (row : ArrayRow). row.owner) (get_or_past new.arrays k _ past)) ∙ own in cc)
  | inl there ↦ elim (cases_lt k (length old.arrays)) [
    | inl l ↦ absurd (none k (sym (ap (λ (row : ArrayRow). row.owner) (before k l)) ∙ own))
    | inr ge ↦ omega arith
  ]
]

-- ---- from the part back to the rows

-- a tree is none where there is no net
pub no_net : (nodes : List Node) (o : Option Net) → tree_option nodes o ≡ None → o ≡ None
no_net nodes None e = refl
no_net nodes (Some net) e = absurd (none_some _ _ e refl)

pub no_write : (nodes : List Node) (o : Option ArrayWrite) → write_trees nodes o ≡ None → o ≡ None
no_write nodes None e = refl
no_write nodes (Some w) e = absurd (none_some _ _ e refl)

module _ (takes : Service → Bool) (e : ℕ) (w : World) where
  there-reg : (k : ℕ) → (reg_at w.design.regs k).owner ≡ Entry e → k < length w.design.regs
  there-reg k own = elim (cases_lt k (length w.design.regs)) [
    | inl l ↦ l
    | inr past ↦ absurd (let n : Pipe ≡ Entry e = sym (ap (λ (row : RegRow). row.owner) (get_or_past w.design.regs k _ past)) ∙ own in cc)
  ]

  there-array : (k : ℕ) → (array_at w.design.arrays k).owner ≡ Entry e → k < length w.design.arrays
  there-array k own = elim (cases_lt k (length w.design.arrays)) [
    | inl l ↦ l
    | inr past ↦ absurd (let n : Pipe ≡ Entry e = sym (ap (λ (row : ArrayRow). row.owner) (get_or_past w.design.arrays k _ past)) ∙ own in cc)
  ]

  -- an undriven register of the part is one of the module
  pub open_reg : (k width : ℕ) (reset : Option ℕ) → (part_in takes e w).regs k ≡ Some (record { width = width; reset = reset; next = None })
      → (k < length w.design.regs) × (reg_at w.design.regs k ≡ record { owner = Entry e; width = width; reset = reset; next = None })
  open_reg k width reset is =
      let h = reg_in takes e w k _ is in
      let own = h.0 in
      let row = reg_at w.design.regs k in
      let wide : row.width ≡ width = ap (λ (r : PartReg). r.width) h.1 in
      let start : row.reset ≡ reset = ap (λ (r : PartReg). r.reset) h.1 in
      let none : row.next ≡ None = no_net w.pool.nodes row.next (ap (λ (r : PartReg). r.next) h.1) in
      (there-reg k own, λ i. record { owner = own i; width = wide i; reset = start i; next = none i })

  -- so is an undriven array
  pub open_array : (k width bits : ℕ) → (part_in takes e w).arrays k ≡ Some (record { width = width; bits = bits; write = None })
      → (k < length w.design.arrays) × (array_at w.design.arrays k ≡ record { owner = Entry e; width = width; bits = bits; write = None })
  open_array k width bits is =
      let h = array_in takes e w k _ is in
      let own = h.0 in
      let row = array_at w.design.arrays k in
      let wide : row.width ≡ width = ap (λ (r : PartArray). r.width) h.1 in
      let many : row.bits ≡ bits = ap (λ (r : PartArray). r.bits) h.1 in
      let none : row.write ≡ None = no_write w.pool.nodes row.write (ap (λ (r : PartArray). r.write) h.1) in
      (there-array k own, λ i. record { owner = own i; width = wide i; bits = many i; write = none i })

-- the typed ports of an offer
pub typed : {A : Type 0} (f : A → Ports) (e : ℕ) (o : Option (ℕ × A)) (p : Ports) → offered_as f o ≡ Some (record { by = e; ports = p }) → (q : A) × (o ≡ Some (e, q)) × (f q ≡ p)
typed f e None p h = absurd (none_some None _ refl h)
typed f e (Some o) p h =
    let same = some_eq h in
    (o.1, (λ i. Some ((same i).by, o.1)), ap (λ (x : Offered). x.ports) same)
