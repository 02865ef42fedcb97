-- An entry with such a part has driven all that it has to.
use Rattle.std.proofs.Common.{◌≡◌, ◌∙◌, ℕ, ◌+◌, [], ◌∷◌, ap, sym, arith, Bool, true, ◌&&◌, Option, None, Some, inl, inr}
use Rattle.std.proofs.lemmas.Bool.{both_ways, and_parts, or_cases, cases_eq}
use Rattle.hw_pool.specs.Meaning.{Env}
use Rattle.hw_module.specs.declared.rows.Owner.TheVariants.{Entry}
use Rattle.hw_module.specs.Rows.{reg_at}
use Rattle.service_reg.specs.declared.service.Service.{Service}
use Rattle.service_reg.specs.declared.service.Service.TheVariants.{Fetch, Exec, DataBus, System}
use Rattle.service_ports.specs.Ports.{Ports}
use Rattle.service_ports.proofs.Offers.{none_some}
use Rattle.plug_part.specs.Part.{PartReg, PortTrees}
use Rattle.plug_part.specs.Of.{tree_option}
use Rattle.plug_part.specs.Owned.{is_among, is_input_of, is_own_input, is_predict_input, is_fetch_out, is_bus_out, offers}
use Rattle.plug_part.specs.Things.{HasReg}
use Rattle.plug_build.specs.World.{World, part_in}
use Rattle.plug_build.specs.Done.{IsDone}
use Rattle.plug_build.proofs.Offers.{own_input_from}
use Rattle.plug_api.specs.Spec as spec
use Rattle.plug_kit.proofs.Rows.{some_eq, part_wire, part_reg, part_array, offer_in}
use Rattle.plug_csr.specs.Builds.{BuildsCsr}

module _ (misa : ℕ) (takes : Service → Bool) (e : ℕ) (w : World) (b : BuildsCsr misa (part_in takes e w)) where
  -- a register with its equation has a next value
  moved : (reg width : ℕ) (reset : Option ℕ) (next : Env → ℕ) → HasReg (part_in takes e w) reg width reset next → (k : ℕ) → k ≡ reg
      → (reg_at w.design.regs k).owner ≡ Entry e → (reg_at w.design.regs k).next ≡ None → ⊥
  moved reg width reset next has k at own none =
      let same = some_eq (sym has.is ∙ (ap (part_in takes e w).regs (sym at) ∙ part_reg takes e w k own)) in
      none_some has.row.next has.tree (ap (λ (r : PartReg). r.next) same ∙ ap (tree_option w.pool.nodes) none) has.next_is

  regs_moved : (k : ℕ) → (reg_at w.design.regs k).owner ≡ Entry e → (reg_at w.design.regs k).next ≡ None → ⊥
  regs_moved k own none =
      let there = b.regs k _ (part_reg takes e w k own) in
      elim (cases_eq k b.first) [
        | inl h ↦ moved b.first 1 _ _ b.on k h own none
        | inr n0 ↦
            elim (cases_eq k (b.first + 1)) [
              | inl h ↦ moved (b.first + 1) 1 _ _ b.was k h own none
              | inr n1 ↦
                  elim (cases_eq k (b.first + 2)) [
                    | inl h ↦ moved (b.first + 2) 1 _ _ b.soft k h own none
                    | inr n2 ↦
                        elim (cases_eq k (b.first + 3)) [
                          | inl h ↦ moved (b.first + 3) 1 _ _ b.timer k h own none
                          | inr n3 ↦
                              elim (cases_eq k (b.first + 4)) [
                                | inl h ↦ moved (b.first + 4) 1 _ _ b.outer k h own none
                                | inr n4 ↦
                                    elim (cases_eq k (b.first + 5)) [
                                      | inl h ↦ moved (b.first + 5) 30 _ _ b.tvec k h own none
                                      | inr n5 ↦
                                          elim (cases_eq k (b.first + 6)) [
                                            | inl h ↦ moved (b.first + 6) 30 _ _ b.epc k h own none
                                            | inr n6 ↦
                                                elim (cases_eq k (b.first + 7)) [
                                                  | inl h ↦ moved (b.first + 7) 32 _ _ b.scratch k h own none
                                                  | inr n7 ↦
                                                      elim (cases_eq k (b.first + 8)) [
                                                        | inl h ↦ moved (b.first + 8) 32 _ _ b.cause k h own none
                                                        | inr n8 ↦ moved (b.first + 9) 32 _ _ b.tval k (omega (arith, there.0, there.1, n0, n1, n2, n3, n4, n5, n6, n7, n8)) own none
                                                      ]
                                                ]
                                          ]
                                    ]
                              ]
                        ]
                  ]
            ]
      ]

  -- an input of a service that it offers is its own input
  own_input : (s : Service) (t : PortTrees) → (part_in takes e w).offers s ≡ Some t → (k : ℕ) → is_among k t.inputs ≡ true → is_own_input w.reg e k ≡ true
  own_input s t offered k among =
      let o = offer_in takes e w s t offered in
      own_input_from w.reg e k s (ap (λ (q : Option Ports). is_input_of q k) o.1 ∙ (ap (λ (q : PortTrees). is_among k q.inputs) (sym o.2) ∙ among))

  pub csr_is_done : ((s : Service) → offers w.reg e s ≡ spec.is_among (Exec ∷ System ∷ []) s) → IsDone e w
  csr_is_done offered = record {
    wires = λ k l own free none. elim (or_cases (is_among k b.ports.inputs) (is_among k b.told.inputs) (b.wires k _ (part_wire takes e w k own))) [
      | inl x ↦ both_ways (is_own_input w.reg e k) free (own_input Exec b.ports b.exec k x)
      | inr y ↦ both_ways (is_own_input w.reg e k) free (own_input System b.told b.system k y)
    ];
    regs = λ k l own none. regs_moved k own none;
    arrays = λ k l own none. b.arrays k _ (part_array takes e w k own);
    outs = λ q is none. elim (or_cases (offers w.reg e Fetch && is_fetch_out q) (offers w.reg e DataBus && is_bus_out q) is) [
      | inl f ↦ both_ways (offers w.reg e Fetch) (offered Fetch) (and_parts (offers w.reg e Fetch) (is_fetch_out q) f).0
      | inr d ↦ both_ways (offers w.reg e DataBus) (offered DataBus) (and_parts (offers w.reg e DataBus) (is_bus_out q) d).0
    ];
    drives = λ k is none. both_ways (offers w.reg e Fetch) (offered Fetch) (and_parts (offers w.reg e Fetch) (is_predict_input w.reg k) is).0;
  }
