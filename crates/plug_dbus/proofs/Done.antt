-- An entry with such a part has driven all that it has to.
use Rattle.std.proofs.Common.{◌≡◌, ◌∙◌, ℕ, ◌+◌, [], ◌∷◌, ap, sym, refl, arith, Bool, true, false, cond, eqb, ◌&&◌, Option, None, inl, inr}
use Rattle.std.proofs.lemmas.Bool.{both_ways, and_parts, or_cases, cases_eq, eqb-true}
use Rattle.hw_pool.specs.Trees.{Tree}
use Rattle.hw_pool.specs.Meaning.{Env}
use Rattle.hw_expr.specs.declared.net.Net.{Net}
use Rattle.hw_module.specs.declared.rows.Owner.TheVariants.{Entry}
use Rattle.hw_module.specs.Rows.{reg_at, out_at}
use Rattle.service_reg.specs.declared.service.Service.{Service}
use Rattle.service_reg.specs.declared.service.Service.TheVariants.{Fetch, Exec, DataBus}
use Rattle.service_ports.specs.Ports.{Ports}
use Rattle.service_ports.proofs.Offers.{none_some}
use Rattle.plug_part.specs.Part.{PartReg, PortTrees}
use Rattle.plug_part.specs.Of.{part_of, tree_option}
use Rattle.plug_part.specs.Owned.{is_among, is_input_of, is_own_input, is_predict_input, is_fetch_out, is_bus_out, is_out_of, offers}
use Rattle.plug_part.specs.Things.{HasReg, IsDriven}
use Rattle.plug_build.specs.World.{World, part_in}
use Rattle.plug_build.specs.Done.{IsDone}
use Rattle.plug_build.proofs.Offers.{own_input_from}
use Rattle.plug_api.specs.Spec as spec
use Rattle.plug_kit.proofs.Rows.{some_eq, part_wire, part_reg, part_array, offer_in}
use Rattle.plug_dbus.specs.Builds.{BuildsDbus}

none_either : (b : Bool) → ◌≡◌ {A = Option Tree} (cond b None None) None
none_either true = refl
none_either false = refl

module _ (takes : Service → Bool) (e : ℕ) (w : World) (b : BuildsDbus (part_in takes e w)) where
  -- a register with its equation has a next value
  moved : (reg width : ℕ) (reset : Option ℕ) (next : Env → ℕ) → HasReg (part_in takes e w) reg width reset next → (k : ℕ) → k ≡ reg
      → (reg_at w.design.regs k).owner ≡ Entry e → (reg_at w.design.regs k).next ≡ None → ⊥
  moved reg width reset next has k at own none =
      let same = some_eq (sym has.is ∙ (ap (part_in takes e w).regs (sym at) ∙ part_reg takes e w k own)) in
      none_some has.row.next has.tree (ap (λ (r : PartReg). r.next) same ∙ ap (tree_option w.pool.nodes) none) has.next_is

  regs_moved : (k : ℕ) → (reg_at w.design.regs k).owner ≡ Entry e → (reg_at w.design.regs k).next ≡ None → ⊥
  regs_moved k own none =
      let there = b.regs k _ (part_reg takes e w k own) in
      elim (cases_eq k b.first) [
        | inl h ↦ moved b.first 1 _ _ b.given k h own none
        | inr n0 ↦ elim (cases_eq k (b.first + 1)) [
          | inl h ↦ moved (b.first + 1) 1 _ _ b.owed k h own none
          | inr n1 ↦ elim (cases_eq k (b.first + 2)) [
            | inl h ↦ moved (b.first + 2) 32 _ _ b.address k h own none
            | inr n2 ↦ elim (cases_eq k (b.first + 3)) [
              | inl h ↦ moved (b.first + 3) 1 _ _ b.writes k h own none
              | inr n3 ↦ elim (cases_eq k (b.first + 4)) [
                | inl h ↦ moved (b.first + 4) 32 _ _ b.payload k h own none
                | inr n4 ↦ moved (b.first + 5) 4 _ _ b.mask k (omega (arith, there.0, there.1, n0, n1, n2, n3, n4)) own none
              ]
            ]
          ]
        ]
      ]

  -- an output that is driven has a driver
  shown : (q : ℕ) (f : Env → ℕ) → IsDriven ((part_in takes e w).outs q) f → out_at w.design.outs q ≡ None → ⊥
  unfolding part_of
  shown q f d none =
      none_some _ d.tree (ap (λ (o : Option Net). cond (is_out_of w.reg e q) (tree_option w.pool.nodes o) None) none ∙ none_either (is_out_of w.reg e q)) d.is

  outs_shown : (q : ℕ) → is_bus_out q ≡ true → out_at w.design.outs q ≡ None → ⊥
  outs_shown q is none = elim (or_cases (eqb q 8) _ is) [
    | inl h ↦ shown 8 _ b.cmd_valid (at 8 h)
    | inr r ↦ elim (or_cases (eqb q 10) _ r) [
      | inl h ↦ shown 10 _ b.cmd_write (at 10 h)
      | inr r ↦ elim (or_cases (eqb q 11) _ r) [
        | inl h ↦ shown 11 _ b.cmd_addr (at 11 h)
        | inr r ↦ elim (or_cases (eqb q 12) (eqb q 13) r) [
          | inl h ↦ shown 12 _ b.cmd_data (at 12 h)
          | inr h ↦ shown 13 _ b.cmd_mask (at 13 h)
        ]
      ]
    ]
  ]
    where
      at : (n : ℕ) → eqb q n ≡ true → out_at w.design.outs n ≡ None
      at n h = ap (out_at w.design.outs) (sym (eqb-true q n h)) ∙ none

  pub dbus_is_done : ((s : Service) → offers w.reg e s ≡ spec.is_among (Exec ∷ DataBus ∷ []) s) → IsDone e w
  dbus_is_done offered = record {
    wires = λ k l own free none.
        let o = offer_in takes e w Exec b.ports b.exec in
        let among = b.wires k _ (part_wire takes e w k own) in
        both_ways (is_own_input w.reg e k) free
        (own_input_from w.reg e k Exec (ap (λ (q : Option Ports). is_input_of q k) o.1 ∙ (ap (λ (t : PortTrees). is_among k t.inputs) (sym o.2) ∙ among)));
    regs = λ k l own none. regs_moved k own none;
    arrays = λ k l own none. b.arrays k _ (part_array takes e w k own);
    outs = λ q is none. elim (or_cases (offers w.reg e Fetch && is_fetch_out q) (offers w.reg e DataBus && is_bus_out q) is) [
      | inl f ↦ both_ways (offers w.reg e Fetch) (offered Fetch) (and_parts (offers w.reg e Fetch) (is_fetch_out q) f).0
      | inr d ↦ outs_shown q (and_parts (offers w.reg e DataBus) (is_bus_out q) d).1 none
    ];
    drives = λ k is none. both_ways (offers w.reg e Fetch) (offered Fetch) (and_parts (offers w.reg e Fetch) (is_predict_input w.reg k) is).0;
  }
