-- An entry with one service, and a unit without state.
use Rattle.std.proofs.Common.{◌≡◌, ◌∙◌, ℕ, ◌+◌, ◌≤◌, List, map, ap, sym, subst, Bool, true, false, ◌&&◌, Option, Some, inl, inr, refl, None}
use Rattle.std.proofs.lemmas.Bool.{both_ways, and_parts, or_cases}
use Rattle.hw_module.specs.declared.rows.Owner.TheVariants.{Entry}
use Rattle.hw_module.specs.declared.rows.WireRow.{WireRow}
use Rattle.hw_module.specs.declared.rows.RegRow.{RegRow}
use Rattle.hw_module.specs.declared.rows.ArrayRow.{ArrayRow}
use Rattle.hw_module.specs.Rows.{ModuleValue, wire_at, reg_at, array_at}
use Rattle.hw_module.specs.Rights.{Rights}
use Rattle.service_reg.specs.declared.service.Service.{Service}
use Rattle.service_reg.specs.declared.service.Service.TheVariants.{Fetch, Exec, DataBus}
use Rattle.service_ports.specs.declared.ports.ExecPorts.{ExecPorts}
use Rattle.service_ports.specs.Ports.{Ports, exec_ports, input_shapes}
use Rattle.service_ports.specs.Registry.{offer_of, single}
use Rattle.plug_part.specs.Part.{PartWire, PartReg, PartArray, PortTrees}
use Rattle.plug_part.specs.Owned.{is_among, is_input_of, is_own_input, is_predict_input, is_fetch_out, is_bus_out, offers}
use Rattle.plug_part.specs.Of.{net_tree, tree_option, write_trees}
use Rattle.plug_build.specs.World.{World, Builds, part_in}
use Rattle.plug_build.specs.Fits.{AreApart, AreInputs, AreNew, WorldFits}
use Rattle.plug_build.specs.Done.{AreOpen, IsDone}
use Rattle.plug_build.proofs.Offers.{input_of_some, own_input_from, among_inputs}
use Rattle.plug_build.proofs.Apart.{later_new}
use Rattle.plug_build.proofs.Worlds.{cases_service, world_fits, exec_fits, builds_of}
use Rattle.plug_kit.specs.declared.inputs.ExecInputs.{ExecInputs}
use Rattle.plug_kit.specs.Made.{exec_list}
use Rattle.plug_kit.specs.Unit.{IsOffered, IsUnit}
use Rattle.plug_kit.proofs.Steps.{inputs_only, inputs_bare}
use Rattle.plug_kit.proofs.Rows.{part_offer, part_wire, part_reg, part_array, wire_in, reg_in, array_in, offer_in}

no-rights : Rights
no-rights = record { wires = λ k. false; locked = λ k. false; outs = λ k. false }

-- ---- an entry with one service

module _ (s : Service) (e : ℕ) (old new : World) (mid : ModuleValue) (ws : List ℕ) (p : Ports) (u : IsOffered s e old new mid ws p) where
  pub own_offer : offer_of new.reg e s ≡ Some p
  own_offer = u.offers.own (u.nothing.offers s)

  pub no_other : (t : Service) → (t ≡ s → ⊥) → offer_of new.reg e t ≡ None
  no_other t other = u.offers.others e t other ∙ u.nothing.offers t

  input-among : (k : ℕ) (t : Service) → is_input_of (offer_of new.reg e t) k ≡ true → is_among k ws ≡ true
  input-among k t is = elim (cases_service t s) [
    | inl same ↦ ap (is_among k) (sym u.inputs) ∙ sym (ap (λ (o : Option Ports). is_input_of o k) (ap (offer_of new.reg e) same ∙ own_offer)) ∙ is
    | inr other ↦ absurd (both_ways (is_input_of (offer_of new.reg e t) k) (ap (λ (o : Option Ports). is_input_of o k) (no_other t other)) is)
  ]

  pub offered_open : AreOpen e new
  offered_open k is =
      let h = input_of_some new.reg e k is in
      let among = input-among k h.0 h.1 in
      ap (λ (rows : List WireRow). (wire_at rows k).driver) u.wires
      ∙ inputs_bare e old.design mid ws (input_shapes s) u.made k (among_inputs mid new.pool e ws (input_shapes s) k u.made.inputs among).0 among

  -- its inputs are different forward wires, and inputs of no other offer
  pub offered_apart : AreApart p.inputs
  offered_apart = subst AreApart (sym u.inputs) u.made.apart

  pub offered_new : WorldFits old → AreNew old.reg p.inputs
  offered_new fits = subst (AreNew old.reg) (sym u.inputs) (later_new old.design old.pool old.reg fits.offers ws u.made.fresh)

  module _ (takes : (t : Service) → Bool) where
    pub offered_in : (part_in takes e new).offers s ≡ Some (record { inputs = p.inputs; outputs = map (net_tree new.pool.nodes) p.outputs })
    offered_in = part_offer takes e new s (Some p) own_offer

    pub offered_wires : (k : ℕ) (row : PartWire) → (part_in takes e new).wires k ≡ Some row → is_among k p.inputs ≡ true
    offered_wires k row h = ap (is_among k) u.inputs
        ∙ (inputs_only e old.design mid ws (input_shapes s) u.made u.nothing.wires k (ap (λ (rows : List WireRow). (wire_at rows k).owner) (sym u.wires) ∙ wire_in takes e new k row h)).1

-- an entry that has driven what it has but for the inputs of its one service, and drives no output of the core, is done
pub offered_done : (takes : Service → Bool) (s : Service) (e : ℕ) (w : World) (ports : PortTrees) → (part_in takes e w).offers s ≡ Some ports
    → ((k : ℕ) (row : PartWire) → (part_in takes e w).wires k ≡ Some row → is_among k ports.inputs ≡ true)
    → ((k : ℕ) (row : PartReg) → (part_in takes e w).regs k ≡ Some row → row.next ≡ None → ⊥)
    → ((k : ℕ) (row : PartArray) → (part_in takes e w).arrays k ≡ Some row → row.write ≡ None → ⊥)
    → offers w.reg e Fetch ≡ false → offers w.reg e DataBus ≡ false → IsDone e w
offered_done takes s e w ports offered wires regs arrays fetch bus = record {
  wires = λ k l own free none.
      let o = offer_in takes e w s ports offered in
      let among = wires k _ (part_wire takes e w k own) in
      both_ways (is_own_input w.reg e k) free
      (own_input_from w.reg e k s (ap (λ (q : Option Ports). is_input_of q k) o.1 ∙ (ap (λ (t : PortTrees). is_among k t.inputs) (sym o.2) ∙ among)));
  regs = λ k l own none. regs k _ (part_reg takes e w k own) (ap (tree_option w.pool.nodes) none);
  arrays = λ k l own none. arrays k _ (part_array takes e w k own) (ap (write_trees w.pool.nodes) none);
  outs = λ p is none. elim (or_cases (offers w.reg e Fetch && is_fetch_out p) (offers w.reg e DataBus && is_bus_out p) is) [
    | inl f ↦ both_ways (offers w.reg e Fetch) fetch (and_parts (offers w.reg e Fetch) (is_fetch_out p) f).0
    | inr b ↦ both_ways (offers w.reg e DataBus) bus (and_parts (offers w.reg e DataBus) (is_bus_out p) b).0
  ];
  drives = λ k is none. both_ways (offers w.reg e Fetch) fetch (and_parts (offers w.reg e Fetch) (is_predict_input w.reg k) is).0;
}

-- ---- a unit without state

module _ (e n : ℕ) (old new : World) (w : ExecInputs) (p : ExecPorts) (u : IsUnit e n old new w p) where
  pub unit_offered : IsOffered Exec e old new new.design (exec_list w) (exec_ports p)
  unit_offered = record { nothing = u.nothing; made = u.made; wires = refl; inputs = u.inputs; offers = u.offers }

  unit-inputs : AreInputs new.design e (exec_ports p).inputs (input_shapes Exec)
  unit-inputs = subst (λ (ws : List ℕ). AreInputs new.design e ws (input_shapes Exec)) (sym u.inputs) u.made.inputs

  unit-apart : AreApart (exec_ports p).inputs
  unit-apart = offered_apart Exec e old new new.design (exec_list w) (exec_ports p) unit_offered

  unit-new : AreNew old.reg (exec_ports p).inputs
  unit-new = offered_new Exec e old new new.design (exec_list w) (exec_ports p) unit_offered u.fits

  singles : (s : Service) → single new.reg s ≡ single old.reg s
  singles s = elim (cases_service s Exec) [
    | inl same ↦ ap (single new.reg) same ∙ ap (single old.reg) (sym same)
    | inr other ↦ u.offers.singles s other
  ]

  pub unit_fits : WorldFits new
  unit_fits =
      world_fits old new n 7 u.fits u.adds (u.made.makes no-rights).grows (u.made.drivers new.pool)
      (λ f. exec_fits new.design new.pool old.reg new.reg f (record { by = e; ports = p }) singles u.execs (record { inputs = unit-inputs; outputs = u.outputs; apart = unit-apart })
      (u.nothing.offers Exec) unit-new)

  pub unit_builds : (r : Rights) (most : ℕ) → n + 7 ≤ most → Builds (Entry e) r most old new
  unit_builds r most sum = builds_of (Entry e) r most n 7 old new u.adds (u.made.makes r) sum

  pub unit_open : AreOpen e new
  unit_open = offered_open Exec e old new new.design (exec_list w) (exec_ports p) unit_offered

  module _ (takes : (s : Service) → Bool) where
    pub unit_offer : (part_in takes e new).offers Exec ≡ Some (record { inputs = (exec_ports p).inputs; outputs = map (net_tree new.pool.nodes) (exec_ports p).outputs })
    unit_offer = offered_in Exec e old new new.design (exec_list w) (exec_ports p) unit_offered takes

    pub unit_wires : (k : ℕ) (row : PartWire) → (part_in takes e new).wires k ≡ Some row → is_among k (exec_ports p).inputs ≡ true
    unit_wires = offered_wires Exec e old new new.design (exec_list w) (exec_ports p) unit_offered takes

    pub unit_regs : (k : ℕ) (row : PartReg) → (part_in takes e new).regs k ≡ Some row → ⊥
    unit_regs k row h = u.nothing.regs k (ap (λ (rs : List RegRow). (reg_at rs k).owner) (sym u.made.regs) ∙ (reg_in takes e new k row h).0)

    pub unit_arrays : (k : ℕ) (row : PartArray) → (part_in takes e new).arrays k ≡ Some row → ⊥
    unit_arrays k row h = u.nothing.arrays k (ap (λ (rs : List ArrayRow). (array_at rs k).owner) (sym u.made.arrays) ∙ (array_in takes e new k row h).0)
