-- An entry with one service and other forward wires, and a service that one entry alone offers.
use Rattle.std.proofs.Common.{◌≡◌, ◌∙◌, ℕ, ◌<◌, ◌≤◌, List, map, ap, sym, Bool, true, false, eqb, cond, Option, Some, None, inl, inr, refl, length}
use Rattle.std.proofs.lemmas.Bool.{both_ways, eq-eqb, cases_Bool, cases_lt}
use Rattle.std.proofs.lemmas.List.{get_or_past}
use Rattle.hw_pool.specs.Frame.{Adds}
use Rattle.hw_module.specs.declared.rows.Owner.TheVariants.{Pipe, Entry}
use Rattle.hw_module.specs.declared.rows.WireRow.{WireRow}
use Rattle.hw_module.specs.Rows.{ModuleValue, wire_at}
use Rattle.hw_module.specs.Frame.{Grows}
use Rattle.hw_module.specs.Checked.{DriversFit}
use Rattle.service_reg.specs.declared.service.Service.{Service}
use Rattle.service_reg.specs.Services.{number}
use Rattle.service_ports.specs.Ports.{Ports, input_shapes, output_widths, output_level}
use Rattle.service_ports.specs.Registry.{AddsOffer, offer_of, single}
use Rattle.service_ports.proofs.Offers.{none_some}
use Rattle.plug_part.specs.Part.{PartWire, PortTrees}
use Rattle.plug_part.specs.Owned.{is_among, is_input_of, is_own_input}
use Rattle.plug_part.specs.Of.{net_tree, tree_option}
use Rattle.plug_part.specs.Things.{HasWire}
use Rattle.plug_part.specs.Alone.{OffersOnly}
use Rattle.plug_build.specs.World.{World, part_in}
use Rattle.plug_build.specs.Fits.{AreApart, AreInputs, AreOutputs, WorldFits}
use Rattle.plug_build.specs.Done.{AreOpen}
use Rattle.plug_build.proofs.Offers.{input_of_some, among_inputs}
use Rattle.plug_build.proofs.Apart.{later_new}
use Rattle.plug_build.proofs.Worlds.{cases_service, offered_fits, world_fits}
use Rattle.plug_kit.specs.Unit.{IsOfferedAmong}
use Rattle.plug_kit.proofs.Bare.{differs}
use Rattle.plug_kit.proofs.Rows.{some_eq, offer_in, part_offer, part_wire, wire_in}
use Rattle.plug_kit.proofs.Things.{no_net}
use Rattle.plug_kit.proofs.Steps.{inputs_bare}

module _ (s : Service) (e : ℕ) (old new : World) (base mid : ModuleValue) (ws : List ℕ) (p : Ports) (u : IsOfferedAmong s e old new base mid ws p) where
  own-offer : offer_of new.reg e s ≡ Some p
  own-offer = u.offers.own (u.nothing s)

  no-other : (t : Service) → (t ≡ s → ⊥) → offer_of new.reg e t ≡ None
  no-other t other = u.offers.others e t other ∙ u.nothing t

  input-among : (k : ℕ) (t : Service) → is_input_of (offer_of new.reg e t) k ≡ true → is_among k ws ≡ true
  input-among k t is = elim (cases_service t s) [
    | inl same ↦ ap (is_among k) (sym u.inputs) ∙ sym (ap (λ (o : Option Ports). is_input_of o k) (ap (offer_of new.reg e) same ∙ own-offer)) ∙ is
    | inr other ↦ absurd (both_ways (is_input_of (offer_of new.reg e t) k) (ap (λ (o : Option Ports). is_input_of o k) (no-other t other)) is)
  ]

  pub among_open : AreOpen e new
  among_open k is =
      let h = input_of_some new.reg e k is in
      let among = input-among k h.0 h.1 in
      let there = (among_inputs mid new.pool e ws (input_shapes s) k u.made.inputs among).0 in
      ap (λ (r : WireRow). r.driver) (u.wires k there) ∙ inputs_bare e base mid ws (input_shapes s) u.made k there among

  pub among_only : (takes : Service → Bool) → OffersOnly (part_in takes e new) s (record { inputs = p.inputs; outputs = map (net_tree new.pool.nodes) p.outputs })
  among_only takes = record {
    is = part_offer takes e new s (Some p) own-offer;
    none = λ t other. part_offer takes e new t None (no-other t (λ same. both_ways (eqb (number t) (number s)) other (eq-eqb (number t) (number s) (ap number same))));
  }

  -- what is no input has its driver in the part
  pub among_free : (k : ℕ) → is_among k ws ≡ false → is_own_input new.reg e k ≡ false
  among_free k apart = elim (cases_Bool (is_own_input new.reg e k)) [
    | inl is ↦ let h = input_of_some new.reg e k is in absurd (both_ways (is_among k ws) apart (input-among k h.0 h.1))
    | inr free ↦ free
  ]

-- where an entry offers one service alone, a forward wire that is none of its inputs is no input
pub only_free : (takes : Service → Bool) (s : Service) (e : ℕ) (w : World) (ports : PortTrees) → OffersOnly (part_in takes e w) s ports → (k : ℕ) → is_among k ports.inputs ≡ false
    → is_own_input w.reg e k ≡ false
only_free takes s e w ports only k apart = elim (cases_Bool (is_own_input w.reg e k)) [
  | inl is ↦ let h = input_of_some w.reg e k is in absurd (by-service h.0 h.1)
  | inr free ↦ free
]
  where
    other-offer : (t : Service) (o : Option Ports) → offer_of w.reg e t ≡ o → is_input_of o k ≡ true → (t ≡ s → ⊥) → ⊥
    other-offer t None at is other = both_ways false refl is
    other-offer t (Some q) at is other = none_some _ _ (only.none t (differs t s other)) (part_offer takes e w t (Some q) at)

    by-service : (t : Service) → is_input_of (offer_of w.reg e t) k ≡ true → ⊥
    by-service t is = elim (cases_service t s) [
      | inl same ↦
          let o = offer_in takes e w s ports only.is in
          both_ways (is_among k ports.inputs) apart
          (ap (λ (q : PortTrees). is_among k q.inputs) o.2 ∙ (sym (ap (λ (q : Option Ports). is_input_of q k) (ap (offer_of w.reg e) same ∙ o.1)) ∙ is))
      | inr other ↦ other-offer t (offer_of w.reg e t) refl is other
    ]

-- a world fits in which an entry offered what it alone may
pub single_fits : (s : Service) (e n m : ℕ) (old new : World) (p : Ports) → WorldFits old → Adds old.pool new.pool n → Grows old.design new.design m
    → (DriversFit old.design new.pool → DriversFit new.design new.pool) → AddsOffer s e p old.reg new.reg → single new.reg s ≡ Some (record { by = e; ports = p })
    → new.reg.execs ≡ old.reg.execs → AreInputs new.design e p.inputs (input_shapes s) → AreOutputs new.design new.pool (output_level s) p.outputs (output_widths s)
    → AreApart p.inputs → ((k : ℕ) → is_among k p.inputs ≡ true → length old.design.wires ≤ k) → WorldFits new
single_fits s e n m old new p fits adds grows drivers offers is execs inputs outputs apart fresh =
    world_fits old new n m fits adds grows drivers
    (λ f. offered_fits new.design new.pool old.reg new.reg f s (record { by = e; ports = p }) is offers.singles execs (record { inputs = inputs; outputs = outputs; apart = apart })
    (later_new old.design old.pool old.reg fits.offers p.inputs fresh))

-- a forward wire of the part is there while the module grows
pub wire_stays : (takes : Service → Bool) (e n : ℕ) (old new : World) → Grows old.design new.design n → (k width : ℕ) → HasWire (part_in takes e old) k width → k < length old.design.wires
    → HasWire (part_in takes e new) k width
wire_stays takes e n old new grows k width has there =
    let own = wire_in takes e old k has.row has.is in
    let stays = grows.wires k there in
    let same : (wire_at old.design.wires k).width ≡ has.row.width = ap (λ (r : PartWire). r.width) (some_eq (sym (part_wire takes e old k own) ∙ has.is)) in
    record { row = _; is = part_wire takes e new k (stays.owner ∙ own); wide = stays.width ∙ same ∙ has.wide }

module _ (takes : Service → Bool) (e : ℕ) (w : World) where
  -- an undriven forward wire of the part that is no input is one of the module
  pub open_wire : (k width level : ℕ) → is_own_input w.reg e k ≡ false → (part_in takes e w).wires k ≡ Some (record { width = width; level = level; driver = None })
      → (k < length w.design.wires) × (wire_at w.design.wires k ≡ record { owner = Entry e; width = width; level = level; driver = None })
  open_wire k width level free is =
      let own = wire_in takes e w k _ is in
      let row = wire_at w.design.wires k in
      let same = some_eq (sym (part_wire takes e w k own) ∙ is) in
      let wide : row.width ≡ width = ap (λ (r : PartWire). r.width) same in
      let high : row.level ≡ level = ap (λ (r : PartWire). r.level) same in
      let tree : tree_option w.pool.nodes row.driver ≡ None = sym (ap (λ b. cond b None (tree_option w.pool.nodes row.driver)) free) ∙ ap (λ (r : PartWire). r.driver) same in
      let none : row.driver ≡ None = no_net w.pool.nodes row.driver tree in
      (there-wire k own, λ i. record { owner = own i; width = wide i; level = high i; driver = none i })
    where
      there-wire : (j : ℕ) → (wire_at w.design.wires j).owner ≡ Entry e → j < length w.design.wires
      there-wire j own = elim (cases_lt j (length w.design.wires)) [
        | inl l ↦ l
        | inr past ↦ absurd (let n : Pipe ≡ Entry e = sym (ap (λ (row : WireRow). row.owner) (get_or_past w.design.wires j _ past)) ∙ own in cc)
      ]
