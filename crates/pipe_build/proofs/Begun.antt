-- The pipeline's phase: what holds behind each of its steps.
use Rattle.std.proofs.Common.{◌≡◌, ◌∙◌, ℕ, zero, suc, ◌+◌, ◌*◌, ◌<◌, List, [], ◌∷◌, length, get_or, arith, ap, refl, subst, sym, Bool, false, true, Option, None, Some, is_some, inl, inr}
use Rattle.std.proofs.lemmas.Bool.{both_ways, eq-eqb, false_from_ne_true, or_cases, or_left, or_right}
use Rattle.hw_pool.specs.declared.node.Node.{Node}
use Rattle.hw_pool.specs.Nodes.{PoolValue}
use Rattle.hw_pool.specs.Trees.{tree_of}
use Rattle.hw_pool.proofs.Frames.{adds_nothing}
use Rattle.hw_module.specs.declared.rows.Owner.TheVariants.{Entry}
use Rattle.hw_module.specs.declared.rows.RegRow.{RegRow}
use Rattle.hw_module.specs.declared.rows.WireRow.{WireRow}
use Rattle.hw_module.specs.Frame.{Grows}
use Rattle.hw_module.specs.Rights.{Rights}
use Rattle.hw_module.specs.Rows.{ModuleValue, reg_at, wire_at}
use Rattle.hw_module.specs.Scope.{scope_of}
use Rattle.service_reg.specs.declared.service.Service.{Service}
use Rattle.service_reg.specs.declared.service.Service.TheVariants.{Decoder, Exec, Fetch, Hazard, RegFile, System}
use Rattle.service_ports.specs.declared.ports.ExecOffer.{ExecOffer}
use Rattle.service_ports.specs.Ports.{decoder_ports, exec_ports, fetch_ports, hazard_ports, input_shapes}
use Rattle.service_ports.specs.Registry.{Offered, RegistryValue, single}
use Rattle.service_ports.specs.Registry as registry
use Rattle.plug_law.specs.Pipeline.{Shape}
use Rattle.plug_part.specs.Owned.{is_among, is_input_of, ports_of}
use Rattle.plug_build.specs.Fits.{OfferFits, WorldFits, exec_at}
use Rattle.plug_build.specs.Fits.OfferKey.{ExecAt}
use Rattle.plug_build.proofs.Frame.{some_eq}
use Rattle.plug_build.proofs.Offers.{among_inputs}
use Rattle.plug_build.proofs.Worlds.{world_fits}
use Rattle.part_laws.specs.Registered.{services_of, trees_or_none}
use Rattle.pipe_drive.specs.Rights.{is_exec_input, is_left_input}
use Rattle.pipe_drive.specs.Rows.{IsMade, bare_reg}
use Rattle.pipe_drive.proofs.Found.{chosen_found}
use Rattle.pipe_steps.specs.Numbers.{things_from}
use Rattle.pipe_build.specs.declared.nets.Offers.{Offers}
use Rattle.pipe_build.specs.AllNets.{AreOffers, SystemIs}
use Rattle.pipe_build.specs.Made.{IsWire}
use Rattle.pipe_build.specs.Ready.{AreOffered, IsReady, world_with}
use Rattle.pipe_build.specs.Undriven.{AreFree, AreUndriven, IsUndriven}
use Rattle.pipe_build.specs.UnitOuts.{AreExecs}
use Rattle.pipe_build.proofs.CanRest.{left_beside, left_own}
use Rattle.pipe_build.proofs.Outputs.{decoder_is, execs_are, fetch_is, hazard_is, system_is}

pub offered_by : {A : Type 0} (o : Option (ℕ × A)) (x : A) → registry.ports_in o ≡ Some x → (by : ℕ) × (o ≡ Some (by, x))
offered_by None x e = absurd (let n : ◌≡◌ {A = Option _} None (Some x) = e in cc)
offered_by {A} (Some y) x e =
    let same : y.1 ≡ x = some_eq e in
    (y.0, ap (λ (z : A). Some (y.0, z)) same)

-- an input of one of some offers of Exec, by its place
exec_index : (k : ℕ) (os : List ExecOffer) → is_exec_input os k ≡ true → (i : ℕ) × (is_input_of (exec_at os i) k ≡ true)
exec_index k [] is = absurd (both_ways false refl is)
exec_index k (o ∷ os) is = elim (or_cases (is_among k (exec_ports o.ports).inputs) (is_exec_input os k) is) [
  | inl here ↦ (0, here)
  | inr later ↦ let x = exec_index k os later in (suc x.0, x.1)
]

exec_among : (k : ℕ) (os : List ExecOffer) (j : ℕ) (o : ExecOffer) → j < length os → get_or os j o ≡ o → is_among k (exec_ports o.ports).inputs ≡ true → is_exec_input os k ≡ true
exec_among k [] j o l e is = absurd (omega arith)
exec_among k (q ∷ os) zero o l e is = or_left _ _ (ap (λ (x : ExecOffer). is_among k (exec_ports x.ports).inputs) e ∙ is)
exec_among k (q ∷ os) (suc j) o l e is = or_right _ _ (exec_among k os j o (omega arith) e is)

free_of : (m : ModuleValue) (ws : List ℕ) → ((k : ℕ) → is_among k ws ≡ true → (wire_at m.wires k).driver ≡ None) → AreFree m ws
free_of m [] each = tt
free_of m (w ∷ ws) each = (each w (or_left _ _ (eq-eqb w w refl)), free_of m ws (λ k is. each k (or_right _ _ is)))

-- the module in which the pipeline's things are made
module _ (p0 : PoolValue) (m0 : ModuleValue) (reg : RegistryValue) (fits : WorldFits (world_with p0 m0 reg)) (ready : IsReady (world_with p0 m0 reg)) (o : Offers) (offered : AreOffered reg o)
    (m1 : ModuleValue) (reset_pc units places : ℕ) (made : IsMade m0 m1 reset_pc units places) where
  none_rights : Rights
  none_rights = record { wires = λ k. false; locked = λ k. false; outs = λ p. false }

  pub made_grows : Grows m0 m1 (23 + units + 3 * places)
  made_grows = (made.makes none_rights).grows

  pub made_fits : WorldFits (world_with p0 m1 reg)
  made_fits = world_fits (world_with p0 m0 reg) (world_with p0 m1 reg) 0 (23 + units + 3 * places) fits (adds_nothing p0 p0 refl (omega arith)) made_grows (made.drivers p0) (λ h. h)

  fetch_fits : OfferFits m1 p0 Fetch offered.fetch.0 (fetch_ports o.fetch)
  fetch_fits = made_fits.offers.singles Fetch (record { by = offered.fetch.0; ports = fetch_ports o.fetch }) (ap (registry.offered_as fetch_ports) offered.fetch.1)

  pub take_is : IsWire m1 o.fetch.take 8
  take_is = let h = fetch_fits.inputs.0 in record { there = h.there; wide = h.width; level_is = h.level }

  -- nodes are those of the pool, or of one that has grown from it
  module _ (takes : ℕ → Service → Bool) (nodes : List Node) (kept : (k : ℕ) → k < length p0.nodes → tree_of nodes k ≡ tree_of p0.nodes k) where
    pub are_offers : (wire r : ℕ) (es : List ExecOffer) (sh : Shape) → sh.system ≡ is_some reg.system
        → AreOffers (scope_of m1) p0 (things_from nodes wire r es (services_of takes nodes reg) sh) o
    are_offers wire r es sh there =
        let p = things_from nodes wire r es (services_of takes nodes reg) sh in
        record {
          fetch = fetch_is m1 p0 nodes kept p offered.fetch.0 o.fetch (ap (λ q. (trees_or_none nodes (registry.offered_as fetch_ports q)).1) offered.fetch.1) fetch_fits;
          decoder = decoder_is m1 p0 nodes kept p offered.decoder.0 o.decoder (ap (λ q. (trees_or_none nodes (registry.offered_as decoder_ports q)).1) offered.decoder.1)
              (made_fits.offers.singles Decoder (record { by = offered.decoder.0; ports = decoder_ports o.decoder }) (ap (registry.offered_as decoder_ports) offered.decoder.1));
          hazard = hazard_is m1 p0 nodes kept p offered.hazard.0 o.hazard (ap (λ q. (trees_or_none nodes (registry.offered_as hazard_ports q)).1) offered.hazard.1)
              (made_fits.offers.singles Hazard (record { by = offered.hazard.0; ports = hazard_ports o.hazard }) (ap (registry.offered_as hazard_ports) offered.hazard.1));
          system = subst (SystemIs (scope_of m1) p0 p) (sym offered.system) (system_is m1 p0 nodes kept p reg.system there refl (λ x e. made_fits.offers.singles System x e));
        }

    pub are_execs : AreExecs (scope_of m1) p0 nodes reg.execs
    are_execs = execs_are m1 p0 nodes kept reg.execs (λ k q l e. made_fits.offers.execs k q l e)

  -- the inputs of units have no driver
  free : (entry k : ℕ) → (wire_at m0.wires k).owner ≡ Entry entry → is_exec_input reg.execs k ≡ true → (wire_at m0.wires k).driver ≡ None
  free entry k owner is =
      let w = world_with p0 m0 reg in
      let left : is_left_input reg k ≡ true =
      or_right (is_input_of (ports_of (single reg Fetch)) k) _ (or_right (is_input_of (ports_of (single reg Decoder)) k) _ (or_right (is_input_of (ports_of (single reg RegFile)) k) _
      (or_right (is_input_of (ports_of (single reg Hazard)) k) _ (or_right (is_input_of (ports_of (single reg System)) k) _ is)))) in
      ready.inputs entry k (left_own w fits entry k owner left) (left_beside w fits k left)

  -- so the units are ready to be driven
  module _ (r : ℕ) (is_reg : r ≡ length m0.regs) (many : units ≡ length reg.execs) where
    one_undriven : (j : ℕ) (o : ExecOffer) → j < length reg.execs → get_or reg.execs j o ≡ o → (c : ℕ) → c ≡ length m0.regs + 15 + j → IsUndriven m1 c o
    one_undriven j o l e c at =
        let h = made_fits.offers.execs j o l e in
        let row = chosen_found made j (omega arith) in
        let here : (reg_at m1.regs c ≡ bare_reg (1, None)) = subst (λ (k : ℕ). reg_at m1.regs k ≡ bare_reg (1, None)) (sym at) row.1 in
        let there = row.0 in
        record {
          few = subst (λ (x : ExecOffer). x.by < 32) e (ready.few j o l);
          inputs = h.inputs;
          apart = h.apart;
          free = free_of m1 (exec_ports o.ports).inputs (λ k is.
              let among = among_inputs m0 p0 o.by (exec_ports o.ports).inputs (input_shapes Exec) k (fits.offers.execs j o l e).inputs is in
              ap (λ (x : WireRow). x.driver) (made.wires_before k among.0) ∙ free o.by k among.1 (exec_among k reg.execs j o l e is));
          row = record { there = omega arith; wide = ap (λ (x : RegRow). x.width) here };
          own = ap (λ (x : RegRow). x.owner) here;
          reset = ap (λ (x : RegRow). x.reset) here;
          bare = ap (λ (x : RegRow). x.next) here;
        }

    undriven_from : (os : List ExecOffer) (j c : ℕ) → c ≡ length m0.regs + 15 + j → ((i : ℕ) → exec_at os i ≡ exec_at reg.execs (j + i))
        → ((i : ℕ) (q : ExecOffer) → i < length os → get_or os i q ≡ q → (j + i < length reg.execs) × (get_or reg.execs (j + i) q ≡ q)) → AreUndriven m1 c os
    undriven_from [] j c at same each = tt
    undriven_from (o ∷ os) j c at same each =
        let x = each 0 o (omega arith) refl in (
          one_undriven (j + 0) o x.0 x.1 c (omega arith),
          (λ k is. false_from_ne_true (is_exec_input os k) (λ later.
              let y = exec_index k os later in
              let key : ExecAt (j + 0) ≡ ExecAt (j + suc y.0) = fits.offers.apart (ExecAt (j + 0)) (ExecAt (j + suc y.0)) k
              (sym (ap (λ q. is_input_of q k) (same 0)) ∙ is) (sym (ap (λ q. is_input_of q k) (same (suc y.0))) ∙ y.1) in
              let e : j + 0 ≡ j + suc y.0 = cc in
              absurd (omega (arith, e)))),
          undriven_from os (j + 1) (c + 1) (omega arith)
              (λ i. let e : j + suc i ≡ j + 1 + i = omega arith in same (suc i) ∙ ap (exec_at reg.execs) e)
              (λ i q l e. let s : j + suc i ≡ j + 1 + i = omega arith in subst (λ (n : ℕ). (n < length reg.execs) × (get_or reg.execs n q ≡ q)) s (each (suc i) q (omega arith) e)),
        )

    pub are_undriven : AreUndriven m1 (r + 15) reg.execs
    are_undriven = undriven_from reg.execs 0 (r + 15) (omega arith) (λ i. let e : i ≡ 0 + i = omega arith in ap (exec_at reg.execs) e)
        (λ i q l e. let s : i ≡ 0 + i = omega arith in subst (λ (n : ℕ). (n < length reg.execs) × (get_or reg.execs n q ≡ q)) s (l, e))
