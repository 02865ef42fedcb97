-- What is left for the pipeline is not of the parts of entries.
use Rattle.std.proofs.Common.{◌≡◌, ◌∙◌, ℕ, suc, ◌<◌, Bool, true, false, cond, not, eqb, ◌&&◌, ◌||◌, List, [], ◌∷◌, length, get_or, is_some, refl, sym, ap, subst, arith, Option, None, Some, inl, inr, ◌⊎◌}
use Rattle.std.proofs.lemmas.Bool.{cases_Bool, cases_lt, or_cases, or_left, or_right, not-false, both_ways, and_parts, cond-true, eq-eqb, false_from_ne_true}
use Rattle.hw_pool.specs.Nodes.{PoolValue}
use Rattle.hw_expr.specs.declared.net.Net.{Net}
use Rattle.hw_module.specs.declared.rows.Owner.TheVariants.{Pipe, Entry}
use Rattle.hw_module.specs.declared.rows.ArrayRow.{ArrayRow}
use Rattle.hw_module.specs.Frame.{Grows}
use Rattle.hw_module.specs.Rights.{Makes}
use Rattle.hw_module.specs.Rows.{ModuleValue, wire_at, array_at, out_at}
use Rattle.hw_module.specs.Driven.{IsDriven}
use Rattle.service_reg.specs.declared.service.Service.{Service}
use Rattle.service_reg.specs.declared.service.Service.TheVariants.{Fetch, Predict, Decoder, RegFile, Hazard, Exec, DataBus, System}
use Rattle.service_ports.specs.declared.ports.ExecOffer.{ExecOffer}
use Rattle.service_ports.specs.declared.ports.DataBusPorts.{DataBusPorts}
use Rattle.service_ports.specs.Ports.{Ports, exec_ports, databus_ports, input_shapes}
use Rattle.service_ports.specs.Registry.{RegistryValue, Offered, offered_as, single, own_single, offer_of, exec_of}
use Rattle.service_ports.proofs.Offers.{none_some}
use Rattle.plug_part.specs.Owned.{is_among, is_input_of, is_own_input, is_predict_input, is_fetch_out, is_bus_out, is_out_of, offers, ports_of}
use Rattle.plug_build.specs.Fits.{OfferKey, OffersFit, WorldFits, exec_at, ports_at}
use Rattle.plug_build.specs.Fits.OfferKey.{The, ExecAt}
use Rattle.plug_build.specs.Frame.{Leaves}
use Rattle.plug_build.specs.Frame.PredictStays.{Stays}
use Rattle.plug_build.specs.World.{World}
use Rattle.plug_build.proofs.Apart.{exec_of-at}
use Rattle.plug_build.proofs.Leaves.{entry_eq}
use Rattle.plug_build.proofs.Offers.{among_inputs, input_of_some, own_input_from, own_picked, predict_input_is}
use Rattle.pipe_drive.specs.Rights.{is_exec_input, is_left_input, is_left_out, pipe_rights, AreDone, DrivesLeft}

-- an input of an entry's service
record InputAt (d : ModuleValue) (reg : RegistryValue) (k : ℕ) : Type 0 where
  entry : ℕ
  there : k < length d.wires
  owner : (wire_at d.wires k).owner ≡ Entry entry
  own : is_own_input reg entry k ≡ true

module _ (d : ModuleValue) (pool : PoolValue) (reg : RegistryValue) (fit : OffersFit d pool reg) where
  single_at : (s : Service) → ((e : ℕ) → offer_of reg e s ≡ own_single e (single reg s)) → (k : ℕ) (o : Option Offered) → single reg s ≡ o → is_input_of (ports_of o) k ≡ true → InputAt d reg k
  single_at s same k None e is = absurd (both_ways false refl is)
  single_at s same k (Some o) e is =
      let at = among_inputs d pool o.by o.ports.inputs (input_shapes s) k (fit.singles s o e).inputs is in
      let own : offer_of reg o.by s ≡ Some o.ports = same o.by ∙ ap (own_single o.by) e ∙ cond-true (eqb o.by o.by) (Some o.ports) None (eq-eqb o.by o.by refl) in
      record { entry = o.by; there = at.0; owner = at.1; own = own_input_from reg o.by k s (ap (λ (p : Option Ports). is_input_of p k) own ∙ is) }

  -- an offer of Exec that has the input, with its place
  record ExecAtWire (k : ℕ) : Type 0 where
    place : ℕ
    offer : ExecOffer
    below : place < length reg.execs
    at : get_or reg.execs place offer ≡ offer
    among : is_among k (exec_ports offer.ports).inputs ≡ true
    listed : is_input_of (exec_at reg.execs place) k ≡ true

  exec_found : (k : ℕ) (os : List ExecOffer) (from : (i : ℕ) (o : ExecOffer) → i < length os → get_or os i o ≡ o → (j : ℕ) × (j < length reg.execs) × (get_or reg.execs j o ≡ o) × (exec_at reg.execs j ≡ exec_at os i))
      → is_exec_input os k ≡ true → ExecAtWire k
  exec_found k [] from is = absurd (both_ways false refl is)
  exec_found k (o ∷ os) from is = go (is_among k (exec_ports o.ports).inputs) refl (exec_found k os (λ i x l e. from (suc i) x (omega arith) e))
    where
      go : (b : Bool) → is_among k (exec_ports o.ports).inputs ≡ b → (is_exec_input os k ≡ true → ExecAtWire k) → ExecAtWire k
      go true e rest = let h = from 0 o (omega arith) refl in
          record { place = h.0; offer = o; below = h.1; at = h.2; among = e; listed = ap (λ (p : Option Ports). is_input_of p k) h.3 ∙ e }
      go false e rest = rest (sym (ap (λ b. b || is_exec_input os k) e) ∙ is)

  exec_wire : (k : ℕ) → is_exec_input reg.execs k ≡ true → ExecAtWire k
  exec_wire k is = exec_found k reg.execs (λ i o l e. (i, l, e, refl)) is

  exec_input : (k : ℕ) → is_exec_input reg.execs k ≡ true → InputAt d reg k
  exec_input k is =
      let x = exec_wire k is in
      let at = among_inputs d pool x.offer.by (exec_ports x.offer.ports).inputs (input_shapes Exec) k (fit.execs x.place x.offer x.below x.at).inputs x.among in
      let own : offer_of reg x.offer.by Exec ≡ Some (exec_ports x.offer.ports) = exec_of-at reg.execs fit.once x.place x.offer x.below x.at in
      record { entry = x.offer.by; there = at.0; owner = at.1; own = own_input_from reg x.offer.by k Exec (ap (λ (p : Option Ports). is_input_of p k) own ∙ x.among) }

  -- what is left is an input of a service that is not Predict
  record LeftAt (k : ℕ) : Type 0 where
    key : OfferKey
    other : key ≡ The Predict → ⊥
    is : is_input_of (ports_at reg key) k ≡ true
    input : InputAt d reg k

  left_single : (s : Service) → (The s ≡ The Predict → ⊥) → ((e : ℕ) → offer_of reg e s ≡ own_single e (single reg s)) → (k : ℕ) → is_input_of (ports_of (single reg s)) k ≡ true → LeftAt k
  left_single s other same k is = record { key = The s; other = other; is = is; input = single_at s same k (single reg s) refl is }

  left_at : (k : ℕ) → is_left_input reg k ≡ true → LeftAt k
  left_at k e = elim (or_cases _ _ e) [
    | inl h ↦ left_single Fetch (λ x. cc) (λ e. refl) k h
    | inr e ↦ elim (or_cases _ _ e) [
      | inl h ↦ left_single Decoder (λ x. cc) (λ e. refl) k h
      | inr e ↦ elim (or_cases _ _ e) [
        | inl h ↦ left_single RegFile (λ x. cc) (λ e. refl) k h
        | inr e ↦ elim (or_cases _ _ e) [
          | inl h ↦ left_single Hazard (λ x. cc) (λ e. refl) k h
          | inr e ↦ elim (or_cases _ _ e) [
            | inl h ↦ left_single System (λ x. cc) (λ e. refl) k h
            | inr h ↦ let x = exec_wire k h in record { key = ExecAt x.place; other = λ y. cc; is = x.listed; input = exec_input k h }
          ]
        ]
      ]
    ]
  ]

  pub left_not_predict : (k : ℕ) → is_predict_input reg k ≡ true → is_left_input reg k ≡ false
  left_not_predict k is = false_from_ne_true _ (λ left. let x = left_at k left in x.other (fit.apart x.key (The Predict) k x.is is))

  -- ---- an input of an entry is left, or is Predict's

  single_left : (s : Service) (entry k : ℕ) → is_input_of (own_single entry (single reg s)) k ≡ true → is_input_of (ports_of (single reg s)) k ≡ true
  single_left s entry k is = go (own_single entry (single reg s)) refl is
    where
      go : (o : Option Ports) → own_single entry (single reg s) ≡ o → is_input_of o k ≡ true → is_input_of (ports_of (single reg s)) k ≡ true
      go None e h = absurd (both_ways false refl h)
      go (Some p) e h = ap (λ (o : Option Offered). is_input_of (ports_of o) k) (own_picked entry (single reg s) p e) ∙ h

  exec_left : (os : List ExecOffer) (entry k : ℕ) → is_input_of (exec_of entry os) k ≡ true → is_exec_input os k ≡ true
  exec_left [] entry k is = absurd (both_ways false refl is)
  exec_left (o ∷ os) entry k is = go (eqb o.by entry) refl (exec_left os entry k)
    where
      go : (b : Bool) → eqb o.by entry ≡ b → (is_input_of (exec_of entry os) k ≡ true → is_exec_input os k ≡ true) → (is_among k (exec_ports o.ports).inputs || is_exec_input os k) ≡ true
      go true e rest = or_left (is_among k (exec_ports o.ports).inputs) _ (sym (ap (λ (b : Bool). is_input_of (cond b (Some (exec_ports o.ports)) (exec_of entry os)) k) e) ∙ is)
      go false e rest = or_right (is_among k (exec_ports o.ports).inputs) _ (rest (sym (ap (λ (b : Bool). is_input_of (cond b (Some (exec_ports o.ports)) (exec_of entry os)) k) e) ∙ is))

  -- DataBus has no inputs
  bus_bare : (o : Option (ℕ × DataBusPorts)) (k : ℕ) → is_input_of (ports_of (offered_as databus_ports o)) k ≡ true → ⊥
  bus_bare None k is = both_ways false refl is
  bus_bare (Some o) k is = both_ways false refl is

  abbrev left_of : (k : ℕ) → Type 0
  left_of k = (is_left_input reg k ≡ true) ⊎ (is_predict_input reg k ≡ true)

  pub left_or_predict : (entry k : ℕ) → is_own_input reg entry k ≡ true → left_of k
  left_or_predict entry k e = let h = input_of_some reg entry k e in go h.0 h.1
    where
      go : (s : Service) → is_input_of (offer_of reg entry s) k ≡ true → left_of k
      go Fetch is = inl (or_left (is_input_of (ports_of (single reg Fetch)) k) _ (single_left Fetch entry k is))
      go Predict is = inr (single_left Predict entry k is)
      go Decoder is = inl (or_right (is_input_of (ports_of (single reg Fetch)) k) _ (or_left (is_input_of (ports_of (single reg Decoder)) k) _ (single_left Decoder entry k is)))
      go RegFile is = inl (or_right (is_input_of (ports_of (single reg Fetch)) k) _ (or_right (is_input_of (ports_of (single reg Decoder)) k) _ (or_left (is_input_of (ports_of (single reg RegFile)) k) _ (single_left RegFile entry k is))))
      go Hazard is = inl (or_right (is_input_of (ports_of (single reg Fetch)) k) _ (or_right (is_input_of (ports_of (single reg Decoder)) k) _ (or_right (is_input_of (ports_of (single reg RegFile)) k) _ (or_left (is_input_of (ports_of (single reg Hazard)) k) _ (single_left Hazard entry k is)))))
      go Exec is = inl (or_right (is_input_of (ports_of (single reg Fetch)) k) _ (or_right (is_input_of (ports_of (single reg Decoder)) k) _ (or_right (is_input_of (ports_of (single reg RegFile)) k) _ (or_right (is_input_of (ports_of (single reg Hazard)) k) _ (or_right (is_input_of (ports_of (single reg System)) k) _ (exec_left reg.execs entry k is))))))
      go DataBus is = absurd (bus_bare reg.databus k (single_left DataBus entry k is))
      go System is = inl (or_right (is_input_of (ports_of (single reg Fetch)) k) _ (or_right (is_input_of (ports_of (single reg Decoder)) k) _ (or_right (is_input_of (ports_of (single reg RegFile)) k) _ (or_right (is_input_of (ports_of (single reg Hazard)) k) _ (or_left (is_input_of (ports_of (single reg System)) k) _ (single_left System entry k is))))))

-- who offers a service that one entry alone may offer
offered_some : (entry : ℕ) (o : Option Offered) → is_some (own_single entry o) ≡ true → is_some o ≡ true
offered_some entry None h = absurd (both_ways false refl h)
offered_some entry (Some o) h = refl

and_true : {a b : Bool} → a ≡ true → b ≡ true → (a && b) ≡ true
and_true {a} {b} e f = ap (λ c. c && b) e ∙ f

-- an output of an entry is not left
out_not_left : (reg : RegistryValue) (entry p : ℕ) → is_out_of reg entry p ≡ true → is_left_out reg p ≡ false
out_not_left reg entry p is = elim (or_cases (offers reg entry Fetch && is_fetch_out p) (offers reg entry DataBus && is_bus_out p) is) [
  | inl h ↦
      let x = and_parts (offers reg entry Fetch) (is_fetch_out p) h in
      ap not (or_left (is_some (single reg Fetch) && is_fetch_out p) _ (and_true (offered_some entry (single reg Fetch) x.0) x.1))
  | inr h ↦
      let x = and_parts (offers reg entry DataBus) (is_bus_out p) h in
      ap not (or_right (is_some (single reg Fetch) && is_fetch_out p) _ (and_true (offered_some entry (single reg DataBus) x.0) x.1))
]

-- and what is not left is an output of an entry
by_some : (o : Option Offered) → is_some o ≡ true → (entry : ℕ) × (is_some (own_single entry o) ≡ true)
by_some None h = absurd (both_ways false refl h)
by_some (Some o) h = (o.by, ap (λ (q : Option Ports). is_some q) (cond-true (eqb o.by o.by) (Some o.ports) None (eq-eqb o.by o.by refl)))

out_of_entry : (reg : RegistryValue) (p : ℕ) → is_left_out reg p ≡ false → (entry : ℕ) × (is_out_of reg entry p ≡ true)
out_of_entry reg p h = elim (or_cases (is_some (single reg Fetch) && is_fetch_out p) (is_some (single reg DataBus) && is_bus_out p) (not-false _ h)) [
  | inl f ↦
      let x = and_parts (is_some (single reg Fetch)) (is_fetch_out p) f in
      let e = by_some (single reg Fetch) x.0 in
      (e.0, or_left (offers reg e.0 Fetch && is_fetch_out p) _ (and_true e.1 x.1))
  | inr b ↦
      let x = and_parts (is_some (single reg DataBus)) (is_bus_out p) b in
      let e = by_some (single reg DataBus) x.0 in
      (e.0, or_right (offers reg e.0 Fetch && is_fetch_out p) _ (and_true e.1 x.1))
]

module _ (w : World) (fits : WorldFits w) where
  -- what the pipeline drives is nothing of the part of an entry
  pub pipe_leaves : (new : World) (n : ℕ) → new.reg ≡ w.reg → Makes Pipe (pipe_rights w.reg) w.design new.design n → (takes : Service → Bool) (entry : ℕ) → Leaves takes entry (pipe_rights w.reg) w new
  unfolding pipe_rights
  pipe_leaves new n same makes takes entry = record {
    offers_kept = λ s. ap (λ (r : RegistryValue). offer_of r entry s) same;
    took = λ s t. ap (λ (r : RegistryValue). single r s) same;
    wires = λ k owner own. false_from_ne_true _ (λ left.
        let at = (left_at w.design w.pool w.reg fits.offers k left).input in
        let e : at.entry ≡ entry = entry_eq at.entry entry (sym at.owner ∙ owner) in
        both_ways (is_own_input w.reg entry k) own (subst (λ x. is_own_input w.reg x k ≡ true) e at.own));
    outs = λ p is. out_not_left w.reg entry p is;
    predicts = λ k fetches. Stays (ap (λ (r : RegistryValue). is_predict_input r k) same) (λ input.
        let y = predict_input_is w.design w.pool w.reg fits.offers k input in
        (y.1, makes.wires k y.1 (λ own. let e : Entry y.0 ≡ Pipe = sym y.2 ∙ own in cc) (left_not_predict w.design w.pool w.reg fits.offers k input)));
  }

-- a driver stays
still_driven : {old new : Option Net} → ((net : Net) → old ≡ Some net → new ≡ Some net) → (old ≡ None → ⊥) → new ≡ None → ⊥
still_driven {old} {new} kept had none = go old kept had none
  where
    go : (o : Option Net) → ((net : Net) → o ≡ Some net → new ≡ Some net) → (o ≡ None → ⊥) → new ≡ None → ⊥
    go None kept had none = had refl
    go (Some net) kept had none = let e : ◌≡◌ {A = Option Net} None (Some net) = sym none ∙ kept net refl in cc

module _ (w : World) (fits : WorldFits w) (done : AreDone w.reg w.design) (new : ModuleValue) (n : ℕ) (grows : Grows w.design new n) (left : DrivesLeft w.reg w.design new) where
  old_out : (p : ℕ) → is_left_out w.reg p ≡ false → out_at new.outs p ≡ None → ⊥
  old_out p h none = let e = out_of_entry w.reg p h in still_driven (grows.outs p) (done.outs e.0 p e.1) none

  old_wire : (k : ℕ) → k < length w.design.wires → (wire_at new.wires k).driver ≡ None → ⊥
  old_wire k l none = go (wire_at w.design.wires k).driver refl
    where
      go : (o : Option Net) → (wire_at w.design.wires k).driver ≡ o → ⊥
      go None bare =
          let own = done.wires k l bare in
          elim (left_or_predict w.design w.pool w.reg fits.offers own.0 k own.1) [
            | inl is ↦ left.inputs k is none
            | inr is ↦ done.predict k is bare
          ]
      go (Some net) driven = none_some None net refl (sym none ∙ (grows.wires k l).driver net driven)

  pub all_driven : IsDriven new
  all_driven = record {
    wires = λ k l none. elim (cases_lt k (length w.design.wires)) [
      | inl below ↦ old_wire k below none
      | inr above ↦ left.wires k above l none
    ];
    regs = λ k l none. elim (cases_lt k (length w.design.regs)) [
      | inl below ↦ still_driven (grows.regs k below).next (done.regs k below) none
      | inr above ↦ left.regs k above l none
    ];
    arrays = λ k l none. done.arrays k (let e = ap length left.arrays in omega arith) (sym (ap (λ (rows : List ArrayRow). (array_at rows k).write) left.arrays) ∙ none);
    outs = λ p l bare. elim (cases_Bool (is_left_out w.reg p)) [
      | inl is ↦ left.outs p l bare.0 is bare.1
      | inr kept ↦ old_out p kept bare.1
    ];
  }
