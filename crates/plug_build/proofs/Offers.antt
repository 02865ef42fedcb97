-- What fits of the offers of an entry.
use Rattle.std.proofs.Common.{◌≡◌, ◌∙◌, ℕ, suc, ◌<◌, List, [], ◌∷◌, ◌++◌, length, get_or, refl, arith, ap, sym, subst, Bool, true, false, cond, eqb, Option, None, Some, inl, inr, ◌⊎◌}
use Rattle.std.specs.Prelude.{All}
use Rattle.std.proofs.lemmas.Bool.{or_cases, eqb-true, eq-eqb, ne_eqb, both_ways, or_right, or_left, cond-true}
use Rattle.hw_pool.specs.Nodes.{PoolValue}
use Rattle.hw_module.specs.declared.rows.Owner.TheVariants.{Entry}
use Rattle.hw_module.specs.Rows.{ModuleValue, wire_at}
use Rattle.service_reg.specs.declared.service.Service.{Service}
use Rattle.service_reg.specs.declared.service.Service.TheVariants.{Fetch, Predict, Decoder, RegFile, Hazard, Exec, DataBus, System}
use Rattle.service_ports.specs.declared.ports.ExecOffer.{ExecOffer}
use Rattle.service_ports.specs.Ports.{Ports, exec_ports, input_shapes}
use Rattle.service_ports.specs.Registry.{RegistryValue, Offered, single, exec_of, own_single, offer_of, OffersBy}
use Rattle.service_ports.proofs.Offers.{none_some}
use Rattle.plug_part.specs.Owned.{is_among, is_input_of, is_own_input, ports_of, is_predict_input}
use Rattle.plug_build.specs.Fits.{AreInputs, OfferFits, OffersFit}

some-eq : {A : Type 0} {a b : A} → Some a ≡ Some b → a ≡ b
some-eq e = cc

-- what a test picks
picked : {A : Type 0} (b : Bool) (x y : A) (rest : Option A) → cond b (Some x) rest ≡ Some y → ((b ≡ true) × (x ≡ y)) ⊎ ((b ≡ false) × (rest ≡ Some y))
picked true x y rest e = inl (refl, some-eq e)
picked false x y rest e = inr (refl, e)

pub own_picked : (entry : ℕ) (o : Option Offered) (p : Ports) → own_single entry o ≡ Some p → o ≡ Some (record { by = entry; ports = p })
own_picked entry None p e = absurd (none_some None p refl e)
own_picked entry (Some o) p e = elim (picked (eqb o.by entry) o.ports p None e) [
  | inl is ↦ let own : o.by ≡ entry = eqb-true o.by entry is.0 in λ i. Some (record { by = own i; ports = is.1 i })
  | inr rest ↦ absurd (none_some None p refl rest.1)
]

-- an input of some service is an input of one
pub input_of_some : (r : RegistryValue) (entry k : ℕ) → is_own_input r entry k ≡ true → (s : Service) × (is_input_of (offer_of r entry s) k ≡ true)
input_of_some r entry k e = elim (or_cases _ _ e) [
  | inl h ↦ (Fetch, h)
  | inr e ↦ elim (or_cases _ _ e) [
    | inl h ↦ (Predict, h)
    | inr e ↦ elim (or_cases _ _ e) [
      | inl h ↦ (Decoder, h)
      | inr e ↦ elim (or_cases _ _ e) [
        | inl h ↦ (RegFile, h)
        | inr e ↦ elim (or_cases _ _ e) [
          | inl h ↦ (Hazard, h)
          | inr e ↦ elim (or_cases _ _ e) [
            | inl h ↦ (Exec, h)
            | inr e ↦ elim (or_cases _ _ e) [
              | inl h ↦ (DataBus, h)
              | inr h ↦ (System, h)
            ]
          ]
        ]
      ]
    ]
  ]
]

-- an input of one service is an input of some
pub own_input_from : (r : RegistryValue) (entry k : ℕ) (s : Service) → is_input_of (offer_of r entry s) k ≡ true → is_own_input r entry k ≡ true
own_input_from r entry k Fetch h = or_left (is_input_of (offer_of r entry Fetch) k) _ h
own_input_from r entry k Predict h = or_right (is_input_of (offer_of r entry Fetch) k) _ (or_left (is_input_of (offer_of r entry Predict) k) _ h)
own_input_from r entry k Decoder h = or_right (is_input_of (offer_of r entry Fetch) k) _ (or_right (is_input_of (offer_of r entry Predict) k) _ (or_left (is_input_of (offer_of r entry Decoder) k) _ h))
own_input_from r entry k RegFile h = or_right (is_input_of (offer_of r entry Fetch) k) _ (or_right (is_input_of (offer_of r entry Predict) k) _ (or_right (is_input_of (offer_of r entry Decoder) k) _ (or_left (is_input_of (offer_of r entry RegFile) k) _ h)))
own_input_from r entry k Hazard h = or_right (is_input_of (offer_of r entry Fetch) k) _ (or_right (is_input_of (offer_of r entry Predict) k) _ (or_right (is_input_of (offer_of r entry Decoder) k) _ (or_right (is_input_of (offer_of r entry RegFile) k) _ (or_left (is_input_of (offer_of r entry Hazard) k) _ h))))
own_input_from r entry k Exec h = or_right (is_input_of (offer_of r entry Fetch) k) _ (or_right (is_input_of (offer_of r entry Predict) k) _ (or_right (is_input_of (offer_of r entry Decoder) k) _ (or_right (is_input_of (offer_of r entry RegFile) k) _ (or_right (is_input_of (offer_of r entry Hazard) k) _ (or_left (is_input_of (offer_of r entry Exec) k) _ h)))))
own_input_from r entry k DataBus h = or_right (is_input_of (offer_of r entry Fetch) k) _ (or_right (is_input_of (offer_of r entry Predict) k) _ (or_right (is_input_of (offer_of r entry Decoder) k) _ (or_right (is_input_of (offer_of r entry RegFile) k) _ (or_right (is_input_of (offer_of r entry Hazard) k) _ (or_right (is_input_of (offer_of r entry Exec) k) _ (or_left (is_input_of (offer_of r entry DataBus) k) _ h))))))
own_input_from r entry k System h = or_right (is_input_of (offer_of r entry Fetch) k) _ (or_right (is_input_of (offer_of r entry Predict) k) _ (or_right (is_input_of (offer_of r entry Decoder) k) _ (or_right (is_input_of (offer_of r entry RegFile) k) _ (or_right (is_input_of (offer_of r entry Hazard) k) _ (or_right (is_input_of (offer_of r entry Exec) k) _ (or_right (is_input_of (offer_of r entry DataBus) k) _ h))))))

module _ (d : ModuleValue) (pool : PoolValue) where
  exec-fits : (execs : List ExecOffer) → ((k : ℕ) (o : ExecOffer) → k < length execs → get_or execs k o ≡ o → OfferFits d pool Exec o.by (exec_ports o.ports))
      → (entry : ℕ) (p : Ports) → exec_of entry execs ≡ Some p → OfferFits d pool Exec entry p
  exec-fits [] each entry p e = absurd (none_some None p refl e)
  exec-fits (o ∷ os) each entry p e = elim (picked (eqb o.by entry) (exec_ports o.ports) p (exec_of entry os) e) [
    | inl is ↦
        let own : o.by ≡ entry = eqb-true o.by entry is.0 in
        subst (λ (q : Ports). OfferFits d pool Exec entry q) is.1 (subst (λ (b : ℕ). OfferFits d pool Exec b (exec_ports o.ports)) own (each 0 o (omega arith) refl))
    | inr rest ↦ exec-fits os (λ k x l is. each (suc k) x (omega arith) is) entry p rest.1
  ]

  module _ (reg : RegistryValue) (fit : OffersFit d pool reg) where
    single-fits : (s : Service) (entry : ℕ) (p : Ports) → own_single entry (single reg s) ≡ Some p → OfferFits d pool s entry p
    single-fits s entry p e = fit.singles s (record { by = entry; ports = p }) (own_picked entry (single reg s) p e)

    -- what an entry offers fits
    pub offer_fits : (entry : ℕ) (s : Service) (p : Ports) → offer_of reg entry s ≡ Some p → OfferFits d pool s entry p
    offer_fits entry Fetch p e = single-fits Fetch entry p e
    offer_fits entry Predict p e = single-fits Predict entry p e
    offer_fits entry Decoder p e = single-fits Decoder entry p e
    offer_fits entry RegFile p e = single-fits RegFile entry p e
    offer_fits entry Hazard p e = single-fits Hazard entry p e
    offer_fits entry Exec p e = exec-fits reg.execs fit.execs entry p e
    offer_fits entry DataBus p e = single-fits DataBus entry p e
    offer_fits entry System p e = single-fits System entry p e

  -- an input is a wire of the entry
  pub among_inputs : (by : ℕ) (ws : List ℕ) (ss : List (ℕ × ℕ)) (k : ℕ) → AreInputs d by ws ss → is_among k ws ≡ true → (k < length d.wires) × ((wire_at d.wires k).owner ≡ Entry by)
  among_inputs by [] ss k are e = absurd (both_ways false refl e)
  among_inputs by (w ∷ ws) [] k are e = absurd are
  among_inputs by (w ∷ ws) (s ∷ ss) k are e = elim (or_cases (eqb k w) (is_among k ws) e) [
    | inl here ↦
        let at : k ≡ w = eqb-true k w here in
        let there : w < length d.wires = are.0.there in
        (omega arith, subst (λ (j : ℕ). (wire_at d.wires j).owner ≡ Entry by) (sym at) are.0.owner)
    | inr later ↦ among_inputs by ws ss k are.1 later
  ]

  module _ (reg : RegistryValue) (fit : OffersFit d pool reg) where
    input-is : (entry : ℕ) (s : Service) (k : ℕ) (o : Option Ports) → offer_of reg entry s ≡ o → is_input_of o k ≡ true → (k < length d.wires) × ((wire_at d.wires k).owner ≡ Entry entry)
    input-is entry s k None e is = absurd (both_ways false refl is)
    input-is entry s k (Some p) e is = among_inputs entry p.inputs (input_shapes s) k (offer_fits reg fit entry s p e).inputs is

    -- the input of a service is a wire of the entry that offers it
    pub own_input_is : (entry k : ℕ) → is_own_input reg entry k ≡ true → (k < length d.wires) × ((wire_at d.wires k).owner ≡ Entry entry)
    own_input_is entry k e = let h = input_of_some reg entry k e in input-is entry h.0 k _ refl h.1

    predict-is : (k : ℕ) (o : Option Offered) → single reg Predict ≡ o → is_input_of (ports_of o) k ≡ true
        → (y : ℕ) × (k < length d.wires) × ((wire_at d.wires k).owner ≡ Entry y) × (is_input_of (own_single y (single reg Predict)) k ≡ true)
    predict-is k None e is = absurd (both_ways false refl is)
    predict-is k (Some o) e is =
        let fits = fit.singles Predict o e in
        let at = among_inputs o.by o.ports.inputs (input_shapes Predict) k fits.inputs is in
        let own : own_single o.by (single reg Predict) ≡ Some o.ports = ap (own_single o.by) e ∙ cond-true (eqb o.by o.by) (Some o.ports) None (eq-eqb o.by o.by refl) in
        (o.by, at.0, at.1, ap (λ (p : Option Ports). is_input_of p k) own ∙ is)

    -- an input of Predict is one of the entry that offers it
    pub predict_input_is : (k : ℕ) → is_predict_input reg k ≡ true → (y : ℕ) × (k < length d.wires) × ((wire_at d.wires k).owner ≡ Entry y) × (is_own_input reg y k ≡ true)
    predict_input_is k is =
        let h = predict-is k (single reg Predict) refl is in
        (h.0, h.1, h.2, or_right (is_input_of (offer_of reg h.0 Fetch) k) _ (or_left _ _ h.3))

-- ---- what others offer

exec_of-more : (entry : ℕ) (old more : List ExecOffer) (by : ℕ) → (entry ≡ by → ⊥) → All (λ o. o.by ≡ by) more → exec_of entry (old ++ more) ≡ exec_of entry old
exec_of-more entry [] [] by apart h = refl
exec_of-more entry [] (o ∷ os) by apart h =
    let own : o.by ≡ by = h 0 o (omega arith) in
    let no : eqb o.by entry ≡ false = ne_eqb o.by entry (λ e. apart (sym e ∙ own)) in
    ap (λ (b : Bool). cond b (Some (exec_ports o.ports)) (exec_of entry os)) no ∙ exec_of-more entry [] os by apart (λ i d l. h (suc i) d (omega arith))
exec_of-more entry (o ∷ os) more by apart h = ap (λ (rest : Option Ports). cond (eqb o.by entry) (Some (exec_ports o.ports)) rest) (exec_of-more entry os more by apart h)

own-apart : (entry by : ℕ) → (entry ≡ by → ⊥) → (old new : Option Offered) → ((o : Offered) → old ≡ Some o → new ≡ Some o) → ((o : Offered) → old ≡ None → new ≡ Some o → o.by ≡ by)
    → own_single entry new ≡ own_single entry old
own-apart entry by apart (Some o) new kept added = ap (own_single entry) (kept o refl)
own-apart entry by apart None None kept added = refl
own-apart entry by apart None (Some o) kept added =
    let own : o.by ≡ by = added o refl refl in
    let no : eqb o.by entry ≡ false = ne_eqb o.by entry (λ e. apart (sym e ∙ own)) in
    ap (λ (b : Bool). cond b (Some o.ports) None) no

module _ (entry by : ℕ) (apart : entry ≡ by → ⊥) (old new : RegistryValue) (h : OffersBy by old new) where
  one-apart : (s : Service) → own_single entry (single new s) ≡ own_single entry (single old s)
  one-apart s = own-apart entry by apart (single old s) (single new s) (h.kept s) (h.added s)

  -- an entry offers what it did
  pub offer_kept : (s : Service) → offer_of new entry s ≡ offer_of old entry s
  offer_kept Fetch = one-apart Fetch
  offer_kept Predict = one-apart Predict
  offer_kept Decoder = one-apart Decoder
  offer_kept RegFile = one-apart RegFile
  offer_kept Hazard = one-apart Hazard
  offer_kept Exec = ap (exec_of entry) h.execs ∙ exec_of-more entry old.execs h.more by apart h.execs_by
  offer_kept DataBus = one-apart DataBus
  offer_kept System = one-apart System
