-- What fits a world while it grows, and when a service is offered.
use Rattle.std.proofs.Common.{◌≡◌, ◌∙◌, ℕ, zero, suc, ◌+◌, ◌<◌, ◌≤◌, List, [], ◌∷◌, ◌++◌, length, get_or, refl, arith, ap, sym, subst, None, Some, inl, inr, ◌⊎◌, length-append}
use Rattle.std.proofs.lemmas.Bool.{cases_lt, cases_eq}
use Rattle.std.proofs.Math.ListN.{get_or-append}
use Rattle.hw_pool.specs.Nodes.{PoolValue}
use Rattle.hw_pool.specs.Frame.{Adds}
use Rattle.hw_expr.specs.declared.net.Net.{Net}
use Rattle.hw_expr.proofs.Scopes.{still_scope}
use Rattle.hw_module.specs.declared.rows.Owner.{Owner}
use Rattle.hw_module.specs.Rows.{ModuleValue}
use Rattle.hw_module.specs.Frame.{Grows}
use Rattle.hw_module.specs.Checked.{DriversFit}
use Rattle.hw_module.proofs.Drivers.{drivers_stay}
use Rattle.service_reg.specs.declared.service.Service.{Service}
use Rattle.service_reg.specs.declared.service.Service.TheVariants.{Fetch, Predict, Decoder, RegFile, Hazard, Exec, DataBus, System}
use Rattle.service_ports.specs.declared.ports.ExecOffer.{ExecOffer}
use Rattle.service_ports.specs.Ports.{Ports, exec_ports, input_shapes, output_widths, output_level}
use Rattle.service_ports.specs.Registry.{RegistryValue, Offered, single, exec_of}
use Rattle.plug_part.specs.Owned.{ports_of}
use Rattle.plug_build.specs.World.{World, Builds}
use Rattle.hw_module.specs.Rights.{Rights, Makes}
use Rattle.plug_build.specs.Fits.{AreInputs, AreNew, AreOutputs, OfferFits, OfferKey, OffersFit, OffersOnce, WorldFits, exec_at, ports_at}
use Rattle.plug_build.specs.Fits.OfferKey.{The, ExecAt}
use Rattle.plug_build.proofs.Apart.{exec_at-end, exec_at-more, exec_of-none, offers_apart}
use Rattle.hw_module.proofs.Scopes.{kept_grown}

module _ (old new : ModuleValue) (n : ℕ) (grows : Grows old new n) where
  pub inputs_grown : (by : ℕ) (ws : List ℕ) (ss : List (ℕ × ℕ)) → AreInputs old by ws ss → AreInputs new by ws ss
  inputs_grown by [] [] h = tt
  inputs_grown by [] (s ∷ ss) h = h
  inputs_grown by (w ∷ ws) [] h = h
  inputs_grown by (w ∷ ws) (s ∷ ss) h =
      let stays = grows.wires w h.0.there in (
        record { there = omega (arith, h.0.there, grows.more_wires); owner = stays.owner ∙ h.0.owner; width = stays.width ∙ h.0.width; level = stays.level ∙ h.0.level },
        inputs_grown by ws ss h.1,
      )

  module _ (pool pool' : PoolValue) (k : ℕ) (adds : Adds pool pool' k) where
    pub outputs_grown : (most : ℕ) (ns : List Net) (ws : List ℕ) → AreOutputs old pool most ns ws → AreOutputs new pool' most ns ws
    outputs_grown most [] [] h = tt
    outputs_grown most [] (w ∷ ws) h = h
    outputs_grown most (m ∷ ns) [] h = h
    outputs_grown most (m ∷ ns) (w ∷ ws) h = (
      record { scope = still_scope _ pool pool' k m adds (kept_grown old new n pool m grows h.0.scope); wide = h.0.wide; level = h.0.level },
      outputs_grown most ns ws h.1,
    )

    offer-grown : (s : Service) (by : ℕ) (p : Ports) → OfferFits old pool s by p → OfferFits new pool' s by p
    offer-grown s by p h = record {
      inputs = inputs_grown by p.inputs (input_shapes s) h.inputs;
      outputs = outputs_grown (output_level s) p.outputs (output_widths s) h.outputs;
      apart = h.apart;
    }

    pub offers_grown : (reg : RegistryValue) → OffersFit old pool reg → OffersFit new pool' reg
    offers_grown reg h = record {
      singles = λ s o e. offer-grown s o.by o.ports (h.singles s o e);
      execs = λ j o l e. offer-grown Exec o.by (exec_ports o.ports) (h.execs j o l e);
      once = h.once;
      apart = h.apart;
    }

-- ---- a service more

code : Service → ℕ
code Fetch = 0
code Predict = 1
code Decoder = 2
code RegFile = 3
code Hazard = 4
code Exec = 5
code DataBus = 6
code System = 7

decode : ℕ → Service
decode zero = Fetch
decode (suc zero) = Predict
decode (suc (suc zero)) = Decoder
decode (suc (suc (suc zero))) = RegFile
decode (suc (suc (suc (suc zero)))) = Hazard
decode (suc (suc (suc (suc (suc zero))))) = Exec
decode (suc (suc (suc (suc (suc (suc zero)))))) = DataBus
decode (suc (suc (suc (suc (suc (suc (suc n))))))) = System

decoded : (s : Service) → decode (code s) ≡ s
unfolding code decode
decoded Fetch = refl
decoded Predict = refl
decoded Decoder = refl
decoded RegFile = refl
decoded Hazard = refl
decoded Exec = refl
decoded DataBus = refl
decoded System = refl

pub cases_service : (s t : Service) → (s ≡ t) ⊎ (s ≡ t → ⊥)
cases_service s t = elim (cases_eq (code s) (code t)) [
  | inl e ↦ inl (sym (decoded s) ∙ ap decode e ∙ decoded t)
  | inr n ↦ inr (λ e. n (ap code e))
]

get_or-end : (os : List ExecOffer) (o d : ExecOffer) → get_or (os ++ o ∷ []) (length os) d ≡ o
get_or-end [] o d = refl
get_or-end (x ∷ xs) o d = get_or-end xs o d

some_eq : {A : Type 0} {a b : A} → Some a ≡ Some b → a ≡ b
some_eq e = cc

module _ (d : ModuleValue) (pool : PoolValue) (old new : RegistryValue) (fit : OffersFit d pool old) where
  -- a service that one entry alone offers
  pub offered_fits : (s : Service) (o : Offered) → single new s ≡ Some o → ((t : Service) → (t ≡ s → ⊥) → single new t ≡ single old t) → new.execs ≡ old.execs
      → OfferFits d pool s o.by o.ports → AreNew old o.ports.inputs → OffersFit d pool new
  offered_fits s o is others execs h fresh = record {
    singles = λ t x e. elim (cases_service t s) [
      | inl same ↦
          let at : single new t ≡ Some o = ap (single new) same ∙ is in
          let x_is : o ≡ x = some_eq (sym at ∙ e) in
          subst (λ (u : Service). OfferFits d pool u x.by x.ports) (sym same) (subst (λ (y : Offered). OfferFits d pool s y.by y.ports) x_is h)
      | inr other ↦ fit.singles t x (sym (others t other) ∙ e)
    ];
    execs = λ k x l e.
        fit.execs k x (subst (λ (es : List ExecOffer). k < length es) execs l) (subst (λ (es : List ExecOffer). get_or es k x ≡ x) execs e);
    once = subst OffersOnce (sym execs) fit.once;
    apart = offers_apart old new (The s) o.ports (ap ports_of is) from fresh fit.apart;
  }
    where
      from : (x : OfferKey) → (x ≡ The s) ⊎ (ports_at new x ≡ ports_at old x)
      from (The t) = elim (cases_service t s) [ inl same ↦ inl (ap The same) | inr other ↦ inr (ap ports_of (others t other)) ]
      from (ExecAt k) = inr (ap (λ (es : List ExecOffer). exec_at es k) execs)

  -- an offer of Exec by an entry that had none
  pub exec_fits : (o : ExecOffer) → ((t : Service) → single new t ≡ single old t) → new.execs ≡ old.execs ++ o ∷ [] → OfferFits d pool Exec o.by (exec_ports o.ports)
      → exec_of o.by old.execs ≡ None → AreNew old (exec_ports o.ports).inputs → OffersFit d pool new
  exec_fits o singles execs h none fresh = record {
    singles = λ t x e. fit.singles t x (sym (singles t) ∙ e);
    execs = λ k x l e. elim (picks k x l e) [
      | inl old_one ↦ fit.execs k x old_one.0 old_one.1
      | inr last ↦ subst (λ (y : ExecOffer). OfferFits d pool Exec y.by (exec_ports y.ports)) last.1 h
    ];
    once = λ i j x y li ei lj ej same. elim (picks i x li ei) [
      | inl a ↦ elim (picks j y lj ej) [
        | inl b ↦ fit.once i j x y a.0 a.1 b.0 b.1 same
        | inr b ↦ absurd (exec_of-none old.execs o.by i x none a.0 a.1 (same ∙ sym (ap (λ (q : ExecOffer). q.by) b.1)))
      ]
      | inr a ↦ elim (picks j y lj ej) [
        | inl b ↦ absurd (exec_of-none old.execs o.by j y none b.0 b.1 (sym same ∙ sym (ap (λ (q : ExecOffer). q.by) a.1)))
        | inr b ↦ a.0 ∙ sym b.0
      ]
    ];
    apart = offers_apart old new (ExecAt (length old.execs)) (exec_ports o.ports) (ap (λ (es : List ExecOffer). exec_at es (length old.execs)) execs ∙ exec_at-end old.execs o) from fresh fit.apart;
  }
    where
      -- an offer is one of the old, or the last
      picks : (k : ℕ) (x : ExecOffer) → k < length new.execs → get_or new.execs k x ≡ x → ((k < length old.execs) × (get_or old.execs k x ≡ x)) ⊎ ((k ≡ length old.execs) × (o ≡ x))
      picks k x l e =
          let many : length (old.execs ++ o ∷ []) ≡ length old.execs + 1 = length-append old.execs (o ∷ []) in
          let l2 : k < length (old.execs ++ o ∷ []) = subst (λ (es : List ExecOffer). k < length es) execs l in
          let e2 : get_or (old.execs ++ o ∷ []) k x ≡ x = subst (λ (es : List ExecOffer). get_or es k x ≡ x) execs e in
          elim (cases_lt k (length old.execs)) [
            | inl there ↦ inl (there, sym (get_or-append old.execs (o ∷ []) x k there) ∙ e2)
            | inr past ↦
                let at : k ≡ length old.execs = omega arith in
                inr (at, sym (get_or-end old.execs o x) ∙ (ap (λ (j : ℕ). get_or (old.execs ++ o ∷ []) j x) (sym at) ∙ e2))
          ]

      from : (x : OfferKey) → (x ≡ ExecAt (length old.execs)) ⊎ (ports_at new x ≡ ports_at old x)
      from (The t) = inr (ap ports_of (singles t))
      from (ExecAt k) = elim (cases_eq k (length old.execs)) [
        | inl here ↦ inl (ap ExecAt here)
        | inr other ↦ inr (ap (λ (es : List ExecOffer). exec_at es k) execs ∙ exec_at-more old.execs o k other)
      ]

-- ---- a call of a box, from what its steps did

pub builds_of : (by : Owner) (r : Rights) (most n m : ℕ) (old new : World) → Adds old.pool new.pool n → Makes by r old.design new.design m → n + m ≤ most → Builds by r most old new
builds_of by r most n m old new adds makes sum = record { nodes = n; things = m; sum = sum; adds = adds; makes = makes }

pub world_fits : (old new : World) (n m : ℕ) → WorldFits old → Adds old.pool new.pool n → Grows old.design new.design m → (DriversFit old.design new.pool → DriversFit new.design new.pool)
    → (OffersFit new.design new.pool old.reg → OffersFit new.design new.pool new.reg) → WorldFits new
world_fits old new n m fits adds grows drivers offers = record {
  drivers = drivers (drivers_stay old.design old.pool new.pool n adds fits.drivers);
  offers = offers (offers_grown old.design new.design m grows old.pool new.pool n adds old.reg fits.offers);
}
