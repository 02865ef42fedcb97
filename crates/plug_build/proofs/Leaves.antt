-- What one entry leaves to the parts of the others, in both of its calls.
use Rattle.std.proofs.Common.{◌≡◌, ◌∙◌, ℕ, ◌≤◌, List, length, refl, ap, sym, subst, Bool, true, false, eqb, ◌||◌, ◌&&◌, is_some, Option, None, Some, inl, inr}
use Rattle.std.proofs.lemmas.Bool.{cases_Bool, cases_eq, or_cases, eqb-true, eq-eqb, both_ways, and_parts, or_left, or_right, cond-true, false_from_ne_true}
use Rattle.hw_module.specs.declared.rows.Owner.{Owner}
use Rattle.std.proofs.Common.{get_or}
use Rattle.std.proofs.lemmas.Bool.{cases_lt}
use Rattle.std.proofs.lemmas.List.{get_or_past}
use Rattle.hw_module.specs.declared.rows.WireRow.{WireRow}
use Rattle.hw_module.specs.declared.rows.RegRow.{RegRow}
use Rattle.hw_module.specs.declared.rows.ArrayRow.{ArrayRow}
use Rattle.hw_module.specs.declared.rows.Owner.TheVariants.{Pipe, Entry}
use Rattle.hw_module.specs.Rows.{wire_at}
use Rattle.service_reg.specs.declared.service.Service.{Service}
use Rattle.service_reg.specs.declared.service.Service.TheVariants.{Fetch, Predict, Decoder, RegFile, Hazard, Exec, DataBus, System}
use Rattle.service_ports.specs.Ports.{Ports}
use Rattle.service_ports.specs.Registry.{RegistryValue, Offered, single, own_single, offer_of, OffersBy}
use Rattle.plug_build.specs.World.{World, Builds, early_rights, late_rights}
use Rattle.hw_module.specs.Rights.{Rights}
use Rattle.plug_build.specs.Done.{OwnsNothing, AreOpen}
use Rattle.plug_build.specs.Fits.{WorldFits}
use Rattle.plug_part.specs.Owned.{is_input_of, is_own_input, is_predict_input, is_out_of, is_fetch_out, is_bus_out, offers, ports_of}
use Rattle.plug_build.specs.Frame.{Leaves, PredictStays}
use Rattle.plug_build.specs.Frame.PredictStays.{Stays, Comes}
use Rattle.service_ports.proofs.Offers.{none_some}
use Rattle.plug_build.proofs.Offers.{own_picked, offer_kept, predict_input_is}
use Rattle.plug_build.proofs.Frame.{some_eq}

pub entry_eq : (a b : ℕ) → Entry a ≡ Entry b → a ≡ b
entry_eq a b e = cc

offered-is : (entry : ℕ) (o : Option Offered) → is_some (own_single entry o) ≡ true → (p : Ports) × (o ≡ Some (record { by = entry; ports = p }))
offered-is entry o h = pick (own_single entry o) refl h
  where
    pick : (q : Option Ports) → own_single entry o ≡ q → is_some q ≡ true → (p : Ports) × (o ≡ Some (record { by = entry; ports = p }))
    pick None e h = absurd (both_ways false refl h)
    pick (Some p) e h = (p, own_picked entry o p e)

-- one entry alone offers such a service
one-by : (a b : ℕ) (o : Option Offered) → is_some (own_single a o) ≡ true → is_some (own_single b o) ≡ true → a ≡ b
one-by a b o ha hb =
    let x = offered-is a o ha in
    let y = offered-is b o hb in
    ap (λ (q : Offered). q.by) (some_eq (sym x.1 ∙ y.1))

pub disjoint_outs : (p : ℕ) → is_fetch_out p ≡ true → is_bus_out p ≡ true → ⊥
disjoint_outs p f b = elim (or_cases (eqb p 2) (eqb p 4) f) [
  | inl x ↦ let e : p ≡ 2 = eqb-true p 2 x in let bad : is_bus_out 2 ≡ true = subst (λ (q : ℕ). is_bus_out q ≡ true) e b in both_ways false refl bad
  | inr x ↦ let e : p ≡ 4 = eqb-true p 4 x in let bad : is_bus_out 4 ≡ true = subst (λ (q : ℕ). is_bus_out q ≡ true) e b in both_ways false refl bad
]

-- an output of the core is of one entry alone
pub one_out : (r : RegistryValue) (a b p : ℕ) → (a ≡ b → ⊥) → is_out_of r a p ≡ true → is_out_of r b p ≡ false
one_out r a b p apart ha = false_from_ne_true _ (λ hb. elim (or_cases (offers r a Fetch && is_fetch_out p) (offers r a DataBus && is_bus_out p) ha) [
  | inl fa ↦
      let x = and_parts (offers r a Fetch) (is_fetch_out p) fa in
      elim (or_cases (offers r b Fetch && is_fetch_out p) (offers r b DataBus && is_bus_out p) hb) [
        | inl fb ↦ apart (one-by a b (single r Fetch) x.0 (and_parts (offers r b Fetch) (is_fetch_out p) fb).0)
        | inr bb ↦ disjoint_outs p x.1 (and_parts (offers r b DataBus) (is_bus_out p) bb).1
      ]
  | inr ba ↦
      let x = and_parts (offers r a DataBus) (is_bus_out p) ba in
      elim (or_cases (offers r b Fetch && is_fetch_out p) (offers r b DataBus && is_bus_out p) hb) [
        | inl fb ↦ disjoint_outs p (and_parts (offers r b Fetch) (is_fetch_out p) fb).1 x.1
        | inr bb ↦ apart (one-by a b (single r DataBus) x.0 (and_parts (offers r b DataBus) (is_bus_out p) bb).0)
      ]
])

pub by_self : (entry : ℕ) (p : Ports) (o : Option Offered) → o ≡ Some (record { by = entry; ports = p }) → own_single entry o ≡ Some p
by_self entry p o e = ap (own_single entry) e ∙ cond-true (eqb entry entry) (Some p) None (eq-eqb entry entry refl)

-- what is offered newly is of the entry that builds
came : (e : ℕ) (r r' : RegistryValue) (s : Service) (o : Offered) → OffersBy e r r' → single r s ≡ None → single r' s ≡ Some o → single r' s ≡ Some (record { by = e; ports = o.ports })
came e r r' s o h none is = let own : o.by ≡ e = h.added s o none is in is ∙ (λ i. Some (record { by = own i; ports = o.ports }))

pub single_offers : (r : RegistryValue) (e : ℕ) (s : Service) (p : Ports) → single r s ≡ Some (record { by = e; ports = p }) → offers r e s ≡ true
single_offers r e Fetch p h = ap (λ (q : Option Ports). is_some q) (by_self e p (single r Fetch) h)
single_offers r e Predict p h = ap (λ (q : Option Ports). is_some q) (by_self e p (single r Predict) h)
single_offers r e Decoder p h = ap (λ (q : Option Ports). is_some q) (by_self e p (single r Decoder) h)
single_offers r e RegFile p h = ap (λ (q : Option Ports). is_some q) (by_self e p (single r RegFile) h)
single_offers r e Hazard p h = ap (λ (q : Option Ports). is_some q) (by_self e p (single r Hazard) h)
single_offers r e Exec p h = absurd (none_some None _ refl h)
single_offers r e DataBus p h = ap (λ (q : Option Ports). is_some q) (by_self e p (single r DataBus) h)
single_offers r e System p h = ap (λ (q : Option Ports). is_some q) (by_self e p (single r System) h)

module _ (takes : Service → Bool) (x e most : ℕ) (old new : World) (apart : x ≡ e → ⊥) (fits : WorldFits old) where
  other-owner : (k y : ℕ) → (y ≡ e → ⊥) → (wire_at old.design.wires k).owner ≡ Entry y → (wire_at old.design.wires k).owner ≡ Entry e → ⊥
  other-owner k y ne own is = ne (entry_eq y e (sym own ∙ is))

  pub early_leaves : Builds (Entry e) (early_rights new.reg e) most old new → OffersBy e old.reg new.reg → AreOpen e new → ((s : Service) → offer_of old.reg e s ≡ None)
      → ((s : Service) → takes s ≡ true → offers new.reg e s ≡ false) → Leaves takes x (early_rights new.reg e) old new
  early_leaves h by bare nothing before = record {
    offers_kept = offer_kept x e apart old.reg new.reg by;
    took = λ s t. stays s t (single old.reg s) refl (single new.reg s) refl;
    wires = λ k own free. refl;
    outs = λ p is. one_out new.reg x e p apart (ap (λ (q : Option Ports). (is_some q && is_fetch_out p) || (offers new.reg x DataBus && is_bus_out p)) (offer_kept x e apart old.reg new.reg by Fetch)
        ∙ ap (λ (q : Option Ports). (offers old.reg x Fetch && is_fetch_out p) || (is_some q && is_bus_out p)) (offer_kept x e apart old.reg new.reg by DataBus) ∙ is);
    predicts = λ k fetches. predict k (single old.reg Predict) refl (single new.reg Predict) refl;
  }
    where
      stays : (s : Service) → takes s ≡ true → (a : Option Offered) → single old.reg s ≡ a → (b : Option Offered) → single new.reg s ≡ b → single new.reg s ≡ single old.reg s
      stays s t (Some o) is b now = by.kept s o is ∙ sym is
      stays s t None is None now = now ∙ sym is
      stays s t None is (Some o) now = absurd (both_ways (offers new.reg e s) (before s t) (single_offers new.reg e s o.ports (came e old.reg new.reg s o by is now)))

      predict : (k : ℕ) (a : Option Offered) → single old.reg Predict ≡ a → (b : Option Offered) → single new.reg Predict ≡ b → PredictStays old new k
      predict k (Some o) is b now =
          Stays (ap (λ (q : Option Offered). is_input_of (ports_of q) k) (by.kept Predict o is ∙ sym is))
          (λ input.
          let y = predict_input_is old.design old.pool old.reg fits.offers k input in
          let other : y.0 ≡ e → ⊥ = λ same.
          let o_is : is_input_of (own_single e (single old.reg Predict)) k ≡ false = ap (λ (q : Option Ports). is_input_of q k) (nothing Predict) in
          let y_is : is_own_input old.reg e k ≡ true = subst (λ (z : ℕ). is_own_input old.reg z k ≡ true) same y.3 in
          both_ways (is_own_input old.reg e k) (none-input k) y_is in
          (y.1, h.makes.wires k y.1 (other-owner k y.0 other y.2) refl))
        where
          none-input : (k : ℕ) → is_own_input old.reg e k ≡ false
          none-input k = λ i. is_input_of (nothing Fetch i) k || (is_input_of (nothing Predict i) k || (is_input_of (nothing Decoder i) k || (is_input_of (nothing RegFile i) k
              || (is_input_of (nothing Hazard i) k || (is_input_of (nothing Exec i) k || (is_input_of (nothing DataBus i) k || is_input_of (nothing System i) k))))))
      predict k None is None now = Stays (ap (λ (q : Option Offered). is_input_of (ports_of q) k) (now ∙ sym is)) (λ input. absurd (both_ways _ (ap (λ (q : Option Offered). is_input_of (ports_of q) k) is) input))
      predict k None is (Some o) now = elim (cases_Bool (is_predict_input new.reg k)) [
        | inr miss ↦
            let none : is_predict_input old.reg k ≡ false = ap (λ (q : Option Offered). is_input_of (ports_of q) k) is in
            Stays (miss ∙ sym none) (λ input. absurd (both_ways (is_predict_input old.reg k) none input))
        | inl input ↦
            let mine : own_single e (single new.reg Predict) ≡ Some o.ports = by_self e o.ports (single new.reg Predict) (came e old.reg new.reg Predict o by is now) in
            let among : is_input_of (Some o.ports) k ≡ true = ap (λ (q : Option Offered). is_input_of (ports_of q) k) (sym now) ∙ input in
            let own : is_own_input new.reg e k ≡ true = or_right (is_input_of (offer_of new.reg e Fetch) k) _ (or_left _ _ (ap (λ (q : Option Ports). is_input_of q k) mine ∙ among)) in
            Comes (ap (λ (q : Option Offered). is_input_of (ports_of q) k) is) (bare k own)
      ]

  pub late_leaves : Builds (Entry e) (late_rights old.reg e) most old new → new.reg ≡ old.reg → Leaves takes x (late_rights old.reg e) old new
  late_leaves h same = record {
    offers_kept = λ s. ap (λ (r : RegistryValue). offer_of r x s) same;
    took = λ s t. ap (λ (r : RegistryValue). single r s) same;
    wires = λ k own free. false_from_ne_true _ (λ right.
        let y = predict_input_is old.design old.pool old.reg fits.offers k (and_parts (offers old.reg e Fetch) (is_predict_input old.reg k) right).1 in
        let is_x : y.0 ≡ x = entry_eq y.0 x (sym y.2 ∙ own) in
        both_ways (is_own_input old.reg x k) free (subst (λ (z : ℕ). is_own_input old.reg z k ≡ true) is_x y.3));
    outs = λ p is. one_out old.reg x e p apart is;
    predicts = λ k fetches. Stays (ap (λ (r : RegistryValue). is_predict_input r k) same) (λ input.
        let y = predict_input_is old.design old.pool old.reg fits.offers k input in
        let right : (offers old.reg e Fetch && is_predict_input old.reg k) ≡ false = false_from_ne_true _ (λ r. apart (one-by x e (single old.reg Fetch) fetches (and_parts (offers old.reg e Fetch) (is_predict_input old.reg k) r).0)) in (
          y.1,
          elim (cases_eq y.0 e) [
            | inl is_e ↦ h.makes.locked k y.1 (subst (λ (z : ℕ). is_own_input old.reg z k ≡ true) is_e y.3) right
            | inr other ↦ h.makes.wires k y.1 (other-owner k y.0 other y.2) right
          ],
        ));
  }

-- what an entry makes gives nothing to another
past-owner : {A : Type 0} (owner : A → Owner) (rows : List A) (d : A) (k n : ℕ) → owner d ≡ Pipe → length rows ≤ k → owner (get_or rows k d) ≡ Entry n → ⊥
past-owner owner rows d k n pipe l own = let e : Pipe ≡ Entry n = sym pipe ∙ (ap owner (sym (get_or_past rows k d l)) ∙ own) in cc

pub nothing_kept : (x e most : ℕ) (r : Rights) (old new : World) → (x ≡ e → ⊥) → Builds (Entry e) r most old new → OffersBy e old.reg new.reg → OwnsNothing x old → OwnsNothing x new
nothing_kept x e most r old new apart h by fresh = record {
  wires = λ k own. elim (cases_lt k (length old.design.wires)) [
    | inl here ↦ fresh.wires k (sym (h.makes.grows.wires k here).owner ∙ own)
    | inr after ↦ elim (cases_lt k (length new.design.wires)) [
      | inl there ↦ apart (entry_eq x e (sym own ∙ h.makes.new_wires k after there))
      | inr past ↦ past-owner (λ (row : WireRow). row.owner) new.design.wires _ k x refl past own
    ]
  ];
  regs = λ k own. elim (cases_lt k (length old.design.regs)) [
    | inl here ↦ fresh.regs k (sym (h.makes.grows.regs k here).owner ∙ own)
    | inr after ↦ elim (cases_lt k (length new.design.regs)) [
      | inl there ↦ apart (entry_eq x e (sym own ∙ h.makes.new_regs k after there))
      | inr past ↦ past-owner (λ (row : RegRow). row.owner) new.design.regs _ k x refl past own
    ]
  ];
  arrays = λ k own. elim (cases_lt k (length old.design.arrays)) [
    | inl here ↦ fresh.arrays k (sym (h.makes.grows.arrays k here).owner ∙ own)
    | inr after ↦ elim (cases_lt k (length new.design.arrays)) [
      | inl there ↦ apart (entry_eq x e (sym own ∙ h.makes.new_arrays k after there))
      | inr past ↦ past-owner (λ (row : ArrayRow). row.owner) new.design.arrays _ k x refl past own
    ]
  ];
  offers = λ s. offer_kept x e apart old.reg new.reg by s ∙ fresh.offers s;
}
