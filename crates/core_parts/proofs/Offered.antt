-- What a registry says of who offers what.
use Rattle.std.proofs.Common.{◌≡◌, ℕ, suc, Bool, true, false, cond, eqb, ◌||◌, List, [], ◌∷◌, map, refl, arith, subst, is_some, Option, None, Some, inl, inr}
use Rattle.std.specs.Prelude.{All}
use Rattle.std.proofs.lemmas.Bool.{or_cases, or_left, or_right, both_ways, eqb-true}
use Rattle.service_reg.specs.declared.service.Service.{Service}
use Rattle.service_reg.specs.declared.service.Service.TheVariants.{Fetch, Predict, Decoder, RegFile, Hazard, Exec, DataBus, System}
use Rattle.service_ports.specs.declared.ports.ExecOffer.{ExecOffer}
use Rattle.service_ports.specs.Ports.{Ports, exec_ports}
use Rattle.service_ports.specs.Registry.{RegistryValue, Offered, single, exec_of, offer_of}
use Rattle.plug_law.specs.Pipeline.{member}
use Rattle.plug_part.specs.Owned.{offers}
use Rattle.plug_build.proofs.Offers.{own_picked}
use Rattle.part_laws.specs.Registered.{execs_of}

-- what is there
pub there_is : {A : Type 0} (o : Option A) → is_some o ≡ true → (x : A) × (o ≡ Some x)
there_is None h = absurd (both_ways false refl h)
there_is (Some x) h = (x, refl)

module _ (reg : RegistryValue) where
  -- what an entry offers of a service that one entry alone may offer is what is offered of it
  pub single_of : (entry : ℕ) (s : Service) (p : Ports) → (s ≡ Exec → ⊥) → offer_of reg entry s ≡ Some p → single reg s ≡ Some (record { by = entry; ports = p })
  single_of entry Fetch p ne e = own_picked entry (single reg Fetch) p e
  single_of entry Predict p ne e = own_picked entry (single reg Predict) p e
  single_of entry Decoder p ne e = own_picked entry (single reg Decoder) p e
  single_of entry RegFile p ne e = own_picked entry (single reg RegFile) p e
  single_of entry Hazard p ne e = own_picked entry (single reg Hazard) p e
  single_of entry Exec p ne e = absurd (ne refl)
  single_of entry DataBus p ne e = own_picked entry (single reg DataBus) p e
  single_of entry System p ne e = own_picked entry (single reg System) p e

  -- who offers it
  pub single_by : (entry : ℕ) (s : Service) → (s ≡ Exec → ⊥) → offers reg entry s ≡ true → (o : Offered) × (single reg s ≡ Some o) × (o.by ≡ entry)
  single_by entry s ne h = let p = there_is (offer_of reg entry s) h in (record { by = entry; ports = p.0 }, single_of entry s p.0 ne p.1, refl)

-- ---- the offers of Exec

member_from : (entry : ℕ) (os : List ExecOffer) → is_some (exec_of entry os) ≡ true → member entry (map (λ (o : ExecOffer). o.by) os) ≡ true
member_from entry [] h = h
member_from entry (o ∷ os) h = go (λ q. member_from entry os q) (eqb o.by entry) refl h
  where
    go : (is_some (exec_of entry os) ≡ true → member entry (map (λ (o : ExecOffer). o.by) os) ≡ true) → (b : Bool) → eqb o.by entry ≡ b
        → is_some (cond b (Some (exec_ports o.ports)) (exec_of entry os)) ≡ true → (eqb o.by entry || member entry (map (λ (o : ExecOffer). o.by) os)) ≡ true
    go later true is h = or_left (eqb o.by entry) _ is
    go later false is h = or_right (eqb o.by entry) _ (later h)

offer_from : (entry : ℕ) (os : List ExecOffer) → member entry (map (λ (o : ExecOffer). o.by) os) ≡ true → is_some (exec_of entry os) ≡ true
offer_from entry [] h = h
offer_from entry (o ∷ os) h = go (λ q. offer_from entry os q) (eqb o.by entry) h
  where
    go : (member entry (map (λ (o : ExecOffer). o.by) os) ≡ true → is_some (exec_of entry os) ≡ true) → (b : Bool) → (b || member entry (map (λ (o : ExecOffer). o.by) os)) ≡ true → is_some (cond b (Some (exec_ports o.ports)) (exec_of entry os)) ≡ true
    go later true h = refl
    go later false h = later h

member_of : (P : ℕ → Type 0) (entry : ℕ) (os : List ExecOffer) → All (λ (o : ExecOffer). P o.by) os → member entry (map (λ (o : ExecOffer). o.by) os) ≡ true → P entry
member_of P entry [] all h = absurd (both_ways false refl h)
member_of P entry (o ∷ os) all h = elim (or_cases (eqb o.by entry) (member entry (map (λ (o : ExecOffer). o.by) os)) h) [
  | inl here ↦ subst P (eqb-true o.by entry here) (all 0 o (omega arith))
  | inr later ↦ member_of P entry os (λ i d l. all (suc i) d (omega arith)) later
]

module _ (reg : RegistryValue) where
  -- the entries that offer Exec are those of the registry's list
  pub is_member : (entry : ℕ) → offers reg entry Exec ≡ true → member entry (execs_of reg) ≡ true
  is_member entry h = member_from entry reg.execs h

  pub member_offers : (entry : ℕ) → member entry (execs_of reg) ≡ true → offers reg entry Exec ≡ true
  member_offers entry h = offer_from entry reg.execs h

  pub member_has : (P : ℕ → Type 0) → All (λ (o : ExecOffer). P o.by) reg.execs → (entry : ℕ) → member entry (execs_of reg) ≡ true → P entry
  member_has P all entry h = member_of P entry reg.execs all h
