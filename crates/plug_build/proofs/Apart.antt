-- Inputs of offers are different forward wires, and one more offer leaves them so.
use Rattle.std.proofs.Common.{◌≡◌, ◌∙◌, ℕ, zero, suc, ◌<◌, ◌≤◌, List, [], ◌∷◌, ◌++◌, length, get_or, refl, arith, ap, sym, true, false, eqb, Option, None, Some, inl, inr, ◌⊎◌}
use Rattle.std.proofs.lemmas.Bool.{both_ways, cases_Bool, cond-true, cond-false, eq-eqb, ne_eqb}
use Rattle.hw_pool.specs.Nodes.{PoolValue}
use Rattle.hw_module.specs.Rows.{ModuleValue}
use Rattle.service_reg.specs.declared.service.Service.{Service}
use Rattle.service_reg.specs.declared.service.Service.TheVariants.{Exec}
use Rattle.service_ports.specs.declared.ports.ExecOffer.{ExecOffer}
use Rattle.service_ports.specs.Ports.{Ports, exec_ports, input_shapes}
use Rattle.service_ports.specs.Registry.{RegistryValue, Offered, single, exec_of}
use Rattle.service_ports.proofs.Offers.{none_some}
use Rattle.plug_part.specs.Owned.{is_among, is_input_of, ports_of}
use Rattle.plug_build.specs.Fits.{AreNew, OfferKey, OffersApart, OffersFit, OffersOnce, exec_at, ports_at}
use Rattle.plug_build.specs.Fits.OfferKey.{The, ExecAt}
use Rattle.plug_build.proofs.Offers.{among_inputs}

-- ---- an input is a forward wire of the module

module _ (d : ModuleValue) (pool : PoolValue) (reg : RegistryValue) (fit : OffersFit d pool reg) where
  single-there : (s : Service) (k : ℕ) (o : Option Offered) → single reg s ≡ o → is_input_of (ports_of o) k ≡ true → k < length d.wires
  single-there s k None e is = absurd (both_ways false refl is)
  single-there s k (Some o) e is = (among_inputs d pool o.by o.ports.inputs (input_shapes s) k (fit.singles s o e).inputs is).0

  exec-there : (k : ℕ) (os : List ExecOffer) (j : ℕ) → ((i : ℕ) (o : ExecOffer) → i < length os → get_or os i o ≡ o → (i' : ℕ) × (i' < length reg.execs) × (get_or reg.execs i' o ≡ o))
      → is_input_of (exec_at os j) k ≡ true → k < length d.wires
  exec-there k [] j each is = absurd (both_ways false refl is)
  exec-there k (o ∷ os) zero each is =
      let at = each 0 o (omega arith) refl in
      (among_inputs d pool o.by (exec_ports o.ports).inputs (input_shapes Exec) k (fit.execs at.0 o at.1 at.2).inputs is).0
  exec-there k (o ∷ os) (suc j) each is = exec-there k os j (λ i x l e. each (suc i) x (omega arith) e) is

  input-there : (x : OfferKey) (k : ℕ) → is_input_of (ports_at reg x) k ≡ true → k < length d.wires
  input-there (The s) k is = single-there s k (single reg s) refl is
  input-there (ExecAt j) k is = exec-there k reg.execs j (λ i o l e. (i, l, e)) is

  -- so forward wires that are made later are inputs of no offer
  pub later_new : (ws : List ℕ) → ((k : ℕ) → is_among k ws ≡ true → length d.wires ≤ k) → AreNew reg ws
  later_new ws fresh x k is = elim (cases_Bool (is_among k ws)) [
    | inl among ↦ absurd (let past = fresh k among in let there = input-there x k is in omega (arith, past, there))
    | inr free ↦ free
  ]

-- ---- one more offer

pub offers_apart : (old new : RegistryValue) (here : OfferKey) (p : Ports) → ports_at new here ≡ Some p → ((x : OfferKey) → (x ≡ here) ⊎ (ports_at new x ≡ ports_at old x)) → AreNew old p.inputs
    → OffersApart old → OffersApart new
offers_apart old new here p is from fresh apart x y k hx hy = elim (from x) [
  | inl a ↦ elim (from y) [
    | inl b ↦ a ∙ sym b
    | inr b ↦ absurd (clash x y a b hx hy)
  ]
  | inr a ↦ elim (from y) [
    | inl b ↦ absurd (clash y x b a hy hx)
    | inr b ↦ apart x y k (sym (ap (λ (o : Option Ports). is_input_of o k) a) ∙ hx) (sym (ap (λ (o : Option Ports). is_input_of o k) b) ∙ hy)
  ]
]
  where
    clash : (x y : OfferKey) → x ≡ here → ports_at new y ≡ ports_at old y → is_input_of (ports_at new x) k ≡ true → is_input_of (ports_at new y) k ≡ true → ⊥
    clash x y a b hx hy = both_ways (is_among k p.inputs) (fresh y k (sym (ap (λ (o : Option Ports). is_input_of o k) b) ∙ hy))
        (sym (ap (λ (o : Option Ports). is_input_of o k) (ap (ports_at new) a ∙ is)) ∙ hx)

pub exec_at-end : (os : List ExecOffer) (o : ExecOffer) → exec_at (os ++ o ∷ []) (length os) ≡ Some (exec_ports o.ports)
exec_at-end [] o = refl
exec_at-end (x ∷ xs) o = exec_at-end xs o

pub exec_at-more : (os : List ExecOffer) (o : ExecOffer) (k : ℕ) → (k ≡ length os → ⊥) → exec_at (os ++ o ∷ []) k ≡ exec_at os k
exec_at-more [] o zero apart = absurd (apart refl)
exec_at-more [] o (suc k) apart = refl
exec_at-more (x ∷ xs) o zero apart = refl
exec_at-more (x ∷ xs) o (suc k) apart = exec_at-more xs o k (λ e. apart (ap suc e))

-- ---- offers of Exec by their entries

-- who offers no Exec has none in the list
pub exec_of-none : (os : List ExecOffer) (entry i : ℕ) (o : ExecOffer) → exec_of entry os ≡ None → i < length os → get_or os i o ≡ o → o.by ≡ entry → ⊥
exec_of-none [] entry i o none l is by = omega arith
exec_of-none (x ∷ xs) entry i o none l is by = elim (cases_Bool (eqb x.by entry)) [
  | inl own ↦ none_some _ _ none (cond-true (eqb x.by entry) (Some (exec_ports x.ports)) (exec_of entry xs) own)
  | inr other ↦ later i l is other (λ j below at. exec_of-none xs entry j o (sym (cond-false (eqb x.by entry) (Some (exec_ports x.ports)) (exec_of entry xs) other) ∙ none) below at by)
]
  where
    later : (i : ℕ) → i < suc (length xs) → get_or (x ∷ xs) i o ≡ o → eqb x.by entry ≡ false → ((j : ℕ) → j < length xs → get_or xs j o ≡ o → ⊥) → ⊥
    later zero l is other rest = both_ways (eqb x.by entry) other (eq-eqb x.by entry (ap (λ (q : ExecOffer). q.by) is ∙ by))
    later (suc i) l is other rest = rest i (omega arith) is

-- each offer in the list is what its entry offers
pub exec_of-at : (os : List ExecOffer) → OffersOnce os → (k : ℕ) (o : ExecOffer) → k < length os → get_or os k o ≡ o → exec_of o.by os ≡ Some (exec_ports o.ports)
exec_of-at [] once k o l is = absurd (omega arith)
exec_of-at (x ∷ xs) once zero o l is =
    cond-true (eqb x.by o.by) (Some (exec_ports x.ports)) (exec_of o.by xs) (eq-eqb x.by o.by (ap (λ (q : ExecOffer). q.by) is)) ∙ ap (λ (q : ExecOffer). Some (exec_ports q.ports)) is
exec_of-at (x ∷ xs) once (suc k) o l is =
    let other : eqb x.by o.by ≡ false = ne_eqb x.by o.by (λ e. let never : 0 ≡ suc k = once 0 (suc k) x o (omega arith) refl l is e in omega arith) in
    cond-false (eqb x.by o.by) (Some (exec_ports x.ports)) (exec_of o.by xs) other
    ∙ exec_of-at xs (λ i j a b li ai lj bj e. let same : suc i ≡ suc j = once (suc i) (suc j) a b (omega arith) ai (omega arith) bj e in omega arith) k o (omega arith) is
