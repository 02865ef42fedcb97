-- The units of a registry fit together with its services.
use Rattle.std.proofs.Common.{◌≡◌, ◌∙◌, ℕ, zero, suc, ◌+◌, ◌<◌, Bool, true, false, cond, eqb, List, [], ◌∷◌, map, length, get_or, refl, sym, ap, Some, is_some, arith}
use Rattle.std.specs.Prelude.{All}
use Rattle.std.proofs.lemmas.Bool.{eqb-true, eq-eqb}
use Rattle.std.proofs.lemmas.List.Elements.{All-nil, All-cons}
use Rattle.hw_pool.specs.declared.node.Node.{Node}
use Rattle.service_reg.specs.declared.service.Service.{Service}
use Rattle.service_ports.specs.declared.ports.ExecOffer.{ExecOffer}
use Rattle.service_ports.specs.Ports.{exec_ports}
use Rattle.service_ports.specs.Registry.{exec_of}
use Rattle.plug_part.specs.Part.{PortTrees}
use Rattle.plug_part.specs.Of.{port_trees}
use Rattle.plug_part.specs.Signals.{or_none}
use Rattle.plug_law.specs.Pipeline.{Shape}
use Rattle.plug_build.specs.World.{World}
use Rattle.plug_build.specs.Fits.{OffersOnce}
use Rattle.part_laws.specs.Registered.{execs_of, services_of}
use Rattle.pipe_steps.specs.Things.{PipeUnit, AreUnitsOf, chosen_among}
use Rattle.pipe_steps.specs.Numbers.{chosen_from, units_of, tail_from, things_from}
use Rattle.pipe_steps.specs.Drives.{PipeDrives}
use Rattle.pipe_steps.specs.Steps.{IsPipeline}

module _ (nodes : List Node) where
  pub entries_are : (os : List ExecOffer) (us : List PipeUnit) → AreUnitsOf nodes os us → map (λ (o : ExecOffer). o.by) os ≡ map (λ (u : PipeUnit). u.entry) us
  entries_are [] [] h = refl
  entries_are [] (u ∷ us) h = absurd h
  entries_are (o ∷ os) [] h = absurd h
  entries_are (o ∷ os) (u ∷ us) h = let rest = entries_are os us h.2 in λ i. sym h.0 i ∷ rest i

  -- the ports that an entry has among offers
  abbrev ports_for : List ExecOffer → ℕ → PortTrees
  ports_for os k = or_none (port_trees nodes (exec_of k os))

  -- no offer behind the first is the first one's
  apart : (o : ExecOffer) (os : List ExecOffer) → OffersOnce (o ∷ os) → (j : ℕ) (q : ExecOffer) → j < length os → get_or os j q ≡ q → o.by ≡ q.by → ⊥
  apart o os once j q l is e = let h = once 0 (suc j) o q (omega arith) refl (omega arith) is e in cc

  fewer : (o : ExecOffer) (os : List ExecOffer) → OffersOnce (o ∷ os) → OffersOnce os
  fewer o os once i j a b l is k at e = let h = once (suc i) (suc j) a b (omega arith) is (omega arith) at e in cc

  differ : (o : ExecOffer) (os : List ExecOffer) (us : List PipeUnit) → AreUnitsOf nodes os us
      → ((j : ℕ) (q : ExecOffer) → j < length os → get_or os j q ≡ q → o.by ≡ q.by → ⊥) → All (λ (u : PipeUnit). eqb o.by u.entry ≡ false) us
  differ o [] [] h far = All-nil (λ (u : PipeUnit). eqb o.by u.entry ≡ false)
  differ o [] (u ∷ us) h far = absurd h
  differ o (q ∷ os) [] h far = absurd h
  differ o (q ∷ os) (u ∷ us) h far =
      All-cons (λ (u : PipeUnit). eqb o.by u.entry ≡ false) u us (go (eqb o.by u.entry) refl (far 0 q (omega arith) refl))
      (differ o os us h.2 (λ j x l is. far (suc j) x (omega arith) is))
    where
      go : (b : Bool) → eqb o.by u.entry ≡ b → (o.by ≡ q.by → ⊥) → b ≡ false
      go true e never = absurd (never (eqb-true o.by u.entry e ∙ h.0))
      go false e never = refl

  pub chosen_are : (os : List ExecOffer) (us : List PipeUnit) → AreUnitsOf nodes os us → OffersOnce os → All (λ (u : PipeUnit). chosen_among us u.entry ≡ u.chosen) us
  chosen_are [] [] h once = All-nil (λ (u : PipeUnit). chosen_among [] u.entry ≡ u.chosen)
  chosen_are [] (u ∷ us) h once = absurd h
  chosen_are (o ∷ os) [] h once = absurd h
  chosen_are (o ∷ os) (u ∷ us) h once =
      let far = differ o os us h.2 (apart o os once) in
      let rest = chosen_are os us h.2 (fewer o os once) in
      All-cons (λ (x : PipeUnit). chosen_among (u ∷ us) x.entry ≡ x.chosen) u us
      (ap (λ b. cond b u.chosen (chosen_among us u.entry)) (eq-eqb u.entry u.entry refl))
      (λ j e l. ap (λ b. cond b u.chosen (chosen_among us (get_or us j e).entry)) (ap (λ n. eqb n (get_or us j e).entry) h.0 ∙ far j e l) ∙ rest j e l)

  pub ports_are : (os : List ExecOffer) (us : List PipeUnit) → AreUnitsOf nodes os us → OffersOnce os → All (λ (u : PipeUnit). ports_for os u.entry ≡ u.ports) us
  ports_are [] [] h once = All-nil (λ (u : PipeUnit). ports_for [] u.entry ≡ u.ports)
  ports_are [] (u ∷ us) h once = absurd h
  ports_are (o ∷ os) [] h once = absurd h
  ports_are (o ∷ os) (u ∷ us) h once =
      let far = differ o os us h.2 (apart o os once) in
      let rest = ports_are os us h.2 (fewer o os once) in
      All-cons (λ (x : PipeUnit). ports_for (o ∷ os) x.entry ≡ x.ports) u us
      (ap (λ b. or_none (port_trees nodes (cond b (Some (exec_ports o.ports)) (exec_of u.entry os)))) (eq-eqb o.by u.entry (sym h.0)) ∙ sym h.1)
      (λ j e l. ap (λ b. or_none (port_trees nodes (cond b (Some (exec_ports o.ports)) (exec_of (get_or us j e).entry os)))) (far j e l) ∙ rest j e l)

  -- units with registers that follow each other are those of the offers
  pub units_are : (c : ℕ) (os : List ExecOffer) → AreUnitsOf nodes os (units_of nodes c os)
  units_are c [] = tt
  units_are c (o ∷ os) = (refl, refl, units_are (c + 1) os)

  pub chosen_is : (c : ℕ) (os : List ExecOffer) (entry : ℕ) → chosen_from c os entry ≡ chosen_among (units_of nodes c os) entry
  chosen_is c [] entry = refl
  chosen_is c (o ∷ os) entry = ap (cond (eqb o.by entry) c) (chosen_is (c + 1) os entry)

pub tail_is_long : (r places : ℕ) → length (tail_from r places) ≡ places
tail_is_long r zero = refl
tail_is_long r (suc n) = ap suc (tail_is_long (r + 3) n)

pub is_pipeline : (takes : ℕ → Service → Bool) (w : World) (wire reg : ℕ) (shape : Shape) → shape.entries ≡ execs_of w.reg
    → shape.system ≡ is_some (services_of takes w.pool.nodes w.reg).system
    → PipeDrives w.design w.pool.nodes (things_from w.pool.nodes wire reg w.reg.execs (services_of takes w.pool.nodes w.reg) shape)
    → IsPipeline takes w (things_from w.pool.nodes wire reg w.reg.execs (services_of takes w.pool.nodes w.reg) shape)
is_pipeline takes w wire reg shape entries system drives = record {
  services = refl;
  units = units_are w.pool.nodes (reg + 15) w.reg.execs;
  chosen = chosen_is w.pool.nodes (reg + 15) w.reg.execs;
  entries = entries;
  system = system;
  drives = drives;
}
