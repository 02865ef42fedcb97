-- What is known of the plug-ins of an accepted plan once they have built.
use Rattle.std.proofs.Common.{◌≡◌, ◌∙◌, ℕ, ◌<◌, ◌≤◌, ◌↔◌, ◌%◌, ◌||◌, true, false, List, [], ◌∷◌, length, get_or, refl, arith, ap, sym, subst, Option, Some, inl, inr}
use Rattle.std.specs.Prelude.{All}
use Rattle.std.specs.Bool.{IsTrue}
use Rattle.std.proofs.lemmas.Bool.{both_ways, cases_lt}
use Rattle.std.proofs.lemmas.List.{get_or-map, get_or_past, length-map}
use Rattle.stage_map.specs.declared.config.Config.{Config}
use Rattle.stage_map.specs.declared.config.PlugEntry.{PlugEntry}
use Rattle.service_reg.specs.declared.service.Service.{Service}
use Rattle.service_reg.specs.declared.service.Service.TheVariants.{Exec, DataBus, System}
use Rattle.service_reg.specs.declared.service.ServiceUse.{ServiceUse}
use Rattle.service_reg.specs.Services.{no_use, IsOffered, HasNoServiceFault}
use Rattle.std.specs.List.{Contains}
use Rattle.service_ports.specs.declared.ports.ExecOffer.{ExecOffer}
use Rattle.service_ports.specs.Registry.{Offered, single}
use Rattle.plug_part.specs.Owned.{offers}
use Rattle.plug_part.specs.Meets.{MeetsLaws}
use Rattle.plug_build.specs.World.{World, part_in}
use Rattle.plug_build.specs.Done.{IsDone}
use Rattle.plug_api.specs.declared.spec.ParamFault.{ParamFault}
use Rattle.plug_api.specs.declared.spec.Plan.{Plan}
use Rattle.plug_api.specs.declared.spec.Place.{Place}
use Rattle.plug_api.specs.declared.spec.Place.TheVariants.{Execute, Commit, Apart}
use Rattle.plug_api.specs.declared.spec.PlugSpec.{PlugSpec}
use Rattle.plug_api.specs.Spec.{is_among, is_commit, has_place, no_spec, IsSpec}
use Rattle.plug_api.specs.Picks.{AreConfigured}
use Rattle.plug_api.specs.Accept.{use_of, uses_of, IsAccepted, MayBe}
use Rattle.plug_api.specs.Calls.{IsLawful, OffersItsOwn, takes_of, terms_of}
use Rattle.plug_api.proofs.Plans.{lawful}
use Rattle.plug_join.specs.Joined.{box_of, AreBuilt}
use Rattle.plug_join.proofs.Accepted.{has, lists}
use Rattle.core_parts.specs.Laid.{said_by, part_by}
use Rattle.core_parts.proofs.Offered.{single_by}

pub record Facts (plan : Plan) (specs : List PlugSpec) (w : World) : Type 0 where
  pub size : length specs ≡ length plan.picks
  -- what is said, and the plan
  pub fit : (e : ℕ) → e < length specs → IsSpec (said_by specs e)
  pub lawful : (e : ℕ) → e < length specs → IsLawful (said_by specs e) plan e
  pub services : HasNoServiceFault (uses_of specs)
  pub has_csr : IsTrue plan.has_csr ↔ IsOffered (uses_of specs) System
  pub aligned : plan.shape.reset_pc % 4 ≡ 0
  pub few : plan.shape.stages ≤ 4
  -- what is offered
  pub offered : (e : ℕ) → e < length specs → OffersItsOwn (said_by specs e) e w.reg
  pub singles : (s : Service) (o : Offered) → single w.reg s ≡ Some o → o.by < length specs
  pub execs : All (λ (o : ExecOffer). o.by < length specs) w.reg.execs
  -- what is built
  pub laws : (e : ℕ) → e < length specs → MeetsLaws (terms_of (said_by specs e) plan) (part_by specs w e)
  pub done : (e : ℕ) → e < length specs → IsDone e w

-- ---- from an accepted plan

-- a list with a place has an element
element : {B : Type 0} (l : List B) (k : ℕ) → k < length l → B
element [] k l = absurd (omega (arith, l))
element (b ∷ bs) k l = b

module _ {B : Type 0} (kind : B → List ℕ) (taken : B → Option PlugEntry) (now : B → PlugSpec) (fault : B → PlugEntry → Option ParamFault) (spec : B → PlugEntry → PlugSpec)
    (old new : List B) (cfg : Config) (plan : Plan) (w : World) (may : MayBe cfg) (is : IsAccepted kind fault spec old cfg plan)
    (configured : AreConfigured kind taken now fault spec old new plan.picks cfg.entries (length cfg.entries)) (built : AreBuilt now new plan w) where
  pub entries : length is.specs ≡ length cfg.entries
  entries = is.known.taken.one_each

  pub pickings : length plan.picks ≡ length cfg.entries
  pickings = is.known.named.picked.one_each

  -- a box, where there is an entry
  pub any : (e : ℕ) → e < length is.specs → B
  any e l = element old (get_or plan.picks e 0) (is.known.named.picked.each e (omega (arith, l, entries))).there

  pub said_is : (d : B) (e : ℕ) → e < length is.specs → now (box_of new plan d e) ≡ said_by is.specs e
  said_is d e l = configured.spec_is d e (omega (arith, entries)) ∙ sym (is.known.taken.are d e (omega (arith, entries)))

  lawful_at : (d : B) (e : ℕ) → e < length is.specs → IsLawful (said_by is.specs e) plan e
  lawful_at d e l = subst (λ (s : PlugSpec). IsLawful s plan e) (sym (is.known.taken.are d e (omega (arith, entries)))) (lawful kind fault spec old cfg plan may is d e (omega (arith, l, entries)))

  pub facts : Facts plan is.specs w
  facts = record {
    size = entries ∙ sym pickings;
    fit = λ e l. is.known.taken.fit e (omega (arith, l, entries));
    lawful = λ e l. lawful_at (any e l) e l;
    services = is.hold.services;
    has_csr = is.plan_is.has_csr;
    aligned = ap (λ s. s.reset_pc % 4) is.plan_is.shape_is ∙ may.aligned;
    few = subst (λ s. s.stages ≤ 4) (sym is.plan_is.shape_is) may.at_most;
    offered = λ e l. subst (λ (s : PlugSpec). OffersItsOwn s e w.reg) (said_is (any e l) e l) (built.offered (any e l) e (omega (arith, l, entries, pickings)));
    singles = λ s o h. let b = built.singles s o h in omega (arith, b, entries, pickings);
    execs = λ i d l. let b = built.execs i d l in omega (arith, b, entries, pickings);
    laws = λ e l. subst (λ (s : PlugSpec). MeetsLaws (terms_of s plan) (part_in (takes_of s) e w)) (said_is (any e l) e l) (built.laws (any e l) e (omega (arith, l, entries, pickings)));
    done = λ e l. built.done e (omega (arith, l, entries, pickings));
  }

-- ---- what follows

module _ (plan : Plan) (specs : List PlugSpec) (w : World) (f : Facts plan specs w) where
  -- an entry that says that it offers something is one of the plan
  pub inside : (e : ℕ) (s : Service) → is_among (said_by specs e).offers s ≡ true → e < length specs
  inside e s h = elim (cases_lt e (length specs)) [
    | inl l ↦ l
    | inr past ↦ absurd (both_ways false refl (ap (λ (p : PlugSpec). is_among p.offers s) (sym (get_or_past specs e no_spec past)) ∙ h))
  ]

  -- it offers what it says
  pub says : (e : ℕ) (s : Service) → is_among (said_by specs e).offers s ≡ true → offers w.reg e s ≡ true
  says e s h = f.offered e (inside e s h) s ∙ h

  -- a service that some entry says to offer is there
  pub said_by_one : (s : Service) → IsOffered (uses_of specs) s → (e : ℕ) × ((e < length specs) × (is_among (said_by specs e).offers s ≡ true))
  said_by_one s o =
      let many : length (uses_of specs) ≡ length specs = length-map specs use_of in
      let l : o.0 < length specs = omega (arith, o.1.0, many) in
      (o.0, (l, lists (said_by specs o.0).offers s (subst (λ (u : ServiceUse). Contains u.offers s) (get_or-map use_of specs o.0 no_spec no_use l) o.1.1)))

  pub found : (s : Service) → (s ≡ Exec → ⊥) → IsOffered (uses_of specs) s → (o : Offered) × (single w.reg s ≡ Some o)
  found s ne o = let e = said_by_one s o in let by = single_by w.reg e.0 s ne (says e.0 s e.1.1) in (by.0, by.1)

  pub is_offered : (e : ℕ) (s : Service) → is_among (said_by specs e).offers s ≡ true → IsOffered (uses_of specs) s
  is_offered e s h =
      let many : length (uses_of specs) ≡ length specs = length-map specs use_of in
      let l = inside e s h in
      (e, (omega (arith, l, many), subst (λ (u : ServiceUse). Contains u.offers s) (sym (get_or-map use_of specs e no_spec no_use l)) (has (said_by specs e).offers s h)))

  -- who offers a single service says so
  pub single_said : (s : Service) (o : Offered) → (s ≡ Exec → ⊥) → single w.reg s ≡ Some o → offers w.reg o.by s ≡ true → is_among (said_by specs o.by).offers s ≡ true
  single_said s o ne is offer = sym (f.offered o.by (f.singles s o is) s) ∙ offer

  -- who offers DataBus or System works in the stage that commits, and executes instructions
  commit_place : (p : Place) → is_commit p ≡ true → has_place p ≡ true
  commit_place Execute h = refl
  commit_place Commit h = refl
  commit_place Apart h = h

  pub commits : (e : ℕ) → (is_among (said_by specs e).offers DataBus || is_among (said_by specs e).offers System) ≡ true → e < length specs
      → (is_commit (said_by specs e).place ≡ true) × (is_among (said_by specs e).offers Exec ≡ true)
  commits e h l =
      let fit = f.fit e l in
      let c = fit.commits h in
      (c, fit.executes ∙ commit_place (said_by specs e).place c)
