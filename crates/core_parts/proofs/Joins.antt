-- The parts of the plug-ins of an accepted plan are joined.
use Rattle.std.proofs.Common.{◌≡◌, ◌∙◌, ℕ, ◌<◌, ◌||◌, ◌&&◌, Bool, true, false, cond, List, length, map, refl, arith, ap, sym, subst, is_some, Option, None, Some}
use Rattle.std.proofs.lemmas.Bool.{both_ways, or_left, or_right}
use Rattle.hw_module.specs.Rows.{out_at}
use Rattle.service_reg.specs.declared.service.Service.{Service}
use Rattle.service_reg.specs.declared.service.Service.TheVariants.{Fetch, Predict, Decoder, RegFile, Hazard, Exec, DataBus, System}
use Rattle.service_ports.specs.Ports.{Ports}
use Rattle.service_ports.specs.Registry.{Offered, single, exec_of, offer_of}
use Rattle.service_ports.proofs.Offers.{none_some, own_of}
use Rattle.plug_part.specs.Part.{Part, PortTrees, own_or, sees}
use Rattle.plug_part.specs.Owned.{offers, ports_of, is_out_of, is_fetch_out, is_bus_out}
use Rattle.plug_part.specs.Of.{net_tree, tree_option, port_trees, part_of}
use Rattle.plug_part.specs.Signals.{or_none}
use Rattle.plug_build.specs.World.{World}
use Rattle.plug_build.proofs.Holds.{through}
use Rattle.plug_api.specs.declared.spec.Plan.{Plan}
use Rattle.plug_api.specs.declared.spec.PlugSpec.{PlugSpec}
use Rattle.plug_api.specs.Spec.{is_among}
use Rattle.part_laws.specs.Joined.{CoreTerms, Services, ports_in, IsOfferedBy, HasOut, AreJoined}
use Rattle.part_laws.specs.Registered.{offered_trees, trees_or_none, sees_service}
use Rattle.core_parts.specs.Laid.{said_by, takes_by, terms_by, part_by, services_by}
use Rattle.core_parts.proofs.Offered.{there_is, single_of, member_offers, member_has}
use Rattle.core_parts.proofs.Facts.{Facts, inside, says, found, single_said, is_offered, commits}

some_same : {A : Type 0} {x y : A} → ◌≡◌ {A = Option A} (Some x) (Some y) → x ≡ y
some_same e = cc

both_true : (a b : Bool) → a ≡ true → b ≡ true → (a && b) ≡ true
both_true a b g h = ap (λ c. c && b) g ∙ h

both_or_none : (a b : Bool) → (a ≡ true → b ≡ true) → (b ≡ true → a ≡ true) → a ≡ b
both_or_none true b to from = sym (to refl)
both_or_none false true to from = from refl
both_or_none false false to from = refl

option_cases : {A : Type 0} (P : Option A → Type 0) (o : Option A) → (o ≡ None → P None) → ((x : A) → o ≡ Some x → P (Some x)) → P o
option_cases P None n s = n refl
option_cases P (Some x) n s = s x refl

module _ (plan : Plan) (specs : List PlugSpec) (w : World) (f : Facts plan specs w) where
  abbrev v : CoreTerms
  v = terms_by specs plan w.reg

  abbrev part : ℕ → Part
  part = part_by specs w

  abbrev x : Services
  x = services_by specs w

  below : (e : ℕ) → e < length specs → e < v.count
  below e l = let n = f.size in omega arith

  above : (e : ℕ) → e < v.count → e < length specs
  above e l = let n = f.size in omega arith

  -- ---- what a part offers, takes and drives

  offers_is : (e : ℕ) (s : Service) → (part e).offers s ≡ port_trees w.pool.nodes (offer_of w.reg e s)
  unfolding part_of
  offers_is e s = refl

  sees_is : (e : ℕ) (s : Service) → sees (part e) s ≡ own_or (port_trees w.pool.nodes (offer_of w.reg e s)) (cond (takes_by specs e s) (port_trees w.pool.nodes (ports_of (single w.reg s))) None)
  unfolding part_of
  sees_is e s = refl

  outs_is : (e q : ℕ) → (part e).outs q ≡ cond (is_out_of w.reg e q) (tree_option w.pool.nodes (out_at w.design.outs q)) None
  unfolding part_of
  outs_is e q = refl

  -- what is offered of a single service, as the part of the one who offers it has it
  offered_by : (s : Service) (o : Offered) → single w.reg s ≡ Some o → (part o.by).offers s ≡ Some (record { inputs = o.ports.inputs; outputs = map (net_tree w.pool.nodes) o.ports.outputs })
  offered_by s o is = offers_is o.by s ∙ ap (port_trees w.pool.nodes) (own_of w.reg o.by s o.ports is)

  single_at : (s : Service) (o : Offered) → single w.reg s ≡ Some o → IsOfferedBy v (trees_or_none w.pool.nodes (single w.reg s)) ((part (trees_or_none w.pool.nodes (single w.reg s)).0).offers s)
  single_at s o is =
      subst (λ (q : Option Offered). IsOfferedBy v (trees_or_none w.pool.nodes q) ((part (trees_or_none w.pool.nodes q).0).offers s)) (sym is)
      (record { there = below o.by (f.singles s o is); is = offered_by s o is })

  option_at : (s : Service) (e : ℕ × PortTrees) → offered_trees w.pool.nodes (single w.reg s) ≡ Some e → IsOfferedBy v e ((part e.0).offers s)
  option_at s e has =
      option_cases (λ o. offered_trees w.pool.nodes o ≡ Some e → IsOfferedBy v e ((part e.0).offers s)) (single w.reg s)
      (λ none h. absurd (none_some None e refl h))
      (λ o is h. subst (λ (y : ℕ × PortTrees). IsOfferedBy v y ((part y.0).offers s)) (some_same h) (record { there = below o.by (f.singles s o is); is = offered_by s o is }))
      has

  -- whose part offers it offers it
  offers_some : (e : ℕ) (s : Service) (y : PortTrees) → (part e).offers s ≡ Some y → offers w.reg e s ≡ true
  offers_some e s y is =
      option_cases (λ o. port_trees w.pool.nodes o ≡ Some y → is_some o ≡ true) (offer_of w.reg e s) (λ none h. absurd (none_some None y refl h)) (λ p here h. refl) (sym (offers_is e s) ∙ is)

  said_single : (s : Service) → (s ≡ Exec → ⊥) → (o : Offered) → single w.reg s ≡ Some o → is_among (said_by specs o.by).offers s ≡ true
  said_single s ne o is = single_said plan specs w f s o ne is (ap (λ (p : Option Ports). is_some p) (own_of w.reg o.by s o.ports is))

  -- and who offers it
  offer_is : (e : ℕ) (s : Service) (y : PortTrees) → (s ≡ Exec → ⊥) → (part e).offers s ≡ Some y → offered_trees w.pool.nodes (single w.reg s) ≡ Some (e, y)
  offer_is e s y ne is =
      option_cases (λ o. offer_of w.reg e s ≡ o → port_trees w.pool.nodes o ≡ Some y → offered_trees w.pool.nodes (single w.reg s) ≡ Some (e, y)) (offer_of w.reg e s)
      (λ none q h. absurd (none_some None y refl h))
      (λ p here q h. ap (offered_trees w.pool.nodes) (single_of w.reg e s p ne q) ∙ ap (λ (t : PortTrees). Some (e, t)) (some_same h))
      refl (sym (offers_is e s) ∙ is)

  -- what a part sees of a single service is what is offered of it
  seen_is : (e : ℕ) (s : Service) (y : PortTrees) → (s ≡ Exec → ⊥) → sees (part e) s ≡ Some y → y ≡ (trees_or_none w.pool.nodes (single w.reg s)).1
  seen_is e s y ne is =
      option_cases (λ o. offer_of w.reg e s ≡ o → own_or (port_trees w.pool.nodes o) (cond (takes_by specs e s) (port_trees w.pool.nodes (ports_of (single w.reg s))) None) ≡ Some y → y ≡ (trees_or_none w.pool.nodes (single w.reg s)).1)
      (offer_of w.reg e s)
      (λ none q h. taken (single w.reg s) (through (takes_by specs e s) _ y h).1)
      (λ p here q h. sym (some_same h) ∙ ap (λ (o : Option Offered). (trees_or_none w.pool.nodes o).1) (sym (single_of w.reg e s p ne q)))
      refl (sym (sees_is e s) ∙ is)
    where
      taken : (o : Option Offered) → port_trees w.pool.nodes (ports_of o) ≡ Some y → y ≡ (trees_or_none w.pool.nodes o).1
      taken None h = absurd (none_some None y refl h)
      taken (Some o) h = sym (some_same h)

  -- ---- the services

  fetch_there : (o : Offered) × (single w.reg Fetch ≡ Some o)
  fetch_there = found plan specs w f Fetch (λ q. cc) f.services.core.fetch

  decoder_there : (o : Offered) × (single w.reg Decoder ≡ Some o)
  decoder_there = found plan specs w f Decoder (λ q. cc) f.services.core.decoder

  regs_there : (o : Offered) × (single w.reg RegFile ≡ Some o)
  regs_there = found plan specs w f RegFile (λ q. cc) f.services.core.reg_file

  hazard_there : (o : Offered) × (single w.reg Hazard ≡ Some o)
  hazard_there = found plan specs w f Hazard (λ q. cc) f.services.core.hazard

  hazard_at : IsOfferedBy v x.hazard ((part x.hazard.0).offers Hazard)
  hazard_at = single_at Hazard hazard_there.0 hazard_there.1

  exec_at : (e : ℕ) → offers w.reg e Exec ≡ true → (part e).offers Exec ≡ Some (x.exec e)
  exec_at e h =
      offers_is e Exec
      ∙ option_cases (λ o. is_some o ≡ true → port_trees w.pool.nodes o ≡ Some (or_none (port_trees w.pool.nodes o))) (exec_of e w.reg.execs)
      (λ none q. absurd (both_ways false refl q)) (λ p is q. refl) h

  predict_cases : (e : ℕ × PortTrees) → x.predict ≡ Some e → offered_trees w.pool.nodes (single w.reg Predict) ≡ Some e
  predict_cases e is = (through (sees_service (takes_by specs) w.reg x.fetch.0 Predict) (offered_trees w.pool.nodes (single w.reg Predict)) e is).1

  system_cases : (e : ℕ × PortTrees) → x.system ≡ Some e → (o : Offered) × (single w.reg System ≡ Some o) × (o.by ≡ e.0)
  system_cases e is =
      option_cases (λ o. single w.reg System ≡ o → offered_trees w.pool.nodes o ≡ Some e → (o : Offered) × (single w.reg System ≡ Some o) × (o.by ≡ e.0)) (single w.reg System)
      (λ none q h. absurd (none_some None e refl h))
      (λ o here q h. (o, q, ap (λ (y : ℕ × PortTrees). y.0) (some_same h)))
      refl is

  system_exec : (e : ℕ × PortTrees) → x.system ≡ Some e → (part e.0).offers Exec ≡ Some (x.exec e.0)
  system_exec e is =
      let o = system_cases e is in
      let said = said_single System (λ q. cc) o.0 o.1 in
      let c = commits plan specs w f o.0.by (or_right (is_among (said_by specs o.0.by).offers DataBus) _ said) (f.singles System o.0 o.1) in
      subst (λ n. (part n).offers Exec ≡ Some (x.exec n)) o.2 (exec_at o.0.by (says plan specs w f o.0.by Exec c.1))

  has_system : v.set.system ≡ is_some x.system
  has_system = both_or_none plan.has_csr (is_some x.system)
      (λ h. let o = found plan specs w f System (λ q. cc) (f.has_csr.0 h) in ap (λ q. is_some (offered_trees w.pool.nodes q)) o.1)
      (λ h. let e = there_is x.system h in let o = system_cases e.0 e.1 in f.has_csr.1 (is_offered plan specs w f o.0.by System (said_single System (λ q. cc) o.0 o.1)))

  -- Fetch sees Predict as it is offered, where it takes it
  fetch_sees : sees (part x.fetch.0) Predict ≡ ports_in x.predict
  fetch_sees =
      sees_is x.fetch.0 Predict
      ∙ option_cases
      (λ o. offer_of w.reg x.fetch.0 Predict ≡ o → own_or (port_trees w.pool.nodes o) (cond (takes_by specs x.fetch.0 Predict) (port_trees w.pool.nodes (ports_of (single w.reg Predict))) None)
      ≡ ports_in (cond (is_some o || takes_by specs x.fetch.0 Predict) (offered_trees w.pool.nodes (single w.reg Predict)) None))
      (offer_of w.reg x.fetch.0 Predict)
      (λ none q. taken (takes_by specs x.fetch.0 Predict) (single w.reg Predict))
      (λ p here q. ap (λ (o : Option Offered). ports_in (offered_trees w.pool.nodes o)) (sym (single_of w.reg x.fetch.0 Predict p (λ e. cc) q)))
      refl
    where
      taken : (t : Bool) (o : Option Offered) → cond t (port_trees w.pool.nodes (ports_of o)) None ≡ ports_in (cond t (offered_trees w.pool.nodes o) None)
      taken true None = refl
      taken true (Some o) = refl
      taken false o = refl

  hazard_sees : sees (part x.hazard.0) RegFile ≡ Some x.regs.1
  hazard_sees =
      let m = f.laws x.hazard.0 (above x.hazard.0 hazard_at.there) in
      let h = m.hazard x.hazard.1 hazard_at.is in
      h.1 ∙ ap (λ (t : PortTrees). Some t) (seen_is x.hazard.0 RegFile h.0 (λ q. cc) h.1)

  -- an output that is the entry's is driven
  out_has : (e q : ℕ) → e < length specs → is_out_of w.reg e q ≡ true → HasOut (part e) q
  out_has e q l own =
      option_cases (λ o. out_at w.design.outs q ≡ o → HasOut (part e) q) (out_at w.design.outs q)
      (λ none h. absurd ((f.done e l).outs q own h))
      (λ net there h. record { tree = net_tree w.pool.nodes net; is = outs_is e q ∙ ap (λ b. cond b (tree_option w.pool.nodes (out_at w.design.outs q)) None) own ∙ ap (tree_option w.pool.nodes) h })
      refl

  fetch_out : (q : ℕ) → is_fetch_out q ≡ true → HasOut (part x.fetch.0) q
  fetch_out q h =
      let by = single_at Fetch fetch_there.0 fetch_there.1 in
      let offer : offers w.reg x.fetch.0 Fetch ≡ true = offers_some x.fetch.0 Fetch x.fetch.1 by.is in
      out_has x.fetch.0 q (above x.fetch.0 by.there) (or_left (offers w.reg x.fetch.0 Fetch && is_fetch_out q) _ (both_true _ _ offer h))

  data_out : (k q : ℕ) → v.holds k ≡ true → is_bus_out q ≡ true → HasOut (part k) q
  data_out k q holds h =
      out_has k q (inside plan specs w f k DataBus holds) (or_right (offers w.reg k Fetch && is_fetch_out q) _ (both_true _ _ (says plan specs w f k DataBus holds) h))

  pub joins : AreJoined v part x
  joins = record {
    meets = λ e l. f.laws e (above e l);
    fetch = single_at Fetch fetch_there.0 fetch_there.1;
    predict = λ e is. option_at Predict e (predict_cases e is);
    decoder = single_at Decoder decoder_there.0 decoder_there.1;
    regs = single_at RegFile regs_there.0 regs_there.1;
    hazard = hazard_at;
    execs = λ k there. record { there = below k (member_has w.reg (λ n. n < length specs) f.execs k there); is = exec_at k (member_offers w.reg k there) };
    system = λ e is. option_at System e is;
    system_exec = system_exec;
    system_only = λ k y is. offer_is k System y (λ q. cc) is;
    has_system = has_system;
    fetch_sees = fetch_sees;
    hazard_sees = hazard_sees;
    fetch_outs = (fetch_out 2 refl, fetch_out 4 refl);
    data_outs = λ k holds. (data_out k 8 holds refl, data_out k 10 holds refl, data_out k 11 holds refl, data_out k 12 holds refl, data_out k 13 holds refl);
  }
