-- An accepted plan is one by which its plug-ins can build.
use Rattle.std.proofs.Common.{◌≡◌, ◌∙◌, ℕ, zero, suc, ◌+◌, ◌*◌, ◌<◌, ◌≤◌, List, [], ◌∷◌, length, get_or, take, refl, arith, ap, sym, subst, true, false, eqb, Option, inl, inr}
use Rattle.std.specs.List.{Contains}
use Rattle.std.proofs.lemmas.Bool.{cases_lt, or_cases, or_left, or_right, both_ways, eqb-true, eq-eqb, false_from_ne_true}
use Rattle.std.proofs.lemmas.List.{get_or-map, length-map, get_or_default, length-take-le, get_or-take}
use Rattle.service_reg.specs.declared.service.Service.{Service}
use Rattle.service_reg.specs.declared.service.Service.TheVariants.{Fetch, Predict, Decoder, RegFile, Hazard, Exec, DataBus, System}
use Rattle.service_reg.specs.declared.service.ServiceUse.{ServiceUse}
use Rattle.service_reg.specs.Services.{number, no_use, use_at, Offers, IsOffered, Wants, IsBuildOrder, HasNoServiceFault}
use Rattle.stage_map.specs.declared.config.Config.{Config}
use Rattle.stage_map.specs.declared.config.PlugEntry.{PlugEntry}
use Rattle.plug_api.specs.declared.spec.ParamFault.{ParamFault}
use Rattle.plug_api.specs.declared.spec.PlugSpec.{PlugSpec}
use Rattle.plug_api.specs.declared.spec.Plan.{Plan}
use Rattle.isa_table.specs.declared.claim.Claim.{Claim}
use Rattle.plug_api.specs.declared.claims.OwnedClaim.{OwnedClaim}
use Rattle.plug_api.specs.Spec.{is_among, no_spec}
use Rattle.plug_api.specs.Picks.{AreConfigured, no_entry}
use Rattle.plug_api.specs.Rules.{claims_of, cost_at, wanted_by}
use Rattle.plug_api.specs.Accept.{use_of, uses_of, IsAccepted}
use Rattle.plug_api.specs.Calls.{IsLawful, half_cost, takes_of}
use Rattle.plug_join.specs.Joined.{entry_at, is_core, box_of, rest_half, pipe_share, IsBuildable}
use Rattle.plug_join.proofs.Sums.{sum_most, halves, front_list}

one_number : (s t : Service) → number s ≡ number t → s ≡ t
one_number Fetch Fetch e = refl
one_number Predict Predict e = refl
one_number Decoder Decoder e = refl
one_number RegFile RegFile e = refl
one_number Hazard Hazard e = refl
one_number Exec Exec e = refl
one_number DataBus DataBus e = refl
one_number System System e = refl
one_number s t e = grind (arith, e)

few_numbers : (s : Service) → number s < 8
few_numbers Fetch = omega arith
few_numbers Predict = omega arith
few_numbers Decoder = omega arith
few_numbers RegFile = omega arith
few_numbers Hazard = omega arith
few_numbers Exec = omega arith
few_numbers DataBus = omega arith
few_numbers System = omega arith

-- a service of a list is at some place
pub has : (l : List Service) (s : Service) → is_among l s ≡ true → Contains l s
has [] s h = absurd (both_ways false refl h)
has (t ∷ ts) s h = elim (or_cases (eqb (number t) (number s)) (is_among ts s) h) [
  | inl here ↦ (0, omega arith, one_number t s (eqb-true (number t) (number s) here))
  | inr later ↦ let c = has ts s later in (suc c.0, omega (arith, c.1), c.2)
]

-- and one at some place is of the list
pub lists : (l : List Service) (s : Service) → Contains l s → is_among l s ≡ true
lists [] s c = absurd (omega (arith, c.1))
lists (t ∷ ts) s (zero, l, e) = or_left (eqb (number t) (number s)) (is_among ts s) (eq-eqb (number t) (number s) (ap number e))
lists (t ∷ ts) s (suc k, l, e) = or_right (eqb (number t) (number s)) (is_among ts s) (lists ts s (k, omega (arith, l), e))

-- ---- the order of building

module _ (specs : List PlugSpec) (order : List ℕ) (is : IsBuildOrder (uses_of specs) order) where
  sizes : length (uses_of specs) ≡ length specs
  sizes = length-map specs use_of

  use_is : (x : ℕ) → x < length specs → use_at (uses_of specs) x ≡ use_of (get_or specs x no_spec)
  use_is x l = get_or-map use_of specs x no_spec no_use l

  pub ordered_inside : (k : ℕ) → k < length order → get_or order k 0 < length specs
  ordered_inside k l = let n = (is.next k l).entry in omega (arith, n, sizes)

  not_before : (i j : ℕ) → i < j → j < length order → get_or order i 0 ≡ get_or order j 0 → ⊥
  not_before i j l m e =
      (is.next j m).unplaced (i, omega (arith, length-take-le j order (omega arith)), get_or-take j order i _ l ∙ get_or_default order i _ 0 (omega arith) ∙ e)

  pub ordered_once : (i j : ℕ) → i < length order → j < length order → get_or order i 0 ≡ get_or order j 0 → i ≡ j
  ordered_once i j l m e = elim (cases_lt i j) [
    | inl less ↦ absurd (not_before i j less m e)
    | inr le ↦ elim (cases_lt j i) [
      | inl more ↦ absurd (not_before j i more l (sym e))
      | inr ge ↦ omega arith
    ]
  ]

  pub ordered_all : (x : ℕ) → x < length specs → (k : ℕ) × ((k < length order) × (get_or order k 0 ≡ x))
  ordered_all x l =
      let c = is.all x (omega (arith, sizes)) in
      (c.0, (c.1, get_or_default order c.0 0 x c.1 ∙ c.2))

  module _ (holds : HasNoServiceFault (uses_of specs)) where
    offers_at : (x : ℕ) (s : Service) → x < length specs → is_among (get_or specs x no_spec).offers s ≡ true → Offers (uses_of specs) x s
    offers_at x s l h = subst (λ (u : ServiceUse). Contains u.offers s) (sym (use_is x l)) (has (get_or specs x no_spec).offers s h)

    -- no service but Exec is offered by two
    pub apart_entries : (x y : ℕ) (s : Service) → x < length specs → y < length specs → is_among (get_or specs x no_spec).offers s ≡ true
        → is_among (get_or specs y no_spec).offers s ≡ true → (s ≡ Exec → ⊥) → x ≡ y
    apart_entries x y s l m h g ne = elim (cases_lt x y) [
      | inl less ↦ absurd (holds.once s (few_numbers s) ne x y (record { less = less; entry = omega (arith, sizes); first = offers_at x s l h; second = offers_at y s m g }))
      | inr le ↦ elim (cases_lt y x) [
        | inl more ↦ absurd (holds.once s (few_numbers s) ne y x (record { less = more; entry = omega (arith, sizes); first = offers_at y s m g; second = offers_at x s l h }))
        | inr ge ↦ omega arith
      ]
    ]

    wants_at : (x : ℕ) (s : Service) → x < length specs → takes_of (get_or specs x no_spec) s ≡ true → Wants (uses_of specs) x s
    wants_at x s l h = elim (or_cases (is_among (get_or specs x no_spec).needs s) (is_among (get_or specs x no_spec).uses s) h) [
      | inl n ↦ inl (subst (λ (u : ServiceUse). Contains u.needs s) (sym (use_is x l)) (has (get_or specs x no_spec).needs s n))
      | inr u ↦ inr (subst (λ (u : ServiceUse). Contains u.uses s) (sym (use_is x l)) (has (get_or specs x no_spec).uses s u))
    ]

    -- what an entry takes is offered before its place
    pub settled_at : (i j : ℕ) (s : Service) → i ≤ j → j < length order → takes_of (get_or specs (get_or order i 0) no_spec) s ≡ true
        → is_among (get_or specs (get_or order j 0) no_spec).offers s ≡ false
    settled_at i j s le l takes = false_from_ne_true _ (λ offered.
        let x = ordered_inside i (omega arith) in
        let y = ordered_inside j l in
        let placed = (is.next i (omega arith)).ready (get_or order j 0) (record {
          entry = omega (arith, sizes);
          other = omega (arith, sizes);
          service = s;
          wants = wants_at (get_or order i 0) s x takes;
          offers = offers_at (get_or order j 0) s y offered;
        }) in
        let few : length (take i order) ≡ i = length-take-le i order (omega arith) in
        let before : placed.0 < i = omega (arith, few, placed.1) in
        let same : placed.0 ≡ j = ordered_once placed.0 j (omega arith) l (get_or_default order placed.0 0 (get_or order j 0) (omega arith) ∙ sym (get_or-take i order placed.0 (get_or order j 0) before) ∙ placed.2) in
        omega (arith, before, same))

    -- what every core needs some entry offers
    core_at : (s : Service) → is_core s ≡ true → (j : ℕ) × ((j < length order) × (is_among (get_or specs (get_or order j 0) no_spec).offers s ≡ true))
    core_at s is = let o = offered_of s is in let k = ordered_all o.0 o.1.0 in (k.0, (k.1.0, ap (λ x. is_among (get_or specs x no_spec).offers s) k.1.1 ∙ o.1.1))
      where
        said : (t : Service) → IsOffered (uses_of specs) t → (x : ℕ) × ((x < length specs) × (is_among (get_or specs x no_spec).offers t ≡ true))
        said t o =
            let inside : o.0 < length specs = omega (arith, sizes, o.1.0) in
            (o.0, (inside, lists (get_or specs o.0 no_spec).offers t (subst (λ (u : ServiceUse). Contains u.offers t) (use_is o.0 inside) o.1.1)))

        offered_of : (t : Service) → is_core t ≡ true → (x : ℕ) × ((x < length specs) × (is_among (get_or specs x no_spec).offers t ≡ true))
        offered_of Fetch h = said Fetch holds.core.fetch
        offered_of Predict h = absurd (both_ways false refl h)
        offered_of Decoder h = said Decoder holds.core.decoder
        offered_of RegFile h = said RegFile holds.core.reg_file
        offered_of Hazard h = said Hazard holds.core.hazard
        offered_of Exec h = absurd (both_ways false refl h)
        offered_of DataBus h = absurd (both_ways false refl h)
        offered_of System h = absurd (both_ways false refl h)

    -- what an entry needs some entry offers
    pub met_at : (x : ℕ) (s : Service) → x < length specs → is_among (get_or specs x no_spec).needs s ≡ true
        → (j : ℕ) × ((j < length order) × (is_among (get_or specs (get_or order j 0) no_spec).offers s ≡ true))
    met_at x s l h =
        let c : Contains (use_at (uses_of specs) x).needs s = subst (λ (u : ServiceUse). Contains u.needs s) (sym (use_is x l)) (has (get_or specs x no_spec).needs s h) in
        let o = holds.needs x (omega (arith, sizes)) c.0 c.1 in
        let is_s : get_or (use_at (uses_of specs) x).needs c.0 Fetch ≡ s = get_or_default (use_at (uses_of specs) x).needs c.0 Fetch s c.1 ∙ c.2 in
        let inside : o.0 < length specs = omega (arith, sizes, o.1.0) in
        let k = ordered_all o.0 inside in
        let offered : Contains (get_or specs o.0 no_spec).offers s = subst (λ (u : ServiceUse). Contains u.offers s) (use_is o.0 inside) (subst (Offers (uses_of specs) o.0) is_s o.1.1) in
        (k.0, (k.1.0, ap (λ x. is_among (get_or specs x no_spec).offers s) k.1.1 ∙ lists (get_or specs o.0 no_spec).offers s offered))

-- ---- the plug-ins of a plan

module _ {B : Type 0} (spec : B → PlugSpec) (boxes : List B) (plan : Plan) (specs : List PlugSpec) (size : length specs ≡ length plan.picks)
    (said : (d : B) (entry : ℕ) → entry < length specs → spec (box_of boxes plan d entry) ≡ get_or specs entry no_spec)
    (order : IsBuildOrder (uses_of specs) plan.order) where
  said_at : (d : B) (k : ℕ) → k < length plan.order → spec (box_of boxes plan d (entry_at plan k)) ≡ get_or specs (entry_at plan k) no_spec
  said_at d k l = said d (entry_at plan k) (ordered_inside specs plan.order order k l)

  pub buildable : HasNoServiceFault (uses_of specs) → ((entry : ℕ) → entry < length plan.picks → get_or plan.picks entry 0 < length boxes)
      → ((d : B) (entry : ℕ) → entry < length plan.picks → IsLawful (spec (box_of boxes plan d entry)) plan entry) → IsBuildable spec boxes plan
  buildable holds picked lawful = record {
    size = order.size ∙ sizes specs plan.order order ∙ size;
    inside = λ k l. let h = ordered_inside specs plan.order order k l in omega (arith, h, size);
    once = ordered_once specs plan.order order;
    all = λ entry l. ordered_all specs plan.order order entry (omega (arith, size));
    picked = picked;
    lawful = lawful;
    apart = λ d i j s l m h g ne. ordered_once specs plan.order order i j l m
        (apart_entries specs plan.order order holds (entry_at plan i) (entry_at plan j) s (ordered_inside specs plan.order order i l) (ordered_inside specs plan.order order j m)
        (ap (λ (p : PlugSpec). is_among p.offers s) (sym (said_at d i l)) ∙ h) (ap (λ (p : PlugSpec). is_among p.offers s) (sym (said_at d j m)) ∙ g) ne);
    settled = λ d i j s le l takes.
        ap (λ (p : PlugSpec). is_among p.offers s) (said_at d j l)
        ∙ settled_at specs plan.order order holds i j s le l (ap (λ (p : PlugSpec). takes_of p s) (sym (said_at d i (omega arith))) ∙ takes);
    met = λ d i s l needs.
        let j = met_at specs plan.order order holds (entry_at plan i) s (ordered_inside specs plan.order order i l) (ap (λ (p : PlugSpec). is_among p.needs s) (sym (said_at d i l)) ∙ needs) in
        (j.0, (j.1.0, ap (λ (p : PlugSpec). is_among p.offers s) (said_at d j.0 j.1.0) ∙ j.1.1));
    core = λ s is.
        let j = core_at specs plan.order order holds s is in
        (j.0, (j.1.0, λ d. ap (λ (p : PlugSpec). is_among p.offers s) (said_at d j.0 j.1.0) ∙ j.1.1));
  }

  -- what all may make in both calls, and the pipeline's share, is what is wanted
  pub shares : length plan.rows ≡ length (claims_of specs) → plan.wanted ≡ wanted_by specs → (d : B)
      → pipe_share plan + rest_half spec boxes plan d 0 + rest_half spec boxes plan d 0 ≤ plan.wanted
  shares rows wanted d =
      let half : ℕ → ℕ = λ entry. half_cost (spec (box_of boxes plan d entry)) plan in
      let cost : ℕ → ℕ = λ entry. cost_at (length (claims_of specs)) (get_or specs entry no_spec) in
      let most = sum_most plan.order (length specs) half (ordered_once specs plan.order order) (ordered_inside specs plan.order order) in
      let twice = halves (length specs) half cost (λ i l. half_of i l (spec (box_of boxes plan d i)) (said d i l)) in
      let sum = front_list specs (cost_at (length (claims_of specs))) no_spec in
      let long = order.size in
      omega (arith, most, twice, sum, long, wanted, sizes specs plan.order order)
    where
      half_of : (i : ℕ) → i < length specs → (p : PlugSpec) → p ≡ get_or specs i no_spec → half_cost p plan + half_cost p plan ≤ cost_at (length (claims_of specs)) (get_or specs i no_spec)
      half_of i l p e =
          let n : p.cost.fixed + p.cost.per_row * length plan.rows ≡ cost_at (length (claims_of specs)) (get_or specs i no_spec) = (λ k. (e k).cost.fixed + (e k).cost.per_row * rows k) in
          omega (arith, n)

-- of an accepted configuration whose plug-ins took their entries
module _ {B : Type 0} (kind : B → List ℕ) (taken : B → Option PlugEntry) (now : B → PlugSpec) (fault : B → PlugEntry → Option ParamFault) (spec : B → PlugEntry → PlugSpec)
    (old new : List B) (cfg : Config) (plan : Plan) (is : IsAccepted kind fault spec old cfg plan)
    (configured : AreConfigured kind taken now fault spec old new plan.picks cfg.entries (length cfg.entries)) where
  entries : length is.specs ≡ length cfg.entries
  entries = is.known.taken.one_each

  pickings : length plan.picks ≡ length cfg.entries
  pickings = is.known.named.picked.one_each

  said_now : (d : B) (entry : ℕ) → entry < length is.specs → now (box_of new plan d entry) ≡ get_or is.specs entry no_spec
  said_now d entry l = configured.spec_is d entry (omega (arith, entries)) ∙ sym (is.known.taken.are d entry (omega (arith, entries)))

  claims_many : length plan.rows ≡ length (claims_of is.specs)
  claims_many = ap (λ (l : List Claim). length l) is.plan_is.rows ∙ length-map (claims_of is.specs) (λ (c : OwnedClaim). c.claim)

  pub accepted_shares : (d : B) → pipe_share plan + rest_half now new plan d 0 + rest_half now new plan d 0 ≤ plan.wanted
  accepted_shares = shares now new plan is.specs (entries ∙ sym pickings) said_now is.plan_is.order claims_many is.plan_is.wanted

  pub accepted_buildable : ((d : B) (entry : ℕ) → entry < length cfg.entries → IsLawful (spec (get_or old (get_or plan.picks entry 0) d) (get_or cfg.entries entry no_entry)) plan entry)
      → IsBuildable now new plan
  accepted_buildable lawful =
      buildable now new plan is.specs (entries ∙ sym pickings) said_now is.plan_is.order is.hold.services
      (λ entry l. let h = (is.known.named.picked.each entry (omega (arith, pickings))).there in omega (arith, h, configured.kept.count))
      (λ d entry l. subst (λ (p : PlugSpec). IsLawful p plan entry) (sym (configured.spec_is d entry (omega (arith, pickings)))) (lawful d entry (omega (arith, pickings))))
