-- When the last box has built: what is joined, what is left, and what stays while another builds.
use Rattle.std.proofs.Common.{◌≡◌, ◌∙◌, ℕ, suc, ◌<◌, ◌≤◌, List, [], ◌∷◌, length, get_or, map, refl, arith, ap, sym, subst, Bool, true, false, cond, eqb, ◌&&◌, is_some, Option, None, Some, inl, inr}
use Rattle.std.specs.Prelude.{All}
use Rattle.std.proofs.lemmas.Bool.{cases_Bool, both_ways, or_cases, and_parts, eqb-true}
use Rattle.std.proofs.lemmas.List.{get_or-map, get_or_default, length-map}
use Rattle.hw_pool.specs.Nodes.{PoolValue}
use Rattle.hw_module.specs.declared.rows.Owner.TheVariants.{Entry}
use Rattle.hw_module.specs.declared.rows.Owner.{Owner}
use Rattle.service_reg.specs.declared.service.Service.{Service}
use Rattle.service_reg.specs.declared.service.Service.TheVariants.{Fetch, Predict, Decoder, RegFile, Hazard, Exec, DataBus, System}
use Rattle.service_ports.specs.Ports.{Ports, exec_ports}
use Rattle.service_ports.specs.declared.ports.ExecOffer.{ExecOffer}
use Rattle.service_ports.specs.Registry.{RegistryValue, Offered, single, own_single, exec_of, offer_of}
use Rattle.plug_api.specs.declared.spec.PlugSpec.{PlugSpec}
use Rattle.plug_api.specs.declared.spec.Plan.{Plan}
use Rattle.hw_module.specs.Rights.{Rights}
use Rattle.plug_part.specs.Owned.{is_input_of, is_own_input, is_out_of, is_fetch_out, is_bus_out, offers}
use Rattle.plug_build.specs.World.{World, Builds, part_in}
use Rattle.plug_build.specs.Fits.{OffersOnce, WorldFits}
use Rattle.plug_join.proofs.Sums.{few_below}
use Rattle.plug_join.proofs.Steps.{done_kept, there, each_more}
use Rattle.plug_build.specs.Done.{IsDone}
use Rattle.plug_part.specs.Part.{Part}
use Rattle.plug_build.proofs.Offers.{input_of_some}
use Rattle.plug_build.proofs.Frame.{part_kept}
use Rattle.plug_build.specs.Frame.{Leaves}
use Rattle.plug_part.specs.Meets.{MeetsLaws}
use Rattle.plug_api.specs.Calls.{OffersItsOwn, takes_of, terms_of}
use Rattle.plug_join.specs.Joined.{entry_at, box_of, pipe_share, IsBuildable, LateSoFar, AreBuilt, IsJoined, IsLeft}

pub element : {A : Type 0} (l : List A) (k : ℕ) → k < length l → A
element [] k l = absurd (omega (arith, l))
element (x ∷ xs) k l = x

some-input : (o : Option Ports) (k : ℕ) → is_input_of o k ≡ true → is_some o ≡ true
some-input None k is = is
some-input (Some p) k is = refl

-- where no entry offers Exec twice, there are at most as many offers as entries
few-offers : (os : List ExecOffer) (n : ℕ) → OffersOnce os → All (λ (o : ExecOffer). o.by < n) os → length os ≤ n
few-offers os n once below = let most = few_below (map (λ (o : ExecOffer). o.by) os) n different inside in omega (arith, most, many)
  where
    many : length (map (λ (o : ExecOffer). o.by) os) ≡ length os
    many = length-map os (λ (o : ExecOffer). o.by)

    by-at : (i : ℕ) (d : ExecOffer) → i < length os → get_or (map (λ (o : ExecOffer). o.by) os) i 0 ≡ (get_or os i d).by
    by-at i d l = get_or-map (λ (o : ExecOffer). o.by) os i d 0 l

    inside : (k : ℕ) → k < length (map (λ (o : ExecOffer). o.by) os) → get_or (map (λ (o : ExecOffer). o.by) os) k 0 < n
    inside k l = let m : k < length os = omega (arith, l, many) in let d = element os k m in subst (λ b. b < n) (sym (by-at k d m)) (below k d m)

    different : (i j : ℕ) → i < length (map (λ (o : ExecOffer). o.by) os) → j < length (map (λ (o : ExecOffer). o.by) os)
        → get_or (map (λ (o : ExecOffer). o.by) os) i 0 ≡ get_or (map (λ (o : ExecOffer). o.by) os) j 0 → i ≡ j
    different i j l m same =
        let a : i < length os = omega (arith, l, many) in
        let b : j < length os = omega (arith, m, many) in
        let d = element os i a in
        once i j (get_or os i d) (get_or os j d) a (get_or_default os i (get_or os i d) d a) b (get_or_default os j (get_or os j d) d b) (sym (by-at i d a) ∙ same ∙ by-at j d b)

-- what holds of each entry that has an offer
of-single : (P : ℕ → Type 0) (entry : ℕ) (o : Option Offered) → ((x : Offered) → o ≡ Some x → P x.by) → is_some (own_single entry o) ≡ true → P entry
of-single P entry None all is = absurd (both_ways false refl is)
of-single P entry (Some x) all is = go (eqb x.by entry) refl is
  where
    go : (b : Bool) → eqb x.by entry ≡ b → is_some (cond b (Some x.ports) None) ≡ true → P entry
    go true e h = subst P (eqb-true x.by entry e) (all x refl)
    go false e h = absurd (both_ways false refl h)

of-exec : (P : ℕ → Type 0) (entry : ℕ) (os : List ExecOffer) → All (λ (o : ExecOffer). P o.by) os → is_some (exec_of entry os) ≡ true → P entry
of-exec P entry [] all is = absurd (both_ways false refl is)
of-exec P entry (x ∷ xs) all is = go (λ h. of-exec P entry xs (λ i d l. all (suc i) d (omega arith)) h) (eqb x.by entry) refl is
  where
    go : (is_some (exec_of entry xs) ≡ true → P entry) → (b : Bool) → eqb x.by entry ≡ b → is_some (cond b (Some (exec_ports x.ports)) (exec_of entry xs)) ≡ true → P entry
    go later true e h = subst P (eqb-true x.by entry e) (all 0 x (omega arith))
    go later false e h = later h

offer-of : (r : RegistryValue) (entry : ℕ) (s : Service) (P : ℕ → Type 0) → ((t : Service) (o : Offered) → single r t ≡ Some o → P o.by) → All (λ (o : ExecOffer). P o.by) r.execs → offers r entry s ≡ true → P entry
offer-of r entry Fetch P singles execs is = of-single P entry (single r Fetch) (singles Fetch) is
offer-of r entry Predict P singles execs is = of-single P entry (single r Predict) (singles Predict) is
offer-of r entry Decoder P singles execs is = of-single P entry (single r Decoder) (singles Decoder) is
offer-of r entry RegFile P singles execs is = of-single P entry (single r RegFile) (singles RegFile) is
offer-of r entry Hazard P singles execs is = of-single P entry (single r Hazard) (singles Hazard) is
offer-of r entry Exec P singles execs is = of-exec P entry r.execs execs is
offer-of r entry DataBus P singles execs is = of-single P entry (single r DataBus) (singles DataBus) is
offer-of r entry System P singles execs is = of-single P entry (single r System) (singles System) is

module _ {B : Type 0} (spec : B → PlugSpec) (boxes : List B) (plan : Plan) where
  -- when the last is done, each entry is
  pub all_joined : (ok : IsBuildable spec boxes plan) (test test' : B → Plan → Part → Type 0) (first : PoolValue) (own base count : ℕ) (w : World) → length plan.order ≤ count
      → LateSoFar spec test test' boxes plan first own base count w → IsJoined spec test' boxes plan w
  all_joined ok test test' first own base count w over h = record {
    parts = λ d entry inside.
        let k = ok.all entry inside in
        subst (λ (e : ℕ). test' (box_of boxes plan d e) plan (part_in (takes_of (spec (box_of boxes plan d e))) e w)) k.1.1 (h.builds d k.0 (omega (arith, k.1.0)));
    built = record {
      laws = λ d entry inside.
          let k = ok.all entry inside in
          let below : k.0 < count = omega (arith, k.1.0) in
          subst (λ (e : ℕ). MeetsLaws (terms_of (spec (box_of boxes plan d e)) plan) (part_in (takes_of (spec (box_of boxes plan d e))) e w)) k.1.1 (h.laws d k.0 below _ (h.builds d k.0 below));
      offered = λ d entry inside.
          let k = ok.all entry inside in
          subst (λ (e : ℕ). OffersItsOwn (spec (box_of boxes plan d e)) e w.reg) k.1.1 (h.offered d k.0 k.1.0);
      singles = λ s o e. let k = h.offers.singles s o e in subst (λ n. n < length plan.picks) (sym k.1.1) (ok.inside k.0 k.1.0);
      execs = each_more (λ (o : ExecOffer). (k : ℕ) × ((k < length plan.order) × (o.by ≡ entry_at plan k))) (λ (o : ExecOffer). o.by < length plan.picks)
          (λ o k. subst (λ n. n < length plan.picks) (sym k.1.1) (ok.inside k.0 k.1.0)) w.reg.execs h.offers.execs;
      done = λ entry inside.
          let k = ok.all entry inside in
          subst (λ (e : ℕ). IsDone e w) k.1.1 (h.done k.0 (omega (arith, k.1.0)));
    };
  }

  -- and what is left is the pipeline's
  pub all_left : (ok : IsBuildable spec boxes plan) (test test' : B → Plan → Part → Type 0) (first : PoolValue) (base : ℕ) (w : World) → LateSoFar spec test test' boxes plan first (pipe_share plan) base (length plan.order) w → IsLeft plan w
  all_left ok test test' first base w h = record {
    wires = λ k l none.
        let o = h.owners.wires k l in (
          o.0,
          (
            o.1.0,
            elim (cases_Bool (is_own_input w.reg (entry_at plan o.0) k)) [
              | inl is ↦ is
              | inr free ↦ absurd ((h.done o.0 o.1.0).wires k l o.1.1 free none)
            ],
          ),
        );
    regs = λ k l none. let o = h.owners.regs k l in (h.done o.0 o.1.0).regs k l o.1.1 none;
    arrays = λ k l none. let o = h.owners.arrays k l in (h.done o.0 o.1.0).arrays k l o.1.1 none;
    inputs = λ entry j is other.
        let s = input_of_some w.reg entry j is in
        let k = who entry s.0 (some-input (offer_of w.reg entry s.0) j s.1) in
        h.bare k.0 j k.1.0 (subst (λ e. is_own_input w.reg e j ≡ true) k.1.1 is) other;
    outs = λ p net is. let k = h.outs p net is in (entry_at plan k.0, k.1.1);
    driven = λ entry p is.
        let offer : (s : Service) × (offers w.reg entry s ≡ true) = elim (or_cases (offers w.reg entry Fetch && is_fetch_out p) (offers w.reg entry DataBus && is_bus_out p) is) [
          | inl f ↦ (Fetch, (and_parts (offers w.reg entry Fetch) (is_fetch_out p) f).0)
          | inr b ↦ (DataBus, (and_parts (offers w.reg entry DataBus) (is_bus_out p) b).0)
        ] in
        let k = who entry offer.0 offer.1 in
        (h.done k.0 k.1.0).outs p (subst (λ e. is_out_of w.reg e p ≡ true) k.1.1 is);
    there = λ s core.
        let j = ok.core s core in
        let d = box-at (entry_at plan j.0) (ok.inside j.0 j.1.0) in
        there w.reg (entry_at plan j.0) s (h.offered d j.0 j.1.0 s ∙ j.1.1 d);
    few = λ i d l.
        let k = h.offers.execs i d l in
        let inside = ok.inside k.0 k.1.0 in
        let law = ok.lawful (box-at (entry_at plan k.0) inside) (entry_at plan k.0) inside in
        let least = law.few in
        omega (arith, k.1.1, inside, least);
    room =
        let j = ok.core Fetch refl in
        let had = h.room (box-at (entry_at plan j.0) (ok.inside j.0 j.1.0)) in
        record { room = omega (arith, had.room, units); spare = omega (arith, had.spare, units) };
    units = units;
  }
    where
      box-at : (entry : ℕ) → entry < length plan.picks → B
      box-at entry l = element boxes (get_or plan.picks entry 0) (ok.picked entry l)

      units : length w.reg.execs ≤ length plan.order
      units =
          let few = few-offers w.reg.execs (length plan.picks) h.fits.offers.once (λ i d l. let k = h.offers.execs i d l in subst (λ n. n < length plan.picks) (sym k.1.1) (ok.inside k.0 k.1.0)) in
          let size = ok.size in
          omega (arith, few, size)

      -- whoever offers something is an entry of the order
      who : (entry : ℕ) (s : Service) → offers w.reg entry s ≡ true → (k : ℕ) × ((k < length plan.order) × (entry ≡ entry_at plan k))
      who entry s is = offer-of w.reg entry s (λ e. (k : ℕ) × ((k < length plan.order) × (e ≡ entry_at plan k))) (λ t o q. h.offers.singles t o q) h.offers.execs is

  -- some box, since some entry offers Fetch
  pub some_box : IsBuildable spec boxes plan → B
  some_box ok = let j = ok.core Fetch refl in element boxes (get_or plan.picks (entry_at plan j.0) 0) (ok.picked (entry_at plan j.0) (ok.inside j.0 j.1.0))

-- what was joined stays so while another builds
module _ {B : Type 0} (spec : B → PlugSpec) (boxes : List B) (plan : Plan) (by : Owner) (r : Rights) (most : ℕ) (old new : World) (fits : WorldFits old) (apart : (entry : ℕ) → by ≡ Entry entry → ⊥) (b : Builds by r most old new) (same : new.reg ≡ old.reg)
    (leaves : (takes : Service → Bool) (entry : ℕ) → entry < length plan.picks → Leaves takes entry r old new) where
  part-same : (takes : Service → Bool) (entry : ℕ) → entry < length plan.picks → part_in takes entry old ≡ part_in takes entry new
  part-same takes entry l = sym (part_kept takes entry by r most old new (apart entry) fits b (leaves takes entry l))

  pub built_stays : AreBuilt spec boxes plan old → AreBuilt spec boxes plan new
  built_stays h = record {
    laws = λ d entry l. subst (MeetsLaws (terms_of (spec (box_of boxes plan d entry)) plan)) (part-same (takes_of (spec (box_of boxes plan d entry))) entry l) (h.laws d entry l);
    offered = λ d entry l s. ap (λ (g : RegistryValue). offers g entry s) same ∙ h.offered d entry l s;
    singles = λ s o is. h.singles s o (ap (λ (g : RegistryValue). single g s) (sym same) ∙ is);
    execs = subst (λ (g : RegistryValue). All (λ (o : ExecOffer). o.by < length plan.picks) g.execs) (sym same) h.execs;
    done = λ entry l. done_kept entry by r most old new (apart entry) fits b same (h.done entry l);
  }

  pub joined_stays : (test : B → Plan → Part → Type 0) → IsJoined spec test boxes plan old → IsJoined spec test boxes plan new
  joined_stays test h = record {
    parts = λ d entry l. subst (test (box_of boxes plan d entry) plan) (part-same (takes_of (spec (box_of boxes plan d entry))) entry l) (h.parts d entry l);
    built = built_stays h.built;
  }
