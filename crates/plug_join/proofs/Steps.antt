-- One box after the other.
use Rattle.std.proofs.Common.{◌≡◌, ◌∙◌, ℕ, ◌+◌, ◌<◌, ◌≤◌, List, length, get_or, refl, arith, ap, sym, subst, Bool, true, false, ◌||◌, ◌&&◌, is_some, Option, None, Some, inl, inr, ◌⊎◌}
use Rattle.std.specs.Prelude.{All}
use Rattle.hw_pool.proofs.Frames.{adds_nothing}
use Rattle.std.proofs.lemmas.Bool.{or_left, or_right, cases_lt, cases_eq, cases_Bool, both_ways, or_cases, and_parts}
use Rattle.std.proofs.lemmas.List.Elements.{All-append}
use Rattle.std.proofs.lemmas.List.Sums.{sum_by-drop_more}
use Rattle.hw_pool.specs.Nodes.{PoolValue}
use Rattle.hw_pool.proofs.Frames.{adds_then}
use Rattle.hw_expr.specs.declared.net.Net.{Net}
use Rattle.hw_module.specs.declared.rows.Owner.TheVariants.{Entry}
use Rattle.hw_module.specs.declared.rows.WireRow.{WireRow}
use Rattle.hw_module.specs.declared.rows.Owner.{Owner}
use Rattle.hw_module.specs.Rows.{ModuleValue, wire_at, out_at}
use Rattle.service_reg.specs.declared.service.Service.{Service}
use Rattle.service_reg.specs.declared.service.Service.TheVariants.{Fetch, Predict, Decoder, RegFile, Hazard, Exec, DataBus, System}
use Rattle.service_ports.specs.Ports.{Ports}
use Rattle.service_ports.specs.declared.ports.ExecOffer.{ExecOffer}
use Rattle.service_ports.specs.Registry.{RegistryValue, Offered, single, own_single, exec_of, offer_of, OffersBy}
use Rattle.plug_api.specs.declared.spec.PlugSpec.{PlugSpec}
use Rattle.plug_api.specs.declared.spec.Plan.{Plan}
use Rattle.plug_api.specs.Spec.{is_among}
use Rattle.hw_module.specs.Rights.{Rights, Makes}
use Rattle.plug_part.specs.Owned.{is_input_of, is_own_input, is_predict_input, is_out_of, is_fetch_out, is_bus_out, offers, ports_of}
use Rattle.plug_build.specs.World.{World, Builds, early_rights, late_rights, part_in}
use Rattle.plug_build.specs.Fits.{WorldFits}
use Rattle.plug_build.specs.Done.{IsDone, AreOpen}
use Rattle.plug_part.specs.Part.{Part}
use Rattle.plug_build.proofs.Offers.{offer_kept, own_input_is, predict_input_is}
use Rattle.service_ports.proofs.Offers.{none_some}
use Rattle.plug_build.proofs.Frame.{part_kept, input_same, some_eq}
use Rattle.plug_build.specs.Frame.{Leaves, PredictStays}
use Rattle.plug_build.specs.Frame.PredictStays.{Stays, Comes}
use Rattle.plug_build.proofs.Leaves.{entry_eq, early_leaves, late_leaves, nothing_kept, single_offers, disjoint_outs, by_self}
use Rattle.plug_part.specs.Meets.{MeetsLaws}
use Rattle.plug_api.specs.Calls.{OffersItsOwn, IsThere, AreThere, AreUnoffered, AreOutsOpen, IsPredictOpen, half_cost, takes_of, terms_of}
use Rattle.plug_join.specs.Joined.{entry_at, box_of, rest_half, size_of, IsBuildable, AreOwned, AreOffersOf, EarlySoFar, LateSoFar}

not-offered : (r : RegistryValue) (e : ℕ) (s : Service) → single r s ≡ None → (s ≡ Exec → ⊥) → offers r e s ≡ false
not-offered r e Fetch h ne = ap (λ (o : Option Offered). is_some (own_single e o)) h
not-offered r e Predict h ne = ap (λ (o : Option Offered). is_some (own_single e o)) h
not-offered r e Decoder h ne = ap (λ (o : Option Offered). is_some (own_single e o)) h
not-offered r e RegFile h ne = ap (λ (o : Option Offered). is_some (own_single e o)) h
not-offered r e Hazard h ne = ap (λ (o : Option Offered). is_some (own_single e o)) h
not-offered r e Exec h ne = absurd (ne refl)
not-offered r e DataBus h ne = ap (λ (o : Option Offered). is_some (own_single e o)) h
not-offered r e System h ne = ap (λ (o : Option Offered). is_some (own_single e o)) h

pub there : (r : RegistryValue) (e : ℕ) (s : Service) → offers r e s ≡ true → IsThere r s
there r e Fetch h = λ none. both_ways _ (not-offered r e Fetch none (λ q. cc)) h
there r e Predict h = λ none. both_ways _ (not-offered r e Predict none (λ q. cc)) h
there r e Decoder h = λ none. both_ways _ (not-offered r e Decoder none (λ q. cc)) h
there r e RegFile h = λ none. both_ways _ (not-offered r e RegFile none (λ q. cc)) h
there r e Hazard h = λ none. both_ways _ (not-offered r e Hazard none (λ q. cc)) h
there r e Exec h = λ none. both_ways _ (ap (λ (os : List ExecOffer). is_some (exec_of e os)) none) h
there r e DataBus h = λ none. both_ways _ (not-offered r e DataBus none (λ q. cc)) h
there r e System h = λ none. both_ways _ (not-offered r e System none (λ q. cc)) h

pub each_more : {X : Type 0} (P Q : X → Type 0) → ((x : X) → P x → Q x) → (xs : List X) → All P xs → All Q xs
each_more P Q f xs h i d l = f (get_or xs i d) (h i d l)

none_and : (a b : Bool) → b ≡ false → (a && b) ≡ false
none_and true b e = e
none_and false b e = refl

-- two that drive one output of the core offer one service
same-service : (fa ba fb bb : Bool) (p : ℕ) → ((fa && is_fetch_out p) || (ba && is_bus_out p)) ≡ true → ((fb && is_fetch_out p) || (bb && is_bus_out p)) ≡ true → ((fa ≡ true) × (fb ≡ true)) ⊎ ((ba ≡ true) × (bb ≡ true))
same-service fa ba fb bb p a b = elim (or_cases (fa && is_fetch_out p) (ba && is_bus_out p) a) [
  | inl x ↦
      let xa = and_parts fa (is_fetch_out p) x in
      elim (or_cases (fb && is_fetch_out p) (bb && is_bus_out p) b) [
        | inl y ↦ inl (xa.0, (and_parts fb (is_fetch_out p) y).0)
        | inr y ↦ absurd (disjoint_outs p xa.1 (and_parts bb (is_bus_out p) y).1)
      ]
  | inr x ↦
      let xa = and_parts ba (is_bus_out p) x in
      elim (or_cases (fb && is_fetch_out p) (bb && is_bus_out p) b) [
        | inl y ↦ absurd (disjoint_outs p (and_parts fb (is_fetch_out p) y).1 xa.1)
        | inr y ↦ inr (xa.0, (and_parts bb (is_bus_out p) y).0)
      ]
]

-- ---- things of entries while one of them builds

module _ (plan : Plan) (count from : ℕ) (old new : ModuleValue) (r : Rights) (n : ℕ) (m : Makes (Entry (entry_at plan count)) r old new n) (few : count < from) (h : AreOwned plan from old) where
  pub owned_more : AreOwned plan from new
  owned_more = record {
    wires = λ k l. elim (cases_lt k (length old.wires)) [
      | inl here ↦ let w = h.wires k here in (w.0, (w.1.0, (m.grows.wires k here).owner ∙ w.1.1))
      | inr after ↦ (count, (few, m.new_wires k after l))
    ];
    regs = λ k l. elim (cases_lt k (length old.regs)) [
      | inl here ↦ let w = h.regs k here in (w.0, (w.1.0, (m.grows.regs k here).owner ∙ w.1.1))
      | inr after ↦ (count, (few, m.new_regs k after l))
    ];
    arrays = λ k l. elim (cases_lt k (length old.arrays)) [
      | inl here ↦ let w = h.arrays k here in (w.0, (w.1.0, (m.grows.arrays k here).owner ∙ w.1.1))
      | inr after ↦ (count, (few, m.new_arrays k after l))
    ];
  }

pub owned_upto : (plan : Plan) (a b : ℕ) (d : ModuleValue) → a ≤ b → AreOwned plan a d → AreOwned plan b d
owned_upto plan a b d le h = record {
  wires = λ k l. let w = h.wires k l in (w.0, (omega (arith, w.1.0), w.1.1));
  regs = λ k l. let w = h.regs k l in (w.0, (omega (arith, w.1.0), w.1.1));
  arrays = λ k l. let w = h.arrays k l in (w.0, (omega (arith, w.1.0), w.1.1));
}

-- what was driven is driven
still-driven : {A : Type 0} (old new : Option A) → ((x : A) → old ≡ Some x → new ≡ Some x) → (old ≡ None → ⊥) → new ≡ None → ⊥
still-driven None new kept was none = was refl
still-driven (Some x) new kept was none = none_some new x none (kept x refl)

-- an entry that is done stays so while others build
pub done_kept : (x : ℕ) (by : Owner) (r : Rights) (most : ℕ) (old new : World) → (by ≡ Entry x → ⊥) → WorldFits old → Builds by r most old new → new.reg ≡ old.reg → IsDone x old → IsDone x new
done_kept x by r most old new apart fits b same h = record {
  wires = λ k l own free. elim (cases_lt k (length old.design.wires)) [
    | inr after ↦ absurd (apart (sym (b.makes.new_wires k after l) ∙ own))
    | inl here ↦
        let row = b.makes.grows.wires k here in
        still-driven _ _ row.driver (h.wires k here (sym row.owner ∙ own) (ap (λ (g : RegistryValue). is_own_input g x k) (sym same) ∙ free))
  ];
  regs = λ k l own. elim (cases_lt k (length old.design.regs)) [
    | inr after ↦ absurd (apart (sym (b.makes.new_regs k after l) ∙ own))
    | inl here ↦ let row = b.makes.grows.regs k here in still-driven _ _ row.next (h.regs k here (sym row.owner ∙ own))
  ];
  arrays = λ k l own. elim (cases_lt k (length old.design.arrays)) [
    | inr after ↦ absurd (apart (sym (b.makes.new_arrays k after l) ∙ own))
    | inl here ↦ let row = b.makes.grows.arrays k here in still-driven _ _ row.write (h.arrays k here (sym row.owner ∙ own))
  ];
  outs = λ p is. still-driven _ _ (b.makes.grows.outs p) (h.outs p (ap (λ (g : RegistryValue). is_out_of g x p) (sym same) ∙ is));
  drives = λ k is.
      let was : (offers old.reg x Fetch && is_predict_input old.reg k) ≡ true = ap (λ (g : RegistryValue). offers g x Fetch && is_predict_input g k) (sym same) ∙ is in
      let y = predict_input_is old.design old.pool old.reg fits.offers k (and_parts (offers old.reg x Fetch) (is_predict_input old.reg k) was).1 in
      still-driven _ _ (b.makes.grows.wires k y.1).driver (h.drives k was);
}

module _ {B : Type 0} (spec : B → PlugSpec) (boxes : List B) (plan : Plan) where
  abbrev at : B → ℕ → PlugSpec
  at d k = spec (box_of boxes plan d (entry_at plan k))

  pub rest_more : (d : B) (count : ℕ) → count < length plan.order → rest_half spec boxes plan d count ≡ half_cost (at d count) plan + rest_half spec boxes plan d (count + 1)
  rest_more d count h = sum_by-drop_more (λ entry. half_cost (spec (box_of boxes plan d entry)) plan) plan.order count 0 h

  module _ (ok : IsBuildable spec boxes plan) where
    entries-apart : (i j : ℕ) → i < j → j < length plan.order → entry_at plan i ≡ entry_at plan j → ⊥
    entries-apart i j lt l e = let same : i ≡ j = ok.once i j (omega arith) l e in omega arith

    module _ (test : B → Plan → Part → Type 0) (first : PoolValue) (own count : ℕ) (w : World) (l : count < length plan.order) (h : EarlySoFar spec test boxes plan first own count w) where
      pub unoffered_here : (d : B) → AreUnoffered (at d count) w.reg
      unoffered_here d s is = go (single w.reg s) refl
        where
          go : (o : Option Offered) → single w.reg s ≡ o → single w.reg s ≡ None
          go None e = e
          go (Some o) e =
              let k = h.offers.singles s o e in
              let by = k.1.1 in
              let mine = single_offers w.reg (entry_at plan k.0) s o.ports (e ∙ (λ i. Some (record { by = by i; ports = o.ports }))) in
              let same : k.0 ≡ count = ok.apart d k.0 count s (omega (arith, k.1.0)) l (sym (h.offered d k.0 k.1.0 s) ∙ mine) is (λ q. none_some None o refl (subst (λ (t : Service). single w.reg t ≡ Some o) q e)) in
              absurd (omega (arith, k.1.0))

      pub outs_here : (d : B) → AreOutsOpen (at d count) w.design
      outs_here d p is = go (out_at w.design.outs p) refl
        where
          go : (o : Option Net) → out_at w.design.outs p ≡ o → out_at w.design.outs p ≡ None
          go None e = e
          go (Some net) e =
              let k = h.outs p net e in
              let f = h.offered d k.0 k.1.0 Fetch in
              let b = h.offered d k.0 k.1.0 DataBus in
              let theirs : ((is_among (at d k.0).offers Fetch && is_fetch_out p) || (is_among (at d k.0).offers DataBus && is_bus_out p)) ≡ true = (λ i. (sym f i && is_fetch_out p) || (sym b i && is_bus_out p)) ∙ k.1.1 in
              let same : k.0 ≡ count = elim (same-service _ _ _ _ p theirs is) [
                | inl x ↦ ok.apart d k.0 count Fetch (omega (arith, k.1.0)) l x.0 x.1 (λ q. cc)
                | inr y ↦ ok.apart d k.0 count DataBus (omega (arith, k.1.0)) l y.0 y.1 (λ q. cc)
              ] in
              absurd (omega (arith, k.1.0))

      pub room_here : (d : B) → half_cost (at d count) plan ≤ w.design.room
      room_here d = let more = rest_more d count l in let had = h.room d in omega (arith, had.room)

      pub spare_here : (d : B) → half_cost (at d count) plan ≤ w.pool.spare
      spare_here d = let more = rest_more d count l in let had = h.room d in omega (arith, had.spare)

      module _ (w' : World) (fits : WorldFits w') (most : ℕ) (b : Builds (Entry (entry_at plan count)) (early_rights w'.reg (entry_at plan count)) most w w')
          (bd : (d : B) → Builds (Entry (entry_at plan count)) (early_rights w'.reg (entry_at plan count)) (half_cost (at d count) plan) w w') (by : OffersBy (entry_at plan count) w.reg w'.reg)
          (offered : (d : B) → OffersItsOwn (at d count) (entry_at plan count) w'.reg) (exec : w.reg.room ≤ w'.reg.room + 1) (bare : AreOpen (entry_at plan count) w')
          (begun : (d : B) → test (box_of boxes plan d (entry_at plan count)) plan (part_in (takes_of (at d count)) (entry_at plan count) w')) where
        apart-owner : (k : ℕ) → (entry_at plan k ≡ entry_at plan count → ⊥) → Entry (entry_at plan count) ≡ Entry (entry_at plan k) → ⊥
        apart-owner k ne q = ne (sym (entry_eq _ _ q))

        abbrev none-taken : Service → Bool
        none-taken s = false

        leaves-for : (takes : Service → Bool) (k : ℕ) → k < count → ((s : Service) → takes s ≡ true → offers w'.reg (entry_at plan count) s ≡ false) → Leaves takes (entry_at plan k) (early_rights w'.reg (entry_at plan count)) w w'
        leaves-for takes k lt before =
            early_leaves takes (entry_at plan k) (entry_at plan count) most w w' (entries-apart k count lt l) h.fits b by bare (h.fresh count (omega arith) l).offers before

        part-stays : (d : B) (k : ℕ) → k < count → part_in (takes_of (at d k)) (entry_at plan k) w' ≡ part_in (takes_of (at d k)) (entry_at plan k) w
        part-stays d k lt =
            part_kept (takes_of (at d k)) (entry_at plan k) (Entry (entry_at plan count)) (early_rights w'.reg (entry_at plan count)) most w w' (apart-owner k (entries-apart k count lt l)) h.fits b
            (leaves-for (takes_of (at d k)) k lt (λ s t. offered d s ∙ ok.settled d k count s (omega arith) l t))

        begun-more : (d : B) (k : ℕ) → k < count + 1 → test (box_of boxes plan d (entry_at plan k)) plan (part_in (takes_of (at d k)) (entry_at plan k) w')
        begun-more d k lt = elim (cases_lt k count) [
          | inl earlier ↦ subst (test (box_of boxes plan d (entry_at plan k)) plan) (sym (part-stays d k earlier)) (h.begun d k earlier)
          | inr here ↦ let e : count ≡ k = omega arith in subst (λ (j : ℕ). test (box_of boxes plan d (entry_at plan j)) plan (part_in (takes_of (at d j)) (entry_at plan j) w')) e (begun d)
        ]

        offered-more : (d : B) (k : ℕ) → k < count + 1 → OffersItsOwn (at d k) (entry_at plan k) w'.reg
        offered-more d k lt = elim (cases_lt k count) [
          | inl earlier ↦ λ s. ap (λ (o : Option Ports). is_some o) (offer_kept (entry_at plan k) (entry_at plan count) (entries-apart k count earlier l) w.reg w'.reg by s) ∙ h.offered d k earlier s
          | inr here ↦ let e : count ≡ k = omega arith in subst (λ (j : ℕ). OffersItsOwn (at d j) (entry_at plan j) w'.reg) e (offered d)
        ]

        bare-more : (k : ℕ) → k < count + 1 → AreOpen (entry_at plan k) w'
        bare-more k lt = elim (cases_lt k count) [
          | inr here ↦ let e : count ≡ k = omega arith in subst (λ (j : ℕ). AreOpen (entry_at plan j) w') e bare
          | inl earlier ↦ λ j is.
              let ne = entries-apart k count earlier l in
              let was : is_own_input w.reg (entry_at plan k) j ≡ true =
              sym (input_same none-taken (entry_at plan k) (Entry (entry_at plan count)) (early_rights w'.reg (entry_at plan count)) most w w' (apart-owner k ne) h.fits b (leaves-for none-taken k earlier (λ s t. absurd (both_ways false refl t))) j) ∙ is in
              let row = own_input_is w.design w.pool w.reg h.fits.offers (entry_at plan k) j was in
              ap (λ (r : WireRow). r.driver) (b.makes.wires j row.0 (λ q. apart-owner k ne (sym q ∙ row.1)) refl) ∙ h.bare k earlier j was
        ]

        singles-more : (s : Service) (o : Offered) → single w'.reg s ≡ Some o → (k : ℕ) × ((k < count + 1) × (o.by ≡ entry_at plan k))
        singles-more s o e = go (single w.reg s) refl
          where
            go : (was : Option Offered) → single w.reg s ≡ was → (k : ℕ) × ((k < count + 1) × (o.by ≡ entry_at plan k))
            go None none = (count, (omega arith, by.added s o none e))
            go (Some o') is =
                let k = h.offers.singles s o' is in
                let same : o' ≡ o = some_eq (sym (by.kept s o' is) ∙ e) in
                (k.0, (omega (arith, k.1.0), ap (λ (x : Offered). x.by) (sym same) ∙ k.1.1))

        execs-more : All (λ (o : ExecOffer). (k : ℕ) × ((k < count + 1) × (o.by ≡ entry_at plan k))) w'.reg.execs
        execs-more = subst (All (λ (o : ExecOffer). (k : ℕ) × ((k < count + 1) × (o.by ≡ entry_at plan k)))) (sym by.execs)
            (All-append (λ (o : ExecOffer). (k : ℕ) × ((k < count + 1) × (o.by ≡ entry_at plan k))) w.reg.execs by.more
            (each_more (λ (o : ExecOffer). (k : ℕ) × ((k < count) × (o.by ≡ entry_at plan k))) (λ (o : ExecOffer). (k : ℕ) × ((k < count + 1) × (o.by ≡ entry_at plan k))) (λ o f. (f.0, (omega (arith, f.1.0), f.1.1))) w.reg.execs h.offers.execs)
            (each_more (λ (o : ExecOffer). o.by ≡ entry_at plan count) (λ (o : ExecOffer). (k : ℕ) × ((k < count + 1) × (o.by ≡ entry_at plan k))) (λ o own. (count, (omega arith, own))) by.more by.execs_by))

        outs-more : (p : ℕ) (net : Net) → out_at w'.design.outs p ≡ Some net → (k : ℕ) × ((k < count + 1) × (is_out_of w'.reg (entry_at plan k) p ≡ true))
        outs-more p net e = elim (cases_Bool (is_out_of w'.reg (entry_at plan count) p)) [
          | inl mine ↦ (count, (omega arith, mine))
          | inr other ↦
              let k = h.outs p net (sym (b.makes.outs p other) ∙ e) in
              let kept = offer_kept (entry_at plan k.0) (entry_at plan count) (entries-apart k.0 count k.1.0 l) w.reg w'.reg by in
              (k.0, (omega (arith, k.1.0), (λ i. (is_some (kept Fetch i) && is_fetch_out p) || (is_some (kept DataBus i) && is_bus_out p)) ∙ k.1.1))
        ]

        pub early_step : EarlySoFar spec test boxes plan first own (count + 1) w'
        early_step = record {
          fits = fits;
          begun = begun-more;
          offered = offered-more;
          bare = bare-more;
          fresh = λ k le lt. nothing_kept (entry_at plan k) (entry_at plan count) most (early_rights w'.reg (entry_at plan count)) w w' (λ q. entries-apart count k (omega arith) lt (sym q)) b by (h.fresh k (omega arith) lt);
          offers = record { singles = singles-more; execs = execs-more };
          outs = outs-more;
          room = λ d.
              let more = rest_more d count l in
              let had = h.room d in
              let u = bd d in
              record {
                room = omega (arith, had.room, u.makes.grows.room, u.sum);
                spare = omega (arith, had.spare, u.adds.spare, u.sum);
              };
          spent = λ d.
              let more = rest_more d count l in
              let had = h.spent d in
              let u = bd d in
              omega (arith, more, had, u.makes.grows.fill, u.adds.most, u.sum);
          execs = let had = h.execs in omega arith;
          owners = owned_more plan count (count + 1) w.design w'.design (early_rights w'.reg (entry_at plan count)) b.things b.makes (omega arith) (owned_upto plan count (count + 1) w.design (omega arith) h.owners);
          nodes = h.nodes + b.nodes;
          adds = adds_then first w.pool w'.pool h.nodes b.nodes (h.nodes + b.nodes) h.adds b.adds (omega arith);
        }

    module _ (test test' : B → Plan → Part → Type 0) (first : PoolValue) (own base count : ℕ) (w : World) (l : count < length plan.order) (h : LateSoFar spec test test' boxes plan first own base count w) where
      pub needs_here : (d : B) → AreThere (at d count) w.reg
      needs_here d s need = let j = ok.met d count s l need in there w.reg (entry_at plan j.0) s (h.offered d j.0 j.1.0 s ∙ j.1.1)

      pub late_room : (d : B) → half_cost (at d count) plan ≤ w.design.room
      late_room d = let more = rest_more d count l in let had = h.room d in omega (arith, had.room)

      pub late_spare : (d : B) → half_cost (at d count) plan ≤ w.pool.spare
      late_spare d = let more = rest_more d count l in let had = h.room d in omega (arith, had.spare)

      module _ (w' : World) (fits : WorldFits w') (same : w'.reg ≡ w.reg) (most : ℕ) (b : Builds (Entry (entry_at plan count)) (late_rights w.reg (entry_at plan count)) most w w')
          (bd : (d : B) → Builds (Entry (entry_at plan count)) (late_rights w.reg (entry_at plan count)) (half_cost (at d count) plan) w w')
          (builds : (d : B) → test' (box_of boxes plan d (entry_at plan count)) plan (part_in (takes_of (at d count)) (entry_at plan count) w'))
          (done : IsDone (entry_at plan count) w') (law : (d : B) (p : Part) → test' (box_of boxes plan d (entry_at plan count)) plan p → MeetsLaws (terms_of (at d count) plan) p) where
        leaves-late : (takes : Service → Bool) (k : ℕ) → (entry_at plan k ≡ entry_at plan count → ⊥) → Leaves takes (entry_at plan k) (late_rights w.reg (entry_at plan count)) w w'
        leaves-late takes k ne = late_leaves takes (entry_at plan k) (entry_at plan count) most w w' ne h.fits b same

        part-late : (d : B) (k : ℕ) → (entry_at plan k ≡ entry_at plan count → ⊥) → part_in (takes_of (at d k)) (entry_at plan k) w' ≡ part_in (takes_of (at d k)) (entry_at plan k) w
        part-late d k ne =
            part_kept (takes_of (at d k)) (entry_at plan k) (Entry (entry_at plan count)) (late_rights w.reg (entry_at plan count)) most w w' (λ q. ne (sym (entry_eq _ _ q))) h.fits b (leaves-late (takes_of (at d k)) k ne)

        predict-late : (d : B) (k : ℕ) → count + 1 ≤ k → k < length plan.order → IsPredictOpen (at d k) w'.reg w'.design
        predict-late d k le lt off j is = go (leaves.predicts j (h.offered d k lt Fetch ∙ off))
          where
            leaves : Leaves (takes_of (at d k)) (entry_at plan k) (late_rights w.reg (entry_at plan count)) w w'
            leaves = leaves-late (takes_of (at d k)) k (λ q. entries-apart count k (omega arith) lt (sym q))

            was : is_predict_input w.reg j ≡ true
            was = ap (λ (r : RegistryValue). is_predict_input r j) (sym same) ∙ is

            go : PredictStays w w' j → (wire_at w'.design.wires j).driver ≡ None
            go (Stays q row) = ap (λ (r : WireRow). r.driver) (row was).1 ∙ h.predict d k (omega arith) lt off j was
            go (Comes miss bare) = bare

        bare-late : (k j : ℕ) → k < length plan.order → is_own_input w'.reg (entry_at plan k) j ≡ true → is_predict_input w'.reg j ≡ false → (wire_at w'.design.wires j).driver ≡ None
        bare-late k j lt is other = ap (λ (r : WireRow). r.driver) stays ∙ h.bare k j lt was before
          where
            was : is_own_input w.reg (entry_at plan k) j ≡ true
            was = ap (λ (r : RegistryValue). is_own_input r (entry_at plan k) j) (sym same) ∙ is

            before : is_predict_input w.reg j ≡ false
            before = ap (λ (r : RegistryValue). is_predict_input r j) (sym same) ∙ other

            free : (offers w.reg (entry_at plan count) Fetch && is_predict_input w.reg j) ≡ false
            free = none_and (offers w.reg (entry_at plan count) Fetch) (is_predict_input w.reg j) before

            stays : wire_at w'.design.wires j ≡ wire_at w.design.wires j
            stays =
                let row = own_input_is w.design w.pool w.reg h.fits.offers (entry_at plan k) j was in
                elim (cases_eq (entry_at plan k) (entry_at plan count)) [
                  | inl mine ↦ b.makes.locked j row.0 (subst (λ e. is_own_input w.reg e j ≡ true) mine was) free
                  | inr others ↦ b.makes.wires j row.0 (λ q. others (entry_eq _ _ (sym row.1 ∙ q))) free
                ]

        outs-late : (p : ℕ) (net : Net) → out_at w'.design.outs p ≡ Some net → (k : ℕ) × ((k < length plan.order) × (is_out_of w'.reg (entry_at plan k) p ≡ true))
        outs-late p net is = elim (cases_Bool (is_out_of w.reg (entry_at plan count) p)) [
          | inl mine ↦ (count, (l, ap (λ (r : RegistryValue). is_out_of r (entry_at plan count) p) same ∙ mine))
          | inr other ↦
              let k = h.outs p net (sym (b.makes.outs p other) ∙ is) in
              (k.0, (k.1.0, ap (λ (r : RegistryValue). is_out_of r (entry_at plan k.0) p) same ∙ k.1.1))
        ]

        pub late_step : LateSoFar spec test test' boxes plan first own base (count + 1) w'
        late_step = record {
          fits = fits;
          begun = λ d k le lt. subst (test (box_of boxes plan d (entry_at plan k)) plan) (sym (part-late d k (λ q. entries-apart count k (omega arith) lt (sym q)))) (h.begun d k (omega arith) lt);
          offered = λ d k lt s. ap (λ (r : RegistryValue). offers r (entry_at plan k) s) same ∙ h.offered d k lt s;
          builds = λ d k lt. elim (cases_lt k count) [
            | inl earlier ↦ subst (test' (box_of boxes plan d (entry_at plan k)) plan) (sym (part-late d k (entries-apart k count earlier l))) (h.builds d k earlier)
            | inr here ↦ let e : count ≡ k = omega arith in subst (λ (j : ℕ). test' (box_of boxes plan d (entry_at plan j)) plan (part_in (takes_of (at d j)) (entry_at plan j) w')) e (builds d)
          ];
          laws = λ d k lt. elim (cases_lt k count) [
            | inl earlier ↦ h.laws d k earlier
            | inr here ↦ let e : count ≡ k = omega arith in subst (λ (j : ℕ). (p : Part) → test' (box_of boxes plan d (entry_at plan j)) plan p → MeetsLaws (terms_of (at d j) plan) p) e (law d)
          ];
          done = λ k lt. elim (cases_lt k count) [
            | inl earlier ↦ done_kept (entry_at plan k) (Entry (entry_at plan count)) (late_rights w.reg (entry_at plan count)) most w w' (λ q. entries-apart k count earlier l (sym (entry_eq _ _ q))) h.fits b same (h.done k earlier)
            | inr here ↦ let e : count ≡ k = omega arith in subst (λ (j : ℕ). IsDone (entry_at plan j) w') e done
          ];
          owners = owned_more plan count (length plan.order) w.design w'.design (late_rights w.reg (entry_at plan count)) b.things b.makes l h.owners;
          offers = subst (AreOffersOf plan (length plan.order)) (sym same) h.offers;
          bare = bare-late;
          outs = outs-late;
          predict = predict-late;
          room = λ d.
              let more = rest_more d count l in
              let had = h.room d in
              let u = bd d in
              record {
                room = omega (arith, had.room, u.makes.grows.room, u.sum);
                spare = omega (arith, had.spare, u.adds.spare, u.sum);
              };
          spent = λ d.
              let more = rest_more d count l in
              let had = h.spent d in
              let u = bd d in
              omega (arith, more, had, u.makes.grows.fill, u.adds.most, u.sum);
          nodes = h.nodes + b.nodes;
          adds = adds_then first w.pool w'.pool h.nodes b.nodes (h.nodes + b.nodes) h.adds b.adds (omega arith);
        }

  -- once all have begun, the second phase begins
  pub late_first : (test test' : B → Plan → Part → Type 0) (first : PoolValue) (own : ℕ) (w : World) → EarlySoFar spec test boxes plan first own (length plan.order) w → LateSoFar spec test test' boxes plan w.pool own (size_of w) 0 w
  late_first test test' first own w h = record {
    fits = h.fits;
    begun = λ d k le lt. h.begun d k lt;
    offered = h.offered;
    builds = λ d k lt. absurd (omega arith);
    laws = λ d k lt. absurd (omega arith);
    done = λ k lt. absurd (omega arith);
    owners = h.owners;
    offers = h.offers;
    bare = λ k j l is other. h.bare k l j is;
    outs = h.outs;
    predict = λ d k le lt off j is. go j (single w.reg Predict) refl is;
    room = λ d. let had = h.room d in record { room = omega (arith, had.room); spare = omega (arith, had.spare) };
    spent = λ d. omega arith;
    nodes = 0;
    adds = adds_nothing w.pool w.pool refl (omega arith);
  }
    where
      go : (j : ℕ) (o : Option Offered) → single w.reg Predict ≡ o → is_input_of (ports_of (single w.reg Predict)) j ≡ true → (wire_at w.design.wires j).driver ≡ None
      go j None e is = absurd (both_ways _ (ap (λ (q : Option Offered). is_input_of (ports_of q) j) e) is)
      go j (Some o) e is =
          let k = h.offers.singles Predict o e in
          let by = k.1.1 in
          let mine : own_single (entry_at plan k.0) (single w.reg Predict) ≡ Some o.ports = by_self (entry_at plan k.0) o.ports (single w.reg Predict) (e ∙ (λ i. Some (record { by = by i; ports = o.ports }))) in
          let among : is_input_of (Some o.ports) j ≡ true = ap (λ (q : Option Offered). is_input_of (ports_of q) j) (sym e) ∙ is in
          h.bare k.0 k.1.0 j (or_right (is_input_of (offer_of w.reg (entry_at plan k.0) Fetch) j) _ (or_left _ _ (ap (λ (q : Option Ports). is_input_of q j) mine ∙ among)))
