-- What is offered while entries build one behind the other, and when an entry may build.
use Rattle.std.proofs.Common.{◌≡◌, ◌∙◌, ℕ, ◌+◌, ◌*◌, ◌/◌, ◌≤◌, List, [], ◌∷◌, ◌++◌, length, refl, arith, ap, sym, subst, true, false, is_some, ◌||◌, ◌&&◌, Option, None, Some}
use Rattle.std.proofs.lemmas.Bool.{both_ways}
use Rattle.hw_module.specs.declared.rows.Owner.TheVariants.{Entry}
use Rattle.hw_module.specs.Rights.{Rights}
use Rattle.hw_module.specs.Rows.{ModuleValue}
use Rattle.service_reg.specs.declared.service.Service.{Service}
use Rattle.service_reg.specs.declared.service.Service.TheVariants.{Fetch, Predict, Decoder, RegFile, Hazard, Exec, DataBus, System}
use Rattle.service_ports.specs.Ports.{Ports}
use Rattle.service_ports.specs.Registry.{RegistryValue, Offered, OffersBy, exec_of, offer_of, own_single, single}
use Rattle.service_ports.proofs.Offers.{none_some}
use Rattle.plug_part.specs.Owned.{is_bus_out, is_fetch_out, is_input_of, is_predict_input, offers, ports_of}
use Rattle.plug_build.specs.World.{World, Builds}
use Rattle.plug_build.specs.Fits.{WorldFits}
use Rattle.plug_build.proofs.Leaves.{nothing_kept, single_offers}
use Rattle.plug_api.specs.declared.spec.PlugSpec.{PlugSpec}
use Rattle.plug_api.specs.declared.spec.Plan.{Plan}
use Rattle.plug_api.specs.Spec.{is_among}
use Rattle.plug_api.specs.Calls.{AreThere, IsLawful, IsPredictOpen, IsThere, OffersItsOwn, half_cost}
use Rattle.part_alone.specs.Built.{HasBuilt, IsBare, IsBeside, MayBuild}

-- what nobody offered, and the entry does not, is offered by nobody
pub still_none : (e : ℕ) (old new : RegistryValue) (s : Service) → OffersBy e old new → single old s ≡ None → offers new e s ≡ false → single new s ≡ None
still_none e old new s by none says = go (single new s) refl
  where
    go : (o : Option Offered) → single new s ≡ o → single new s ≡ None
    go None is = is
    go (Some o) is =
        let own : o.by ≡ e = by.added s o none is in
        absurd (both_ways (offers new e s) says (single_offers new e s o.ports (is ∙ (λ i. Some (record { by = own i; ports = o.ports })))))

kept-single : (old new : Option Offered) → ((o : Offered) → old ≡ Some o → new ≡ Some o) → (old ≡ None → ⊥) → new ≡ None → ⊥
kept-single None new kept was none = was refl
kept-single (Some o) new kept was none = none_some new o none (kept o refl)

none-behind : {A : Type 0} (xs ys : List A) → xs ++ ys ≡ [] → xs ≡ []
none-behind [] ys e = refl
none-behind (x ∷ xs) ys e = cc

nothing-behind : {A : Type 0} (xs : List A) → xs ≡ xs ++ []
nothing-behind [] = refl
nothing-behind (x ∷ xs) = ap (λ ys. x ∷ ys) (nothing-behind xs)

-- what was there is there
pub there_kept : (e : ℕ) (old new : RegistryValue) (s : Service) → OffersBy e old new → IsThere old s → IsThere new s
there_kept e old new Fetch by h = kept-single (single old Fetch) (single new Fetch) (by.kept Fetch) h
there_kept e old new Predict by h = kept-single (single old Predict) (single new Predict) (by.kept Predict) h
there_kept e old new Decoder by h = kept-single (single old Decoder) (single new Decoder) (by.kept Decoder) h
there_kept e old new RegFile by h = kept-single (single old RegFile) (single new RegFile) (by.kept RegFile) h
there_kept e old new Hazard by h = kept-single (single old Hazard) (single new Hazard) (by.kept Hazard) h
there_kept e old new Exec by h = λ none. h (none-behind old.execs by.more (sym by.execs ∙ none))
there_kept e old new DataBus by h = kept-single (single old DataBus) (single new DataBus) (by.kept DataBus) h
there_kept e old new System by h = kept-single (single old System) (single new System) (by.kept System) h

pub needs_late : (spec : PlugSpec) (e : ℕ) (old new : RegistryValue) → OffersBy e old new → AreThere spec old → AreThere spec new
needs_late spec e old new by h s is = there_kept e old new s by (h s is)

pub predict_late : (spec : PlugSpec) (e : ℕ) (old new : RegistryValue) (m : ModuleValue) → OffersBy e old new → single old Predict ≡ None → OffersItsOwn spec e new
    → (is_among spec.offers Fetch ≡ true → is_among spec.offers Predict ≡ false) → IsPredictOpen spec new m
predict_late spec e old new m by none offered says fetches k is =
    let gone : single new Predict ≡ None = still_none e old new Predict by none (offered Predict ∙ says fetches) in
    absurd (both_ways (is_predict_input new k) (ap (λ (o : Option Offered). is_input_of (ports_of o) k) gone) is)

no-offers : (e : ℕ) (reg : RegistryValue) → OffersBy e reg reg
no-offers e reg = record {
  kept = λ s o is. is;
  added = λ s o none is. absurd (none_some (single reg s) o none is);
  more = [];
  execs = nothing-behind reg.execs;
  execs_by = λ i d l. absurd (omega arith);
}

-- both calls
pub has_built : (spec : PlugSpec) (e early late : ℕ) (r r' : Rights) (w w' w'' : World) → WorldFits w'' → OffersBy e w.reg w'.reg → OffersItsOwn spec e w'.reg → w''.reg ≡ w'.reg
    → Builds (Entry e) r early w w' → Builds (Entry e) r' late w' w'' → w.reg.room ≤ w'.reg.room + 1 → HasBuilt spec e w w''
has_built spec e early late r r' w w' w'' fits by own same b b' room = record {
  fits = fits;
  offers = subst (OffersBy e w.reg) (sym same) by;
  offered = subst (OffersItsOwn spec e) (sym same) own;
  nothing = λ x other h. nothing_kept x e late r' w' w'' other b' (subst (OffersBy e w'.reg) (sym same) (no-offers e w'.reg)) (nothing_kept x e early r w w' other b by h);
  offer = let same_room : w''.reg.room ≡ w'.reg.room = ap (λ (g : RegistryValue). g.room) same in omega arith;
}

-- in an empty module
pub first_may : (spec : PlugSpec) (plan : Plan) (e : ℕ) (w : World) → IsBare w → e ≡ 0 → 2 ≤ w.reg.room → IsLawful spec plan 0 → half_cost spec plan ≤ 2080 → spec.needs ≡ []
    → (is_among spec.offers Fetch ≡ true → is_among spec.offers Predict ≡ false) → MayBuild spec plan e w
first_may spec plan e w bare zeroth room lawful few needs none = subst (λ (n : ℕ). MayBuild spec plan n w) (sym zeroth) (record {
  lawful = lawful;
  few = few;
  fits = bare.fits;
  nothing = bare.nothing 0;
  unoffered = λ s is. bare.unoffered s;
  outs = λ p is. bare.outs p;
  needs = λ s is. absurd (both_ways (is_among spec.needs s) (ap (λ ss. is_among ss s) needs) is);
  predict = bare.unoffered Predict;
  none = none;
  offer = omega arith;
})

-- a cost that does not depend on claims
pub cheap : (spec : PlugSpec) (plan : Plan) → spec.cost.per_row ≡ 0 → spec.cost.fixed ≤ 4160 → half_cost spec plan ≤ 2080
cheap spec plan rows few =
    let e : half_cost spec plan ≡ (spec.cost.fixed + 0 * length plan.rows) / 2 = ap (λ (n : ℕ). (spec.cost.fixed + n * length plan.rows) / 2) rows in
    omega arith

module _ (other : PlugSpec) (w w' : World) (bare : IsBare w) (built : HasBuilt other 0 w w') where
  -- what the other says that it offers is there
  is-there : (s : Service) → is_among other.offers s ≡ true → (offer_of w'.reg 0 s ≡ None → ⊥)
  is-there s says none = both_ways (offers w'.reg 0 s) (ap (λ (o : Option Ports). is_some o) none) (built.offered s ∙ says)

  single-there : (s : Service) → is_among other.offers s ≡ true → offer_of w'.reg 0 s ≡ own_single 0 (single w'.reg s) → single w'.reg s ≡ None → ⊥
  single-there s says is none = is-there s says (is ∙ ap (λ (o : Option Offered). own_single 0 o) none)

  there : (s : Service) → is_among other.offers s ≡ true → IsThere w'.reg s
  there Fetch says = single-there Fetch says refl
  there Predict says = single-there Predict says refl
  there Decoder says = single-there Decoder says refl
  there RegFile says = single-there RegFile says refl
  there Hazard says = single-there Hazard says refl
  there Exec says = λ none. is-there Exec says (ap (λ xs. exec_of 0 xs) none)
  there DataBus says = single-there DataBus says refl
  there System says = single-there System says refl

  unoffered-yet : (s : Service) → is_among other.offers s ≡ false → single w'.reg s ≡ None
  unoffered-yet s says = still_none 0 w.reg w'.reg s built.offers (bare.unoffered s) (built.offered s ∙ says)

  pub second_may : (spec : PlugSpec) (plan : Plan) → 2 ≤ w.reg.room → IsLawful spec plan 1 → IsBeside other spec → MayBuild spec plan 1 w'
  second_may spec plan room lawful b = record {
    lawful = lawful;
    few = cheap spec plan b.rows b.few;
    fits = built.fits;
    nothing = built.nothing 1 (λ e. omega arith) (bare.nothing 1);
    unoffered = λ s is. unoffered-yet s (b.apart s is);
    outs = λ p is. absurd (both_ways _ ((λ i. (b.ibus i && is_fetch_out p) || (b.dbus i && is_bus_out p))) is);
    needs = λ s is. there s (b.needs s is);
    predict = unoffered-yet Predict b.predict;
    none = λ is. absurd (both_ways _ b.ibus is);
    offer = let room_left = built.offer in omega arith;
  }

-- the same, where the first was built as entry 0
pub beside_may : (other spec : PlugSpec) (plan : Plan) (e : ℕ) (w w' : World) → e ≡ 0 → IsBare w → 2 ≤ w.reg.room → HasBuilt other e w w' → IsBeside other spec → IsLawful spec plan 1
    → MayBuild spec plan 1 w'
beside_may other spec plan e w w' zeroth bare room built b lawful = second_may other w w' bare (subst (λ (n : ℕ). HasBuilt other n w w') zeroth built) spec plan room lawful b
