-- There is at most one first refusal.
use Rattle.std.proofs.Common.{inl, inr, ◌≡◌, ℕ, List, length, get_or, Option, refl, sym, ◌∙◌, ap, subst}
use Rattle.std.proofs.lemmas.Bool.{cases_order, false≢true}
use Rattle.stage_map.specs.declared.config.Config.{Config}
use Rattle.stage_map.specs.declared.config.CoreShape.{CoreShape}
use Rattle.stage_map.specs.declared.config.Isa.{Isa}
use Rattle.stage_map.specs.declared.config.PlugEntry.{PlugEntry}
use Rattle.stage_map.specs.declared.keys.StageRefusal.{StageRefusal}
use Rattle.stage_map.specs.declared.keys.StageRefusal.TheVariants as stages
use Rattle.stage_map.proofs.Refused as stage_faults
use Rattle.stage_map.proofs.Unique as one_stage_fault
use Rattle.service_reg.specs.declared.service.ServiceRefusal.{ServiceRefusal}
use Rattle.service_reg.specs.declared.service.ServiceRefusal.TheVariants as service
use Rattle.service_reg.specs.Services.{IsFirstServiceFault}
use Rattle.service_reg.proofs.Refused as service_faults
use Rattle.plug_api.specs.declared.claims.OwnedClaim.{OwnedClaim}
use Rattle.plug_api.specs.declared.refusal.RuleRefusal.{RuleRefusal}
use Rattle.plug_api.specs.declared.refusal.RuleRefusal.TheVariants.{UnknownPlugin, RepeatedPlugin, BadParam, Missing, Double, CycleOfNeeds, EncodingClash, IsaMissing, IsaExtra, StageAbsent, StageOrder, KeyTwice, TooLarge, NoMemory}
use Rattle.plug_api.specs.declared.spec.ParamFault.{ParamFault}
use Rattle.plug_api.specs.declared.spec.PlugSpec.{PlugSpec}
use Rattle.plug_api.specs.Picks.{ArePicks, IsFirstUnknown, Repeats, IsFirstRepeat, IsFirstFault}
use Rattle.plug_api.specs.Rules.{no_owned, claims_of, Clash, IsFirstClash, IsFirstClashAt, IsFirstMissing, IsFirstExtra}
use Rattle.plug_api.specs.Accept.{uses_of, stages_of, of_service, of_stages, ServicesHold, IsFirstOfClaims, IsFirstOfStages, IsTooLarge, IsFirstOfSpecs, IsRefused, IsRepeated, IsFaulty, IsFirstRefusal}
use Rattle.plug_api.proofs.Known.{pick_is_known}
use Rattle.plug_api.proofs.Verdicts.{claims_exclude, given_box, same_pick, same_specs, faultless_excludes}

-- ---- rules 7 to 9

one_clash_at : (claims : List OwnedClaim) (a b c d : ℕ) → IsFirstClashAt claims a b → IsFirstClashAt claims c d → (a ≡ c) × (b ≡ d)
one_clash_at claims a b c d f g = elim (cases_order a c) [
  | inr l ↦ elim l [ inl h ↦ absurd (g.first a b h f.clash) | inr h ↦ absurd (f.first c d h g.clash) ]
  | inl e ↦ elim (cases_order b d) [
    | inl h ↦ (e, h)
    | inr l ↦ elim l [
      | inl h ↦ absurd (g.first_other b h (subst (λ (x : ℕ). Clash claims x b) e f.clash))
      | inr h ↦ absurd (f.first_other d h (subst (λ (x : ℕ). Clash claims x d) (sym e) g.clash))
    ]
  ]
]

one_clash : (claims : List OwnedClaim) (m r n q m' r' n' q' : ℕ) → IsFirstClash claims m r n q → IsFirstClash claims m' r' n' q'
    → EncodingClash m r n q ≡ EncodingClash m' r' n' q'
one_clash claims m r n q m' r' n' q' f g =
    let same = one_clash_at claims f.a f.b g.a g.b f.at g.at in
    let entry : m ≡ m' = f.entry_is ∙ ap (λ (k : ℕ). (get_or claims k no_owned).entry) same.0 ∙ sym g.entry_is in
    let row : r ≡ r' = f.row_is ∙ ap (λ (k : ℕ). (get_or claims k no_owned).claim.row) same.0 ∙ sym g.row_is in
    let other : n ≡ n' = f.other_is ∙ ap (λ (k : ℕ). (get_or claims k no_owned).entry) same.1 ∙ sym g.other_is in
    let other_row : q ≡ q' = f.other_row_is ∙ ap (λ (k : ℕ). (get_or claims k no_owned).claim.row) same.1 ∙ sym g.other_row_is in
    cc

one_missing : (isa : Isa) (claims : List OwnedClaim) (r q : ℕ) → IsFirstMissing isa claims r → IsFirstMissing isa claims q → IsaMissing r ≡ IsaMissing q
one_missing isa claims r q f g = elim (cases_order r q) [
  | inl e ↦ ap IsaMissing e
  | inr l ↦ elim l [ inl h ↦ absurd (g.first r h f.missing) | inr h ↦ absurd (f.first q h g.missing) ]
]

one_extra : (isa : Isa) (claims : List OwnedClaim) (m r n q : ℕ) → IsFirstExtra isa claims m r → IsFirstExtra isa claims n q → IsaExtra m r ≡ IsaExtra n q
one_extra isa claims m r n q f g = elim (cases_order f.at g.at) [
  | inl e ↦
      let entry : m ≡ n = f.entry_is ∙ ap (λ (k : ℕ). (get_or claims k no_owned).entry) e ∙ sym g.entry_is in
      let row : r ≡ q = f.row_is ∙ ap (λ (k : ℕ). (get_or claims k no_owned).claim.row) e ∙ sym g.row_is in
      cc
  | inr l ↦ elim l [
    | inl h ↦ absurd (false≢true (sym (g.first f.at h) ∙ f.extra))
    | inr h ↦ absurd (false≢true (sym (f.first g.at h) ∙ g.extra))
  ]
]

-- a refusal by rule 7, 8 or 9
data ClaimsCase (isa : Isa) (claims : List OwnedClaim) (r : RuleRefusal) : Type 0 where
  by_clash : (entry row other other_row : ℕ) → r ≡ EncodingClash entry row other other_row → IsFirstOfClaims isa claims (EncodingClash entry row other other_row) → ClaimsCase isa claims r
  by_missing : (row : ℕ) → r ≡ IsaMissing row → IsFirstOfClaims isa claims (IsaMissing row) → ClaimsCase isa claims r
  by_extra : (entry row : ℕ) → r ≡ IsaExtra entry row → IsFirstOfClaims isa claims (IsaExtra entry row) → ClaimsCase isa claims r

claims_case : (isa : Isa) (claims : List OwnedClaim) (r : RuleRefusal) → IsFirstOfClaims isa claims r → ClaimsCase isa claims r
claims_case isa claims (EncodingClash entry row other other_row) f = by_clash entry row other other_row refl f
claims_case isa claims (IsaMissing row) f = by_missing row refl f
claims_case isa claims (IsaExtra entry row) f = by_extra entry row refl f
claims_case isa claims (UnknownPlugin entry) f = absurd f
claims_case isa claims (RepeatedPlugin entry other) f = absurd f
claims_case isa claims (BadParam entry found) f = absurd f
claims_case isa claims (Missing needed by) f = absurd f
claims_case isa claims (Double offered a b) f = absurd f
claims_case isa claims (CycleOfNeeds plug) f = absurd f
claims_case isa claims (StageAbsent plug absent) f = absurd f
claims_case isa claims (StageOrder key reader writer) f = absurd f
claims_case isa claims (KeyTwice key a b) f = absurd f
claims_case isa claims (TooLarge wanted limit) f = absurd f
claims_case isa claims NoMemory f = absurd f

one_of_claims : (isa : Isa) (claims : List OwnedClaim) (r s : RuleRefusal) → ClaimsCase isa claims r → ClaimsCase isa claims s → r ≡ s
one_of_claims isa claims r s (by_clash m i n j e f) (by_clash m' i' n' j' e' g) = e ∙ one_clash claims m i n j m' i' n' j' f g ∙ sym e'
one_of_claims isa claims r s (by_clash m i n j e f) (by_missing row e' g) = absurd (g.0.none f.a f.b f.at.clash)
one_of_claims isa claims r s (by_clash m i n j e f) (by_extra entry row e' g) = absurd (g.0.none f.a f.b f.at.clash)
one_of_claims isa claims r s (by_missing row e f) (by_clash m i n j e' g) = absurd (f.0.none g.a g.b g.at.clash)
one_of_claims isa claims r s (by_missing row e f) (by_missing other e' g) = e ∙ one_missing isa claims row other f.1 g.1 ∙ sym e'
one_of_claims isa claims r s (by_missing row e f) (by_extra n j e' g) = absurd (g.1.none row f.1.missing)
one_of_claims isa claims r s (by_extra m i e f) (by_clash a b c d e' g) = absurd (f.0.none g.a g.b g.at.clash)
one_of_claims isa claims r s (by_extra m i e f) (by_missing row e' g) = absurd (f.1.none row g.1.missing)
one_of_claims isa claims r s (by_extra m i e f) (by_extra n j e' g) = e ∙ one_extra isa claims m i n j f.2 g.2 ∙ sym e'

-- ---- rules 4 to 13

data SpecsCase (shape : CoreShape) (specs : List PlugSpec) (r : RuleRefusal) : Type 0 where
  by_services : (f : ServiceRefusal) → r ≡ of_service f → IsFirstServiceFault (uses_of specs) f → SpecsCase shape specs r
  by_claims : ServicesHold specs → IsFirstOfClaims shape.isa (claims_of specs) r → SpecsCase shape specs r
  by_stages : (f : StageRefusal) → r ≡ of_stages f → IsFirstOfStages shape specs f → SpecsCase shape specs r
  by_size : (wanted limit : ℕ) → r ≡ TooLarge wanted limit → IsTooLarge shape specs wanted limit → SpecsCase shape specs r

specs_case : (shape : CoreShape) (specs : List PlugSpec) (r : RuleRefusal) → IsFirstOfSpecs shape specs r → SpecsCase shape specs r
specs_case shape specs (Missing needed by) f = by_services (service.Missing needed by) refl f
specs_case shape specs (Double offered a b) f = by_services (service.Double offered a b) refl f
specs_case shape specs (CycleOfNeeds plug) f = by_services (service.CycleOfNeeds plug) refl f
specs_case shape specs (EncodingClash entry row other other_row) f = by_claims f.0 f.1
specs_case shape specs (IsaMissing row) f = by_claims f.0 f.1
specs_case shape specs (IsaExtra entry row) f = by_claims f.0 f.1
specs_case shape specs (StageAbsent plug absent) f = by_stages (stages.StageAbsent plug absent) refl f
specs_case shape specs (StageOrder key reader writer) f = by_stages (stages.StageOrder key reader writer) refl f
specs_case shape specs (KeyTwice key a b) f = by_stages (stages.KeyTwice key a b) refl f
specs_case shape specs (TooLarge wanted limit) f = by_size wanted limit refl f
specs_case shape specs (UnknownPlugin entry) f = absurd f
specs_case shape specs (RepeatedPlugin entry other) f = absurd f
specs_case shape specs (BadParam entry found) f = absurd f
specs_case shape specs NoMemory f = absurd f

one_size : (shape : CoreShape) (specs : List PlugSpec) (w l v k : ℕ) → IsTooLarge shape specs w l → IsTooLarge shape specs v k → TooLarge w l ≡ TooLarge v k
one_size shape specs w l v k f g =
    let wanted : w ≡ v = f.wanted_is ∙ sym g.wanted_is in
    let limit : l ≡ k = f.limit_is ∙ sym g.limit_is in
    cc

one_of_specs : (shape : CoreShape) (specs : List PlugSpec) (r s : RuleRefusal) → SpecsCase shape specs r → SpecsCase shape specs s → r ≡ s
one_of_specs shape specs r s (by_services f e h) (by_services g d k) = e ∙ ap of_service (service_faults.one_first _ f g h k) ∙ sym d
one_of_specs shape specs r s (by_services f e h) (by_claims hold k) = absurd (service_faults.fault_excludes _ f hold h)
one_of_specs shape specs r s (by_services f e h) (by_stages g d k) = absurd (service_faults.fault_excludes _ f k.services h)
one_of_specs shape specs r s (by_services f e h) (by_size w l d k) = absurd (service_faults.fault_excludes _ f k.services h)
one_of_specs shape specs r s (by_claims hold h) (by_services g d k) = absurd (service_faults.fault_excludes _ g hold k)
one_of_specs shape specs r s (by_claims hold h) (by_claims hold' k) = one_of_claims _ _ r s (claims_case _ _ r h) (claims_case _ _ s k)
one_of_specs shape specs r s (by_claims hold h) (by_stages g d k) = absurd (claims_exclude _ _ r k.claims h)
one_of_specs shape specs r s (by_claims hold h) (by_size w l d k) = absurd (claims_exclude _ _ r k.claims h)
one_of_specs shape specs r s (by_stages f e h) (by_services g d k) = absurd (service_faults.fault_excludes _ g h.services k)
one_of_specs shape specs r s (by_stages f e h) (by_claims hold k) = absurd (claims_exclude _ _ s h.claims k)
one_of_specs shape specs r s (by_stages f e h) (by_stages g d k) = e ∙ ap of_stages (one_stage_fault.one_fault (stages_of shape specs) _ _ f g h.stages k.stages) ∙ sym d
one_of_specs shape specs r s (by_stages f e h) (by_size w l d k) = absurd (stage_faults.fault_excludes (stages_of shape specs) _ _ f k.stages h.stages)
one_of_specs shape specs r s (by_size w l e h) (by_services g d k) = absurd (service_faults.fault_excludes _ g h.services k)
one_of_specs shape specs r s (by_size w l e h) (by_claims hold k) = absurd (claims_exclude _ _ s h.claims k)
one_of_specs shape specs r s (by_size w l e h) (by_stages g d k) = absurd (stage_faults.fault_excludes (stages_of shape specs) _ _ g h.stages k.stages)
one_of_specs shape specs r s (by_size w l e h) (by_size v m d k) = e ∙ one_size shape specs w l v m h k ∙ sym d

-- ---- all rules

data RefusalCase {B : Type 0} (kind : B → List ℕ) (fault : B → PlugEntry → Option ParamFault) (spec : B → PlugEntry → PlugSpec) (boxes : List B) (cfg : Config) (r : RuleRefusal) : Type 0 where
  by_unknown : (entry : ℕ) → r ≡ UnknownPlugin entry → IsFirstUnknown kind boxes cfg.entries entry → RefusalCase kind fault spec boxes cfg r
  by_repeat : (entry other : ℕ) → r ≡ RepeatedPlugin entry other → IsRepeated kind boxes cfg.entries entry other → RefusalCase kind fault spec boxes cfg r
  by_param : (entry : ℕ) (found : ParamFault) → r ≡ BadParam entry found → IsFaulty kind fault boxes cfg.entries entry found → RefusalCase kind fault spec boxes cfg r
  by_rest : IsRefused kind fault spec boxes cfg r → RefusalCase kind fault spec boxes cfg r

one_repeat : (entries : List PlugEntry) (a b c d : ℕ) → IsFirstRepeat entries a b → IsFirstRepeat entries c d → RepeatedPlugin a b ≡ RepeatedPlugin c d
one_repeat entries a b c d f g = elim (cases_order a c) [
  | inr l ↦ elim l [ inl h ↦ absurd (g.first_entry a b h f.repeats) | inr h ↦ absurd (f.first_entry c d h g.repeats) ]
  | inl e ↦ elim (cases_order b d) [
    | inl h ↦ cc
    | inr l ↦ elim l [
      | inl h ↦ absurd (g.first_other b h (subst (λ (x : ℕ). Repeats entries x b) e f.repeats))
      | inr h ↦ absurd (f.first_other d h (subst (λ (x : ℕ). Repeats entries x d) (sym e) g.repeats))
    ]
  ]
]

module _ {B : Type 0} (kind : B → List ℕ) (fault : B → PlugEntry → Option ParamFault) (spec : B → PlugEntry → PlugSpec) (boxes : List B) (cfg : Config) where
  refusal_case : (r : RuleRefusal) → IsFirstRefusal kind fault spec boxes cfg r → RefusalCase kind fault spec boxes cfg r
  refusal_case (UnknownPlugin entry) f = by_unknown entry refl f
  refusal_case (RepeatedPlugin entry other) f = by_repeat entry other refl f
  refusal_case (BadParam entry found) f = by_param entry found refl f
  refusal_case (Missing needed by) f = by_rest f
  refusal_case (Double offered a b) f = by_rest f
  refusal_case (CycleOfNeeds plug) f = by_rest f
  refusal_case (EncodingClash entry row other other_row) f = by_rest f
  refusal_case (IsaMissing row) f = by_rest f
  refusal_case (IsaExtra entry row) f = by_rest f
  refusal_case (StageAbsent plug absent) f = by_rest f
  refusal_case (StageOrder key reader writer) f = by_rest f
  refusal_case (KeyTwice key a b) f = by_rest f
  refusal_case (TooLarge wanted limit) f = by_rest f
  refusal_case NoMemory f = absurd f

  one_unknown : (a b : ℕ) → IsFirstUnknown kind boxes cfg.entries a → IsFirstUnknown kind boxes cfg.entries b → UnknownPlugin a ≡ UnknownPlugin b
  one_unknown a b f g = elim (cases_order a b) [
    | inl e ↦ ap UnknownPlugin e
    | inr l ↦ elim l [ inl h ↦ absurd (g.first a h f.unknown) | inr h ↦ absurd (f.first b h g.unknown) ]
  ]

  all_known : (picks : List ℕ) (entry : ℕ) → ArePicks kind boxes cfg.entries (length cfg.entries) picks → IsFirstUnknown kind boxes cfg.entries entry → ⊥
  all_known picks entry picked f = pick_is_known _ _ _ _ (picked.each entry f.there) f.unknown

  one_param : (a b : ℕ) (x y : ParamFault) → IsFaulty kind fault boxes cfg.entries a x → IsFaulty kind fault boxes cfg.entries b y → BadParam a x ≡ BadParam b y
  one_param a b x y f g = elim (cases_order a b) [
    | inr l ↦ elim l [
      | inl h ↦ absurd (faultless_excludes kind fault spec boxes cfg.entries _ _ _ _ _ g.named.picked g.first.first h f.named.picked f.first)
      | inr h ↦ absurd (faultless_excludes kind fault spec boxes cfg.entries _ _ _ _ _ f.named.picked f.first.first h g.named.picked g.first)
    ]
    | inl e ↦
        let d : B = given_box kind boxes _ _ (f.named.picked.each a f.first.there) in
        let here : IsFirstFault fault boxes g.picks cfg.entries a y = subst (λ (k : ℕ). IsFirstFault fault boxes g.picks cfg.entries k y) (sym e) g.first in
        let same = same_pick kind fault spec boxes cfg.entries _ _ _ a f.named.picked g.named.picked f.first.there in
        let one = f.first.is d in
        let two = here.is d in
        let found : x ≡ y = cc in
        cc
  ]

  one_of_cases : (r s : RuleRefusal) → RefusalCase kind fault spec boxes cfg r → RefusalCase kind fault spec boxes cfg s → r ≡ s
  one_of_cases r s (by_unknown a e f) (by_unknown b d g) = e ∙ one_unknown a b f g ∙ sym d
  one_of_cases r s (by_unknown a e f) (by_repeat b c d g) = absurd (all_known _ a g.picked f)
  one_of_cases r s (by_unknown a e f) (by_param b y d g) = absurd (all_known _ a g.named.picked f)
  one_of_cases r s (by_unknown a e f) (by_rest g) = absurd (all_known _ a g.known.named.picked f)
  one_of_cases r s (by_repeat a b e f) (by_unknown c d g) = absurd (all_known _ c f.picked g)
  one_of_cases r s (by_repeat a b e f) (by_repeat a' b' d g) = e ∙ one_repeat cfg.entries a b a' b' f.first g.first ∙ sym d
  one_of_cases r s (by_repeat a b e f) (by_param c y d g) = absurd (g.named.distinct.none a b f.first.repeats)
  one_of_cases r s (by_repeat a b e f) (by_rest g) = absurd (g.known.named.distinct.none a b f.first.repeats)
  one_of_cases r s (by_param a x e f) (by_unknown b d g) = absurd (all_known _ b f.named.picked g)
  one_of_cases r s (by_param a x e f) (by_repeat b c d g) = absurd (f.named.distinct.none b c g.first.repeats)
  one_of_cases r s (by_param a x e f) (by_param b y d g) = e ∙ one_param a b x y f g ∙ sym d
  one_of_cases r s (by_param a x e f) (by_rest g) =
      absurd (faultless_excludes kind fault spec boxes cfg.entries _ _ _ _ _ g.known.named.picked g.known.faultless f.first.there f.named.picked f.first)
  one_of_cases r s (by_rest f) (by_unknown b d g) = absurd (all_known _ b f.known.named.picked g)
  one_of_cases r s (by_rest f) (by_repeat b c d g) = absurd (f.known.named.distinct.none b c g.first.repeats)
  one_of_cases r s (by_rest f) (by_param b y d g) =
      absurd (faultless_excludes kind fault spec boxes cfg.entries _ _ _ _ _ f.known.named.picked f.known.faultless g.first.there g.named.picked g.first)
  one_of_cases r s (by_rest f) (by_rest g) =
      let same : f.specs ≡ g.specs = same_specs kind fault spec boxes cfg.entries _ _ _ _ f.known g.known in
      let here : IsFirstOfSpecs cfg.shape f.specs s = subst (λ (t : List PlugSpec). IsFirstOfSpecs cfg.shape t s) (sym same) g.first in
      one_of_specs cfg.shape f.specs r s (specs_case _ _ r f.first) (specs_case _ _ s here)

  pub one_refusal : (r s : RuleRefusal) → IsFirstRefusal kind fault spec boxes cfg r → IsFirstRefusal kind fault spec boxes cfg s → r ≡ s
  one_refusal r s f g = one_of_cases r s (refusal_case r f) (refusal_case s g)
