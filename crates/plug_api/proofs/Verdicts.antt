-- A configuration is not both accepted and refused.
use Rattle.std.proofs.Common.{inl, inr, ◌≡◌, ℕ, ◌<◌, ◌≤◌, List, [], ◌∷◌, length, get_or, Option, sym, ◌∙◌, ap, arith}
use Rattle.std.proofs.lemmas.Bool.{cases_order, false≢true}
use Rattle.std.proofs.lemmas.List.{ext_get_or}
use Rattle.stage_map.specs.declared.config.Config.{Config}
use Rattle.stage_map.specs.declared.config.CoreShape.{CoreShape}
use Rattle.stage_map.specs.declared.config.Isa.{Isa}
use Rattle.stage_map.specs.declared.config.PlugEntry.{PlugEntry}
use Rattle.stage_map.specs.declared.keys.StageRefusal.TheVariants as stages
use Rattle.stage_map.proofs.Refused as stage_faults
use Rattle.service_reg.specs.declared.service.ServiceRefusal.TheVariants as service
use Rattle.service_reg.proofs.Refused as service_faults
use Rattle.plug_api.specs.declared.claims.OwnedClaim.{OwnedClaim}
use Rattle.plug_api.specs.declared.refusal.RuleRefusal.{RuleRefusal}
use Rattle.plug_api.specs.declared.refusal.RuleRefusal.TheVariants.{UnknownPlugin, RepeatedPlugin, BadParam, Missing, Double, CycleOfNeeds, EncodingClash, IsaMissing, IsaExtra, StageAbsent, StageOrder, KeyTwice, TooLarge, NoMemory}
use Rattle.plug_api.specs.declared.spec.ParamFault.{ParamFault}
use Rattle.plug_api.specs.declared.spec.Plan.{Plan}
use Rattle.plug_api.specs.declared.spec.PlugSpec.{PlugSpec}
use Rattle.plug_api.specs.Spec.{no_spec}
use Rattle.plug_api.specs.Picks.{no_entry, IsPick, ArePicks, AreFaultless, IsFirstFault}
use Rattle.plug_api.specs.Rules.{wanted_by}
use Rattle.plug_api.specs.Accept.{ClaimsHold, SpecsHold, IsFirstOfClaims, IsFirstOfSpecs, AreKnown, IsAccepted, IsFirstRefusal}
use Rattle.plug_api.proofs.Known.{pick_is_known}

-- ---- rules 4 to 13

pub claims_exclude : (isa : Isa) (claims : List OwnedClaim) (r : RuleRefusal) → ClaimsHold isa claims → IsFirstOfClaims isa claims r → ⊥
claims_exclude isa claims (EncodingClash entry row other other_row) h f = h.no_clash.none f.a f.b f.at.clash
claims_exclude isa claims (IsaMissing row) h f = h.all_rows.none row f.1.missing
claims_exclude isa claims (IsaExtra entry row) h f = false≢true (sym (h.no_extra.none f.2.at f.2.there) ∙ f.2.extra)
claims_exclude isa claims (UnknownPlugin entry) h f = f
claims_exclude isa claims (RepeatedPlugin entry other) h f = f
claims_exclude isa claims (BadParam entry found) h f = f
claims_exclude isa claims (Missing needed by) h f = f
claims_exclude isa claims (Double offered a b) h f = f
claims_exclude isa claims (CycleOfNeeds plug) h f = f
claims_exclude isa claims (StageAbsent plug absent) h f = f
claims_exclude isa claims (StageOrder key reader writer) h f = f
claims_exclude isa claims (KeyTwice key a b) h f = f
claims_exclude isa claims (TooLarge wanted limit) h f = f
claims_exclude isa claims NoMemory h f = f

pub specs_exclude : (shape : CoreShape) (specs : List PlugSpec) (r : RuleRefusal) → SpecsHold shape specs → IsFirstOfSpecs shape specs r → ⊥
specs_exclude shape specs (Missing needed by) h f = service_faults.fault_excludes _ (service.Missing needed by) h.services f
specs_exclude shape specs (Double offered a b) h f = service_faults.fault_excludes _ (service.Double offered a b) h.services f
specs_exclude shape specs (CycleOfNeeds plug) h f = service_faults.fault_excludes _ (service.CycleOfNeeds plug) h.services f
specs_exclude shape specs (EncodingClash entry row other other_row) h f = claims_exclude _ _ (EncodingClash entry row other other_row) h.claims f.1
specs_exclude shape specs (IsaMissing row) h f = claims_exclude _ _ (IsaMissing row) h.claims f.1
specs_exclude shape specs (IsaExtra entry row) h f = claims_exclude _ _ (IsaExtra entry row) h.claims f.1
specs_exclude shape specs (StageAbsent plug absent) h f = stage_faults.fault_excludes _ _ _ (stages.StageAbsent plug absent) h.stages f.stages
specs_exclude shape specs (StageOrder key reader writer) h f = stage_faults.fault_excludes _ _ _ (stages.StageOrder key reader writer) h.stages f.stages
specs_exclude shape specs (KeyTwice key a b) h f = stage_faults.fault_excludes _ _ _ (stages.KeyTwice key a b) h.stages f.stages
specs_exclude shape specs (TooLarge wanted limit) h f =
    let small : wanted_by specs ≤ 65535 = h.small in
    let large : 65535 < wanted = f.large in
    let is : wanted ≡ wanted_by specs = f.wanted_is in
    omega (arith, small, large, is)
specs_exclude shape specs (UnknownPlugin entry) h f = f
specs_exclude shape specs (RepeatedPlugin entry other) h f = f
specs_exclude shape specs (BadParam entry found) h f = f
specs_exclude shape specs NoMemory h f = f

-- ---- rules 1 to 3

-- where an entry has a box there is one
pub given_box : {B : Type 0} (kind : B → List ℕ) (boxes : List B) (name : List ℕ) (pick : ℕ) → IsPick kind boxes name pick → B
given_box kind [] name pick p = let h : pick < 0 = p.there in absurd (omega (arith, h))
given_box kind (b ∷ bs) name pick p = b

-- a name has one first box
one_pick : {B : Type 0} (kind : B → List ℕ) (boxes : List B) (name : List ℕ) (p q : ℕ) → IsPick kind boxes name p → IsPick kind boxes name q → p ≡ q
one_pick kind boxes name p q f g =
    let b = given_box kind boxes name p f in
    elim (cases_order p q) [
      | inl e ↦ e
      | inr l ↦ elim l [ inl h ↦ absurd (g.first.none b p h (f.named b)) | inr h ↦ absurd (f.first.none b q h (g.named b)) ]
    ]

module _ {B : Type 0} (kind : B → List ℕ) (fault : B → PlugEntry → Option ParamFault) (spec : B → PlugEntry → PlugSpec) (boxes : List B) (entries : List PlugEntry) where
  pub same_pick : (p q : List ℕ) (n i : ℕ) → ArePicks kind boxes entries n p → ArePicks kind boxes entries n q → i < n → get_or p i 0 ≡ get_or q i 0
  same_pick p q n i f g h = one_pick kind boxes _ _ _ (f.each i h) (g.each i h)

  -- the same boxes say the same of themselves once they took the same entries
  pub same_specs : (p q : List ℕ) (s t : List PlugSpec) → AreKnown kind fault spec boxes entries p s → AreKnown kind fault spec boxes entries q t → s ≡ t
  same_specs p q s t f g = ext_get_or no_spec s t (f.taken.one_each ∙ sym g.taken.one_each) (λ i h.
      let all : length s ≡ length entries = f.taken.one_each in
      let l : i < length entries = omega (arith, h, all) in
      let d : B = given_box kind boxes _ _ (f.named.picked.each i l) in
      f.taken.are d i l
      ∙ ap (λ k. spec (get_or boxes k d) (get_or entries i no_entry)) (same_pick p q _ i f.named.picked g.named.picked l)
      ∙ sym (g.taken.are d i l))

  -- the box of an entry does not refuse it by a fault and take it
  pub faultless_excludes : (p q : List ℕ) (n entry : ℕ) (found : ParamFault)
      → ArePicks kind boxes entries (length entries) p → AreFaultless fault boxes p entries n → entry < n
      → ArePicks kind boxes entries (length entries) q → IsFirstFault fault boxes q entries entry found → ⊥
  faultless_excludes p q n entry found picked faultless h others f =
      let d : B = given_box kind boxes _ _ (picked.each entry f.there) in
      let same = same_pick q p _ entry others picked f.there in
      let none = faultless.none d entry h in
      let some = f.is d in
      cc

  -- the entries that keep all rules do not break one of the last ten
  pub rest_excludes : (shape : CoreShape) (p q : List ℕ) (s t : List PlugSpec) (r : RuleRefusal)
      → AreKnown kind fault spec boxes entries p s → SpecsHold shape s → AreKnown kind fault spec boxes entries q t → IsFirstOfSpecs shape t r → ⊥
  rest_excludes shape p q s t r f h g first = specs_exclude shape t r (rw (← same_specs p q s t f g) h) first

pub refusal_excludes : {B : Type 0} (kind : B → List ℕ) (fault : B → PlugEntry → Option ParamFault) (spec : B → PlugEntry → PlugSpec)
    (boxes : List B) (cfg : Config) (plan : Plan) (r : RuleRefusal) → IsAccepted kind fault spec boxes cfg plan → IsFirstRefusal kind fault spec boxes cfg r → ⊥
refusal_excludes kind fault spec boxes cfg plan (UnknownPlugin entry) h f = pick_is_known _ _ _ _ (h.known.named.picked.each entry f.there) f.unknown
refusal_excludes kind fault spec boxes cfg plan (RepeatedPlugin entry other) h f = h.known.named.distinct.none entry other f.first.repeats
refusal_excludes kind fault spec boxes cfg plan (BadParam entry found) h f =
    faultless_excludes kind fault spec boxes cfg.entries _ _ _ _ _ h.known.named.picked h.known.faultless f.first.there f.named.picked f.first
refusal_excludes kind fault spec boxes cfg plan (Missing needed by) h f = rest_excludes kind fault spec boxes cfg.entries _ _ _ _ _ (Missing needed by) h.known h.hold f.known f.first
refusal_excludes kind fault spec boxes cfg plan (Double offered a b) h f = rest_excludes kind fault spec boxes cfg.entries _ _ _ _ _ (Double offered a b) h.known h.hold f.known f.first
refusal_excludes kind fault spec boxes cfg plan (CycleOfNeeds plug) h f = rest_excludes kind fault spec boxes cfg.entries _ _ _ _ _ (CycleOfNeeds plug) h.known h.hold f.known f.first
refusal_excludes kind fault spec boxes cfg plan (EncodingClash entry row other other_row) h f = rest_excludes kind fault spec boxes cfg.entries _ _ _ _ _ (EncodingClash entry row other other_row) h.known h.hold f.known f.first
refusal_excludes kind fault spec boxes cfg plan (IsaMissing row) h f = rest_excludes kind fault spec boxes cfg.entries _ _ _ _ _ (IsaMissing row) h.known h.hold f.known f.first
refusal_excludes kind fault spec boxes cfg plan (IsaExtra entry row) h f = rest_excludes kind fault spec boxes cfg.entries _ _ _ _ _ (IsaExtra entry row) h.known h.hold f.known f.first
refusal_excludes kind fault spec boxes cfg plan (StageAbsent plug absent) h f = rest_excludes kind fault spec boxes cfg.entries _ _ _ _ _ (StageAbsent plug absent) h.known h.hold f.known f.first
refusal_excludes kind fault spec boxes cfg plan (StageOrder key reader writer) h f = rest_excludes kind fault spec boxes cfg.entries _ _ _ _ _ (StageOrder key reader writer) h.known h.hold f.known f.first
refusal_excludes kind fault spec boxes cfg plan (KeyTwice key a b) h f = rest_excludes kind fault spec boxes cfg.entries _ _ _ _ _ (KeyTwice key a b) h.known h.hold f.known f.first
refusal_excludes kind fault spec boxes cfg plan (TooLarge wanted limit) h f = rest_excludes kind fault spec boxes cfg.entries _ _ _ _ _ (TooLarge wanted limit) h.known h.hold f.known f.first
refusal_excludes kind fault spec boxes cfg plan NoMemory h f = f
