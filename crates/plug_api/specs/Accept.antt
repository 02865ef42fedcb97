-- The rules of acceptance in their order: when all hold, and which fails first.
use Rattle.std.specs.Prelude.{◌≡◌, ℕ, ◌<◌, ◌≤◌, ◌%◌, ◌++◌, ◌↔◌, ◌⊎◌, List, [], ◌∷◌, length, get_or, map, suc, IsTrue, Option, None, Some}
use Rattle.stage_map.specs.declared.config.PlugEntry.{PlugEntry}
use Rattle.stage_map.specs.declared.config.Config.{Config}
use Rattle.stage_map.specs.declared.config.CoreShape.{CoreShape}
use Rattle.stage_map.specs.declared.config.Isa.{Isa}
use Rattle.stage_map.specs.declared.config.Stage.{Stage}
use Rattle.stage_map.specs.declared.config.Stage.TheVariants as stage
use Rattle.stage_map.specs.declared.keys.KeyUse.{KeyUse}
use Rattle.stage_map.specs.declared.keys.PlugUse.{PlugUse}
use Rattle.stage_map.specs.declared.keys.StageRefusal.{StageRefusal}
use Rattle.stage_map.specs.declared.keys.StageRefusal.TheVariants as stages
use Rattle.stage_map.specs.Stages.{StageMapValue, HasNoStageFault, IsFirstStageFault}
use Rattle.service_reg.specs.declared.service.Service.TheVariants.{System}
use Rattle.service_reg.specs.declared.service.ServiceUse.{ServiceUse}
use Rattle.service_reg.specs.declared.service.ServiceRefusal.{ServiceRefusal}
use Rattle.service_reg.specs.declared.service.ServiceRefusal.TheVariants as service
use Rattle.service_reg.specs.Services.{HasNoServiceFault, IsBuildOrder, IsFirstServiceFault, IsOffered}
use Rattle.plug_api.specs.declared.spec.Place.{Place}
use Rattle.plug_api.specs.declared.spec.Place.TheVariants.{Execute, Commit, Apart}
use Rattle.plug_api.specs.declared.spec.Plan.{Plan}
use Rattle.plug_api.specs.declared.spec.PlugSpec.{PlugSpec}
use Rattle.plug_api.specs.declared.spec.ParamFault.{ParamFault}
use Rattle.plug_api.specs.declared.spec.ParamFault.TheVariants.{Unknown, Range}
use Rattle.plug_api.specs.declared.spec.ParamFault.TheVariants as fault
use Rattle.isa_table.specs.declared.claim.Claim.{Claim}
use Rattle.plug_api.specs.declared.acceptance.Checked.{Checked}
use Rattle.plug_api.specs.declared.claims.OwnedClaim.{OwnedClaim}
use Rattle.plug_api.specs.declared.refusal.RuleRefusal.{RuleRefusal}
use Rattle.plug_api.specs.declared.refusal.RuleRefusal.TheVariants.{UnknownPlugin, RepeatedPlugin, BadParam, Missing, Double, CycleOfNeeds, EncodingClash, IsaMissing, IsaExtra, StageAbsent, StageOrder, KeyTwice, TooLarge, NoMemory}
use Rattle.plug_api.specs.Spec.{IsSpec, no_spec}
use Rattle.plug_api.specs.Picks.{no_entry, ArePicks, IsFirstUnknown, AreDistinct, IsFirstRepeat, AreFaultless, IsFirstFault, AreConfigured}
use Rattle.plug_api.specs.Rules.{claims_of, wanted_by, HaveNoClash, IsFirstClash, HaveAllRows, IsFirstMissing, HaveNoExtra, IsFirstExtra}

-- ---- what others see of entries

-- the services of an entry
abbrev pub use_of : PlugSpec → ServiceUse
use_of spec = record { offers = spec.offers; needs = spec.needs; uses = spec.uses }

abbrev pub uses_of : List PlugSpec → List ServiceUse
uses_of specs = map use_of specs

abbrev pub used_by : ℕ → KeyUse → PlugUse
used_by entry key = record { entry = entry; at = key }

-- the uses of keys by entries, counted from a number, in their order
abbrev pub keys_from : ℕ → List PlugSpec → List PlugUse
keys_from entry [] = []
keys_from entry (spec ∷ specs) = map (used_by entry) spec.keys ++ keys_from (suc entry) specs

abbrev pub keys_of : List PlugSpec → List PlugUse
keys_of specs = keys_from 0 specs

-- the stage of an entry
abbrev pub stage_of : (commit : Stage) → Place → Option Stage
stage_of commit Execute = Some stage.Execute
stage_of commit Commit = Some commit
stage_of commit Apart = None

abbrev pub place_of : (commit : Stage) → PlugSpec → Option Stage
place_of commit spec = stage_of commit spec.place

abbrev pub places_of : (commit : Stage) → List PlugSpec → List (Option Stage)
places_of commit specs = map (place_of commit) specs

-- the stages with the uses of all entries
abbrev pub stages_of : CoreShape → List PlugSpec → StageMapValue
stages_of shape specs = record { stages = shape.stages; room = 0; uses = keys_of specs }

-- ---- rules 4 to 13, on what the boxes say of themselves

-- rules 4 to 6 hold
abbrev pub ServicesHold : List PlugSpec → Type 0
ServicesHold specs = HasNoServiceFault (uses_of specs)

-- rules 7 to 9 hold
pub record ClaimsHold (isa : Isa) (claims : List OwnedClaim) : Type 0 where
  pub no_clash : HaveNoClash claims
  pub all_rows : HaveAllRows isa claims
  pub no_extra : HaveNoExtra isa claims

-- rules 10 to 12 hold
abbrev pub StagesHold : CoreShape → List PlugSpec → Type 0
StagesHold shape specs = HasNoStageFault (stages_of shape specs) (places_of shape.commit specs) shape.commit

-- all hold
pub record SpecsHold (shape : CoreShape) (specs : List PlugSpec) : Type 0 where
  pub services : ServicesHold specs
  pub claims : ClaimsHold shape.isa (claims_of specs)
  pub stages : StagesHold shape specs
  pub small : wanted_by specs ≤ 65535

-- of rules 7 to 9 this fails, and none before it
abbrev pub IsFirstOfClaims : Isa → List OwnedClaim → RuleRefusal → Type 0
IsFirstOfClaims isa claims (EncodingClash entry row other other_row) = IsFirstClash claims entry row other other_row
IsFirstOfClaims isa claims (IsaMissing row) = HaveNoClash claims × IsFirstMissing isa claims row
IsFirstOfClaims isa claims (IsaExtra entry row) = HaveNoClash claims × HaveAllRows isa claims × IsFirstExtra isa claims entry row
IsFirstOfClaims isa claims (UnknownPlugin entry) = ⊥
IsFirstOfClaims isa claims (RepeatedPlugin entry other) = ⊥
IsFirstOfClaims isa claims (BadParam entry found) = ⊥
IsFirstOfClaims isa claims (Missing needed by) = ⊥
IsFirstOfClaims isa claims (Double offered a b) = ⊥
IsFirstOfClaims isa claims (CycleOfNeeds plug) = ⊥
IsFirstOfClaims isa claims (StageAbsent plug absent) = ⊥
IsFirstOfClaims isa claims (StageOrder key reader writer) = ⊥
IsFirstOfClaims isa claims (KeyTwice key a b) = ⊥
IsFirstOfClaims isa claims (TooLarge wanted limit) = ⊥
IsFirstOfClaims isa claims NoMemory = ⊥

-- what a fault of services is to the caller
abbrev pub of_service : ServiceRefusal → RuleRefusal
of_service (service.Missing needed by) = Missing needed by
of_service (service.Double offered a b) = Double offered a b
of_service (service.CycleOfNeeds plug) = CycleOfNeeds plug
of_service service.NoMemory = NoMemory

-- what a fault of stages is to the caller
abbrev pub of_stages : StageRefusal → RuleRefusal
of_stages (stages.StageAbsent plug absent) = StageAbsent plug absent
of_stages (stages.StageOrder key reader writer) = StageOrder key reader writer
of_stages (stages.KeyTwice key a b) = KeyTwice key a b
of_stages stages.NoMemory = NoMemory

-- rules 4 to 9 hold, and the first fault of stages is this
pub record IsFirstOfStages (shape : CoreShape) (specs : List PlugSpec) (found : StageRefusal) : Type 0 where
  pub services : ServicesHold specs
  pub claims : ClaimsHold shape.isa (claims_of specs)
  pub stages : IsFirstStageFault (stages_of shape specs) (places_of shape.commit specs) shape.commit found

-- rules 4 to 12 hold, and the module may have more than 65,535 things
pub record IsTooLarge (shape : CoreShape) (specs : List PlugSpec) (wanted limit : ℕ) : Type 0 where
  pub services : ServicesHold specs
  pub claims : ClaimsHold shape.isa (claims_of specs)
  pub stages : StagesHold shape specs
  pub wanted_is : wanted ≡ wanted_by specs
  pub limit_is : limit ≡ 65535
  pub large : 65535 < wanted

-- of rules 4 to 13 this fails, and none before it
abbrev pub IsFirstOfSpecs : CoreShape → List PlugSpec → RuleRefusal → Type 0
IsFirstOfSpecs shape specs (Missing needed by) = IsFirstServiceFault (uses_of specs) (service.Missing needed by)
IsFirstOfSpecs shape specs (Double offered a b) = IsFirstServiceFault (uses_of specs) (service.Double offered a b)
IsFirstOfSpecs shape specs (CycleOfNeeds plug) = IsFirstServiceFault (uses_of specs) (service.CycleOfNeeds plug)
IsFirstOfSpecs shape specs (EncodingClash entry row other other_row) =
    ServicesHold specs × IsFirstOfClaims shape.isa (claims_of specs) (EncodingClash entry row other other_row)
IsFirstOfSpecs shape specs (IsaMissing row) = ServicesHold specs × IsFirstOfClaims shape.isa (claims_of specs) (IsaMissing row)
IsFirstOfSpecs shape specs (IsaExtra entry row) = ServicesHold specs × IsFirstOfClaims shape.isa (claims_of specs) (IsaExtra entry row)
IsFirstOfSpecs shape specs (StageAbsent plug absent) = IsFirstOfStages shape specs (stages.StageAbsent plug absent)
IsFirstOfSpecs shape specs (StageOrder key reader writer) = IsFirstOfStages shape specs (stages.StageOrder key reader writer)
IsFirstOfSpecs shape specs (KeyTwice key a b) = IsFirstOfStages shape specs (stages.KeyTwice key a b)
IsFirstOfSpecs shape specs (TooLarge wanted limit) = IsTooLarge shape specs wanted limit
IsFirstOfSpecs shape specs (UnknownPlugin entry) = ⊥
IsFirstOfSpecs shape specs (RepeatedPlugin entry other) = ⊥
IsFirstOfSpecs shape specs (BadParam entry found) = ⊥
IsFirstOfSpecs shape specs NoMemory = ⊥

-- ---- all rules

-- what a box's fault is to the caller
abbrev pub refusal_of : ℕ → ParamFault → RuleRefusal
refusal_of entry (Unknown key) = BadParam entry (Unknown key)
refusal_of entry (Range key found low high) = BadParam entry (Range key found low high)
refusal_of entry fault.NoMemory = NoMemory

-- a configuration that is read, so far with the commit in execute
pub record MayBe (cfg : Config) : Type 0 where
  pub few : length cfg.entries ≤ 32
  pub at_least : 2 ≤ cfg.shape.stages
  pub at_most : cfg.shape.stages ≤ 4
  pub aligned : cfg.shape.reset_pc % 4 ≡ 0
  pub commit : cfg.shape.commit ≡ stage.Execute

-- what the boxes of entries say of themselves once they took them
pub record AreTaken {B : Type 0} (spec : B → PlugEntry → PlugSpec) (boxes : List B) (picks : List ℕ) (entries : List PlugEntry) (specs : List PlugSpec) : Type 0 where
  pub one_each : length specs ≡ length entries
  pub are : (d : B) (i : ℕ) → i < length entries → get_or specs i no_spec ≡ spec (get_or boxes (get_or picks i 0) d) (get_or entries i no_entry)
  pub fit : (i : ℕ) → i < length entries → IsSpec (get_or specs i no_spec)

-- rules 1 and 2 hold, with these boxes of the entries
pub record AreNamed {B : Type 0} (kind : B → List ℕ) (boxes : List B) (entries : List PlugEntry) (picks : List ℕ) : Type 0 where
  pub picked : ArePicks kind boxes entries (length entries) picks
  pub distinct : AreDistinct entries

-- rules 1 to 3 hold, with these boxes of the entries, and what they say of themselves once they took them
pub record AreKnown {B : Type 0} (kind : B → List ℕ) (fault : B → PlugEntry → Option ParamFault) (spec : B → PlugEntry → PlugSpec)
    (boxes : List B) (entries : List PlugEntry) (picks : List ℕ) (specs : List PlugSpec) : Type 0 where
  pub named : AreNamed kind boxes entries picks
  pub faultless : AreFaultless fault boxes picks entries (length entries)
  pub taken : AreTaken spec boxes picks entries specs

-- what rules 4 to 13 find
pub record IsChecked (specs : List PlugSpec) (checked : Checked) : Type 0 where
  pub order : IsBuildOrder (uses_of specs) checked.order.items
  pub claims : checked.claims.items ≡ claims_of specs
  pub has_csr : IsTrue checked.has_csr ↔ IsOffered (uses_of specs) System
  pub wanted : checked.wanted ≡ wanted_by specs

-- claims without their entries
abbrev pub rows_of : List OwnedClaim → List Claim
rows_of claims = map (λ (c : OwnedClaim). c.claim) claims

-- the entries of claims
abbrev pub owners_of : List OwnedClaim → List ℕ
owners_of claims = map (λ (c : OwnedClaim). c.entry) claims

-- what a plan has: the claims of all entries with their entries, an order, and whether there are system registers
pub record IsPlanOf (shape : CoreShape) (picks : List ℕ) (specs : List PlugSpec) (plan : Plan) : Type 0 where
  pub shape_is : plan.shape ≡ shape
  pub picks_are : plan.picks ≡ picks
  pub order : IsBuildOrder (uses_of specs) plan.order
  pub rows : plan.rows ≡ rows_of (claims_of specs)
  pub owners : plan.owners ≡ owners_of (claims_of specs)
  pub has_csr : IsTrue plan.has_csr ↔ IsOffered (uses_of specs) System
  pub wanted : plan.wanted ≡ wanted_by specs

-- all rules hold, and the plan is that of the entries
pub record IsAccepted {B : Type 0} (kind : B → List ℕ) (fault : B → PlugEntry → Option ParamFault) (spec : B → PlugEntry → PlugSpec)
    (boxes : List B) (cfg : Config) (plan : Plan) : Type 0 where
  pub specs : List PlugSpec
  pub known : AreKnown kind fault spec boxes cfg.entries plan.picks specs
  pub hold : SpecsHold cfg.shape specs
  pub plan_is : IsPlanOf cfg.shape plan.picks specs plan

-- rules 1 to 3 hold, and of the others this fails first
pub record IsRefused {B : Type 0} (kind : B → List ℕ) (fault : B → PlugEntry → Option ParamFault) (spec : B → PlugEntry → PlugSpec)
    (boxes : List B) (cfg : Config) (refusal : RuleRefusal) : Type 0 where
  pub picks : List ℕ
  pub specs : List PlugSpec
  pub known : AreKnown kind fault spec boxes cfg.entries picks specs
  pub first : IsFirstOfSpecs cfg.shape specs refusal

-- rule 1 holds, and rule 2 fails first at this pair
pub record IsRepeated {B : Type 0} (kind : B → List ℕ) (boxes : List B) (entries : List PlugEntry) (entry other : ℕ) : Type 0 where
  pub picks : List ℕ
  pub picked : ArePicks kind boxes entries (length entries) picks
  pub first : IsFirstRepeat entries entry other

-- rules 1 and 2 hold, and rule 3 fails first at this entry
pub record IsFaulty {B : Type 0} (kind : B → List ℕ) (fault : B → PlugEntry → Option ParamFault) (boxes : List B) (entries : List PlugEntry) (entry : ℕ) (found : ParamFault) : Type 0 where
  pub picks : List ℕ
  pub named : AreNamed kind boxes entries picks
  pub first : IsFirstFault fault boxes picks entries entry found

-- of all rules this fails, and none before it
abbrev pub IsFirstRefusal : {B : Type 0} → (kind : B → List ℕ) → (fault : B → PlugEntry → Option ParamFault) → (spec : B → PlugEntry → PlugSpec)
    → List B → Config → RuleRefusal → Type 0
IsFirstRefusal kind fault spec boxes cfg (UnknownPlugin entry) = IsFirstUnknown kind boxes cfg.entries entry
IsFirstRefusal kind fault spec boxes cfg (RepeatedPlugin entry other) = IsRepeated kind boxes cfg.entries entry other
IsFirstRefusal kind fault spec boxes cfg (BadParam entry found) = IsFaulty kind fault boxes cfg.entries entry found
IsFirstRefusal kind fault spec boxes cfg (Missing needed by) = IsRefused kind fault spec boxes cfg (Missing needed by)
IsFirstRefusal kind fault spec boxes cfg (Double offered a b) = IsRefused kind fault spec boxes cfg (Double offered a b)
IsFirstRefusal kind fault spec boxes cfg (CycleOfNeeds plug) = IsRefused kind fault spec boxes cfg (CycleOfNeeds plug)
IsFirstRefusal kind fault spec boxes cfg (EncodingClash entry row other other_row) = IsRefused kind fault spec boxes cfg (EncodingClash entry row other other_row)
IsFirstRefusal kind fault spec boxes cfg (IsaMissing row) = IsRefused kind fault spec boxes cfg (IsaMissing row)
IsFirstRefusal kind fault spec boxes cfg (IsaExtra entry row) = IsRefused kind fault spec boxes cfg (IsaExtra entry row)
IsFirstRefusal kind fault spec boxes cfg (StageAbsent plug absent) = IsRefused kind fault spec boxes cfg (StageAbsent plug absent)
IsFirstRefusal kind fault spec boxes cfg (StageOrder key reader writer) = IsRefused kind fault spec boxes cfg (StageOrder key reader writer)
IsFirstRefusal kind fault spec boxes cfg (KeyTwice key a b) = IsRefused kind fault spec boxes cfg (KeyTwice key a b)
IsFirstRefusal kind fault spec boxes cfg (TooLarge wanted limit) = IsRefused kind fault spec boxes cfg (TooLarge wanted limit)
IsFirstRefusal kind fault spec boxes cfg NoMemory = ⊥

-- the boxes of the first entries of a configuration that keeps rules 1 and 2 took them, and every other box is as it was
pub record HaveTaken {B : Type 0} (kind : B → List ℕ) (taken : B → Option PlugEntry) (now : B → PlugSpec) (fault : B → PlugEntry → Option ParamFault) (spec : B → PlugEntry → PlugSpec)
    (old new : List B) (entries : List PlugEntry) (count : ℕ) : Type 0 where
  pub picks : List ℕ
  pub named : AreNamed kind old entries picks
  pub configured : AreConfigured kind taken now fault spec old new picks entries count

-- what a refusal leaves of the boxes: where rule 1 or 2 fails they are as they were; where rule 3 fails the entries before
-- are taken; and else all are
abbrev pub IsLeft : {B : Type 0} → (kind : B → List ℕ) → (taken : B → Option PlugEntry) → (now : B → PlugSpec) → (fault : B → PlugEntry → Option ParamFault)
    → (spec : B → PlugEntry → PlugSpec) → (old new : List B) → Config → RuleRefusal → Type 0
IsLeft kind taken now fault spec old new cfg (UnknownPlugin entry) = new ≡ old
IsLeft kind taken now fault spec old new cfg (RepeatedPlugin entry other) = new ≡ old
IsLeft kind taken now fault spec old new cfg (BadParam entry found) = HaveTaken kind taken now fault spec old new cfg.entries entry
IsLeft kind taken now fault spec old new cfg (Missing needed by) = HaveTaken kind taken now fault spec old new cfg.entries (length cfg.entries)
IsLeft kind taken now fault spec old new cfg (Double offered a b) = HaveTaken kind taken now fault spec old new cfg.entries (length cfg.entries)
IsLeft kind taken now fault spec old new cfg (CycleOfNeeds plug) = HaveTaken kind taken now fault spec old new cfg.entries (length cfg.entries)
IsLeft kind taken now fault spec old new cfg (EncodingClash entry row other other_row) = HaveTaken kind taken now fault spec old new cfg.entries (length cfg.entries)
IsLeft kind taken now fault spec old new cfg (IsaMissing row) = HaveTaken kind taken now fault spec old new cfg.entries (length cfg.entries)
IsLeft kind taken now fault spec old new cfg (IsaExtra entry row) = HaveTaken kind taken now fault spec old new cfg.entries (length cfg.entries)
IsLeft kind taken now fault spec old new cfg (StageAbsent plug absent) = HaveTaken kind taken now fault spec old new cfg.entries (length cfg.entries)
IsLeft kind taken now fault spec old new cfg (StageOrder key reader writer) = HaveTaken kind taken now fault spec old new cfg.entries (length cfg.entries)
IsLeft kind taken now fault spec old new cfg (KeyTwice key a b) = HaveTaken kind taken now fault spec old new cfg.entries (length cfg.entries)
IsLeft kind taken now fault spec old new cfg (TooLarge wanted limit) = HaveTaken kind taken now fault spec old new cfg.entries (length cfg.entries)
IsLeft kind taken now fault spec old new cfg NoMemory = Unit {0}

-- what want of memory leaves of the boxes: all are as they were; or those of the first entries, up to some number, took
-- them, and every other box is as it was
abbrev pub IsLeftShort : {B : Type 0} → (kind : B → List ℕ) → (taken : B → Option PlugEntry) → (now : B → PlugSpec) → (fault : B → PlugEntry → Option ParamFault)
    → (spec : B → PlugEntry → PlugSpec) → (old new : List B) → Config → Type 0
IsLeftShort kind taken now fault spec old new cfg =
    (new ≡ old) ⊎ ((count : ℕ) × (count ≤ length cfg.entries) × HaveTaken kind taken now fault spec old new cfg.entries count)

-- no box finds want of memory in an entry
abbrev pub AreSound : {B : Type 0} → (fault : B → PlugEntry → Option ParamFault) → (boxes : List B) → Type 0
AreSound {B = B} finds boxes = (d : B) (k : ℕ) → k < length boxes → (e : PlugEntry) → finds (get_or boxes k d) e ≡ Some fault.NoMemory → ⊥

-- what a box says of itself once it took an entry a plug-in may say
abbrev pub AreFit : {B : Type 0} → (fault : B → PlugEntry → Option ParamFault) → (spec : B → PlugEntry → PlugSpec) → (boxes : List B) → Type 0
AreFit {B = B} fault spec boxes = (d : B) (k : ℕ) → k < length boxes → (e : PlugEntry) → fault (get_or boxes k d) e ≡ None → IsSpec (spec (get_or boxes k d) e)

-- all rules hold, or some rule fails first
abbrev pub IsDecided : {B : Type 0} → (kind : B → List ℕ) → (fault : B → PlugEntry → Option ParamFault) → (spec : B → PlugEntry → PlugSpec) → List B → Config → Type 0
IsDecided kind fault spec boxes cfg = ((plan : Plan) × IsAccepted kind fault spec boxes cfg plan) ⊎ ((refusal : RuleRefusal) × IsFirstRefusal kind fault spec boxes cfg refusal)
