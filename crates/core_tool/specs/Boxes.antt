-- Acceptance of a configuration by the boxes of a call, and which of the boxes took an entry.
use Rattle.std.specs.Prelude.{◌≡◌, Option, Some, None, length}
use Rattle.stage_map.specs.declared.config.Config.{Config}
use Rattle.plug_api.specs.declared.spec.Plan.{Plan}
use Rattle.plug_api.specs.declared.refusal.RuleRefusal.{RuleRefusal}
use Rattle.plug_api.specs.Picks.{AreConfigured, AreShaped, SameKinds}
use Rattle.plug_api.specs.Accept.{IsAccepted, IsFirstRefusal, IsLeft, IsLeftShort}
use Rattle.core_tool.specs.Words.{Form, Gen, Run, Rules}
use Rattle.core_tool.specs.Call.{Boxes}

-- ---- acceptance

-- all rules hold of the configuration
abbrev pub Accept : {B : Type 0} → Boxes B → Config → Type 0
Accept boxes config = (plan : Plan) × IsAccepted boxes.kind boxes.fault boxes.spec boxes.old config plan

-- of the rules this fails first
abbrev pub Refuse : {B : Type 0} → Boxes B → Config → RuleRefusal → Type 0
Refuse boxes config refusal = IsFirstRefusal boxes.kind boxes.fault boxes.spec boxes.old config refusal

-- ---- what becomes of the boxes

-- each is as it was
abbrev pub AreUntouched : {B : Type 0} → Boxes B → Type 0
AreUntouched boxes = boxes.new ≡ boxes.old

-- the configuration is accepted, the boxes of its entries took them and the tests of their parts are those of these entries, and every other
-- box is as it was
pub record HaveTakenAll {B : Type 0} (boxes : Boxes B) (config : Config) : Type 0 where
  pub plan : Plan
  pub accepted : IsAccepted boxes.kind boxes.fault boxes.spec boxes.old config plan
  pub configured : AreConfigured boxes.kind boxes.taken boxes.now boxes.fault boxes.spec boxes.old boxes.new plan.picks config.entries (length config.entries)
  pub shaped : AreShaped boxes.builds boxes.builds_for boxes.old boxes.new plan.picks config.entries (length config.entries)

-- where a rule refuses the configuration: the boxes of the entries before the refusal of rule 3 took them, those of all entries
-- where a later rule fails, and none where an earlier one does
abbrev pub HaveTakenBefore : {B : Type 0} → Boxes B → Config → RuleRefusal → Type 0
HaveTakenBefore boxes config refusal = IsLeft boxes.kind boxes.taken boxes.now boxes.fault boxes.spec boxes.old boxes.new config refusal

-- the boxes of the first entries, up to some number, took them, and every other box is as it was
abbrev pub HaveTakenSome : {B : Type 0} → Boxes B → Config → Type 0
HaveTakenSome boxes config = IsLeftShort boxes.kind boxes.taken boxes.now boxes.fault boxes.spec boxes.old boxes.new config

-- what is told of a box before it takes an entry never changes
abbrev pub KeepKinds : {B : Type 0} → Boxes B → Type 0
KeepKinds boxes = SameKinds boxes.kind boxes.fault boxes.spec boxes.old boxes.new

-- ---- by command

-- the command tries the rules of acceptance: each does so far
abbrev pub TriesRules : Option Form → Type 0
TriesRules None = ⊥
TriesRules (Some (Gen name)) = Unit {0}
TriesRules (Some (Run config image options)) = Unit {0}
TriesRules (Some (Rules name)) = Unit {0}

-- the rules hold, where the command tries them
abbrev pub RulesHold : {B : Type 0} → Option Form → Boxes B → Config → Type 0
RulesHold form boxes config = TriesRules form → Accept boxes config

-- behind the rules: where the command tries them all hold and each entry is taken, and else the boxes are as they were
pub record HavePassed {B : Type 0} (form : Option Form) (boxes : Boxes B) (config : Config) : Type 0 where
  pub taken : TriesRules form → HaveTakenAll boxes config
  pub untouched : ¬ (TriesRules form) → AreUntouched boxes
