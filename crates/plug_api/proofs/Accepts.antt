-- From the steps of acceptance to its rules.
use Rattle.std.proofs.Common.{inr, ◌≡◌, ℕ, ◌≤◌, List, length, Option, Result, Err, refl, ◌∙◌, arith}
use Rattle.stage_map.specs.declared.config.PlugEntry.{PlugEntry}
use Rattle.stage_map.specs.declared.config.Config.{Config}
use Rattle.plug_api.specs.declared.spec.PlugSpec.{PlugSpec}
use Rattle.plug_api.specs.declared.spec.Plan.{Plan}
use Rattle.plug_api.specs.declared.spec.ParamFault.{ParamFault}
use Rattle.plug_api.specs.declared.refusal.RuleRefusal.{RuleRefusal}
use Rattle.plug_api.specs.declared.refusal.RuleRefusal.TheVariants.{UnknownPlugin, RepeatedPlugin, BadParam, Missing, Double, CycleOfNeeds, EncodingClash, IsaMissing, IsaExtra, StageAbsent, StageOrder, KeyTwice, TooLarge, NoMemory}
use Rattle.plug_api.specs.Picks.{AreFaultless, IsFirstFault, AreConfigured}
use Rattle.plug_api.specs.SoFar.{AreSaid}
use Rattle.plug_api.specs.Accept.{AreNamed, AreTaken, AreKnown, SpecsHold, IsPlanOf, IsFirstOfSpecs, IsAccepted, IsFirstRefusal, IsLeft, IsLeftShort}

pub err_is : {T E : Type 0} {a b : E} → ◌≡◌ {A = Result T E} (Err a) (Err b) → a ≡ b
err_is e = cc

module _ {B : Type 0} (kind : B → List ℕ) (taken : B → Option PlugEntry) (now : B → PlugSpec) (fault : B → PlugEntry → Option ParamFault) (spec : B → PlugEntry → PlugSpec) where
  -- the boxes say of themselves what they took
  pub said_is_taken : (old new : List B) (picks : List ℕ) (entries : List PlugEntry) (specs : List PlugSpec)
      → AreNamed kind old entries picks
      → AreConfigured kind taken now fault spec old new picks entries (length entries)
      → AreSaid now new picks (length picks) specs → AreTaken spec old picks entries specs
  said_is_taken old new picks entries specs named configured said =
      let all : length picks ≡ length entries = named.picked.one_each in
      record {
        one_each = said.one_each ∙ all;
        are = λ d i h. said.are d i (omega (arith, all, h)) ∙ configured.spec_is d i h;
        fit = λ i h. said.fit i (omega (arith, all, h));
      }

  -- rule 3 fails first
  pub faulty_refused : (old new : List B) (cfg : Config) (picks : List ℕ) (r : RuleRefusal) → AreNamed kind old cfg.entries picks
      → (entry : ℕ) × (found : ParamFault) × (r ≡ BadParam entry found) × IsFirstFault fault old picks cfg.entries entry found
      × AreConfigured kind taken now fault spec old new picks cfg.entries entry
      → IsFirstRefusal kind fault spec old cfg r
  faulty_refused old new cfg picks r named bad = rw bad.2 (record { picks = picks; named = named; first = bad.3 })

  pub faulty_left : (old new : List B) (cfg : Config) (picks : List ℕ) (r : RuleRefusal) → AreNamed kind old cfg.entries picks
      → (entry : ℕ) × (found : ParamFault) × (r ≡ BadParam entry found) × IsFirstFault fault old picks cfg.entries entry found
      × AreConfigured kind taken now fault spec old new picks cfg.entries entry
      → IsLeft kind taken now fault spec old new cfg r
  faulty_left old new cfg picks r named bad = rw bad.2 (record { picks = picks; named = named; configured = bad.4 })

  -- rules 1 to 3 hold
  pub known_of : (old : List B) (entries : List PlugEntry) (picks : List ℕ) (specs : List PlugSpec) → AreNamed kind old entries picks
      → AreFaultless fault old picks entries (length entries) → AreTaken spec old picks entries specs → AreKnown kind fault spec old entries picks specs
  known_of old entries picks specs named faultless is = record { named = named; faultless = faultless; taken = is }

  pub rest_refused : (old : List B) (cfg : Config) (picks : List ℕ) (specs : List PlugSpec) (r : RuleRefusal) → AreKnown kind fault spec old cfg.entries picks specs
      → IsFirstOfSpecs cfg.shape specs r → IsFirstRefusal kind fault spec old cfg r
  rest_refused old cfg picks specs (UnknownPlugin entry) known first = absurd first
  rest_refused old cfg picks specs (RepeatedPlugin entry other) known first = absurd first
  rest_refused old cfg picks specs (BadParam entry found) known first = absurd first
  rest_refused old cfg picks specs (Missing needed by) known first = record { picks = picks; specs = specs; known = known; first = first }
  rest_refused old cfg picks specs (Double offered a b) known first = record { picks = picks; specs = specs; known = known; first = first }
  rest_refused old cfg picks specs (CycleOfNeeds plug) known first = record { picks = picks; specs = specs; known = known; first = first }
  rest_refused old cfg picks specs (EncodingClash entry row other other_row) known first = record { picks = picks; specs = specs; known = known; first = first }
  rest_refused old cfg picks specs (IsaMissing row) known first = record { picks = picks; specs = specs; known = known; first = first }
  rest_refused old cfg picks specs (IsaExtra entry row) known first = record { picks = picks; specs = specs; known = known; first = first }
  rest_refused old cfg picks specs (StageAbsent plug absent) known first = record { picks = picks; specs = specs; known = known; first = first }
  rest_refused old cfg picks specs (StageOrder key reader writer) known first = record { picks = picks; specs = specs; known = known; first = first }
  rest_refused old cfg picks specs (KeyTwice key a b) known first = record { picks = picks; specs = specs; known = known; first = first }
  rest_refused old cfg picks specs (TooLarge wanted limit) known first = record { picks = picks; specs = specs; known = known; first = first }
  rest_refused old cfg picks specs NoMemory known first = absurd first

  pub rest_left : (old new : List B) (cfg : Config) (picks : List ℕ) (specs : List PlugSpec) (r : RuleRefusal) → AreNamed kind old cfg.entries picks
      → AreConfigured kind taken now fault spec old new picks cfg.entries (length cfg.entries)
      → IsFirstOfSpecs cfg.shape specs r → IsLeft kind taken now fault spec old new cfg r
  rest_left old new cfg picks specs (UnknownPlugin entry) named all first = absurd first
  rest_left old new cfg picks specs (RepeatedPlugin entry other) named all first = absurd first
  rest_left old new cfg picks specs (BadParam entry found) named all first = absurd first
  rest_left old new cfg picks specs (Missing needed by) named all first = record { picks = picks; named = named; configured = all }
  rest_left old new cfg picks specs (Double offered a b) named all first = record { picks = picks; named = named; configured = all }
  rest_left old new cfg picks specs (CycleOfNeeds plug) named all first = record { picks = picks; named = named; configured = all }
  rest_left old new cfg picks specs (EncodingClash entry row other other_row) named all first = record { picks = picks; named = named; configured = all }
  rest_left old new cfg picks specs (IsaMissing row) named all first = record { picks = picks; named = named; configured = all }
  rest_left old new cfg picks specs (IsaExtra entry row) named all first = record { picks = picks; named = named; configured = all }
  rest_left old new cfg picks specs (StageAbsent plug absent) named all first = record { picks = picks; named = named; configured = all }
  rest_left old new cfg picks specs (StageOrder key reader writer) named all first = record { picks = picks; named = named; configured = all }
  rest_left old new cfg picks specs (KeyTwice key a b) named all first = record { picks = picks; named = named; configured = all }
  rest_left old new cfg picks specs (TooLarge wanted limit) named all first = record { picks = picks; named = named; configured = all }
  rest_left old new cfg picks specs NoMemory named all first = tt

  -- the boxes of the first entries took them
  pub left_short : (old new : List B) (cfg : Config) (picks : List ℕ) → AreNamed kind old cfg.entries picks
      → (count : ℕ) × (count ≤ length cfg.entries) × AreConfigured kind taken now fault spec old new picks cfg.entries count
      → IsLeftShort kind taken now fault spec old new cfg
  left_short old new cfg picks named first = inr (first.0, first.1, record { picks = picks; named = named; configured = first.2 })

  pub all_accepted : (old : List B) (cfg : Config) (picks : List ℕ) (specs : List PlugSpec) (plan : Plan) → AreKnown kind fault spec old cfg.entries picks specs
      → SpecsHold cfg.shape specs → IsPlanOf cfg.shape picks specs plan → IsAccepted kind fault spec old cfg plan
  all_accepted old cfg picks specs plan known hold is = record {
    specs = specs;
    known = rw is.picks_are known;
    hold = hold;
    plan_is = record {
      shape_is = is.shape_is;
      picks_are = refl;
      order = is.order;
      rows = is.rows;
      owners = is.owners;
      has_csr = is.has_csr;
      wanted = is.wanted;
    };
  }
