-- How far configuring has come.
use Rattle.std.specs.Prelude.{◌≡◌, ℕ, ◌≤◌, ◌<◌, List, length, get_or, Option, None, Some}
use Rattle.stage_map.specs.declared.config.PlugEntry.{PlugEntry}
use Rattle.plug_part.specs.Part.{Part}
use Rattle.plug_api.specs.declared.spec.Plan.{Plan}
use Rattle.plug_api.specs.declared.spec.PlugSpec.{PlugSpec}
use Rattle.plug_api.specs.declared.spec.ParamFault.{ParamFault}
use Rattle.plug_api.specs.declared.spec.ParamFault.TheVariants.{NoMemory}
use Rattle.plug_api.specs.Spec.{IsSpec, no_spec}
use Rattle.plug_api.specs.Picks.{AreConfigured, AreFaultless, AreShaped}

-- what the boxes of the first entries say of themselves now
pub record AreSaid {B : Type 0} (now : B → PlugSpec) (boxes : List B) (picks : List ℕ) (count : ℕ) (specs : List PlugSpec) : Type 0 where
  pub one_each : length specs ≡ count
  pub are : (d : B) (i : ℕ) → i < count → get_or specs i no_spec ≡ now (get_or boxes (get_or picks i 0) d)
  pub fit : (i : ℕ) → i < count → IsSpec (get_or specs i no_spec)

-- the first entries are configured, none of them has a fault, and the boxes of the others are untouched
pub record ConfiguredSoFar {B : Type 0} (kind : B → List ℕ) (taken : B → Option PlugEntry) (now : B → PlugSpec) (fault : B → PlugEntry → Option ParamFault) (spec : B → PlugEntry → PlugSpec)
    (old new : List B) (picks : List ℕ) (entries : List PlugEntry) (total count : ℕ) : Type 0 where
  pub configured : AreConfigured kind taken now fault spec old new picks entries count
  pub faultless : AreFaultless fault old picks entries count
  pub rest : (d : B) (j : ℕ) → count ≤ j → j < total → get_or new (get_or picks j 0) d ≡ get_or old (get_or picks j 0) d

-- besides, both tests of parts are those of the entries
pub record TakenSoFar {B : Type 0} (kind : B → List ℕ) (taken : B → Option PlugEntry) (now : B → PlugSpec) (fault : B → PlugEntry → Option ParamFault) (spec : B → PlugEntry → PlugSpec)
    (begun builds : B → Plan → Part → Type 0) (begun_for builds_for : B → PlugEntry → Plan → Part → Type 0)
    (old new : List B) (picks : List ℕ) (entries : List PlugEntry) (total count : ℕ) : Type 0 where
  pub told : ConfiguredSoFar kind taken now fault spec old new picks entries total count
  pub half : AreShaped begun begun_for old new picks entries count
  pub whole : AreShaped builds builds_for old new picks entries count

-- none of the first boxes finds want of memory in an entry, and each says what a plug-in may once it took one
pub record AreSoundSoFar {B : Type 0} (fault : B → PlugEntry → Option ParamFault) (spec : B → PlugEntry → PlugSpec) (boxes : List B) (count : ℕ) : Type 0 where
  pub sound : (d : B) (k : ℕ) → k < count → (e : PlugEntry) → fault (get_or boxes k d) e ≡ Some NoMemory → ⊥
  pub fit : (d : B) (k : ℕ) → k < count → (e : PlugEntry) → fault (get_or boxes k d) e ≡ None → IsSpec (spec (get_or boxes k d) e)
