-- The boxes that entries name: rules 1 to 3, and what the boxes took. Boxes are seen by what can be told of them.
use Rattle.std.specs.Prelude.{◌≡◌, ◌↔◌, ℕ, ◌<◌, [], List, length, get_or, Option, None, Some}
use Rattle.stage_map.specs.declared.config.PlugEntry.{PlugEntry}
use Rattle.plug_part.specs.Part.{Part}
use Rattle.plug_api.specs.declared.spec.Plan.{Plan}
use Rattle.plug_api.specs.declared.spec.PlugSpec.{PlugSpec}
use Rattle.plug_api.specs.declared.spec.ParamFault.{ParamFault}
use Rattle.plug_api.specs.declared.spec.ParamFault.TheVariants.{NoMemory}

-- what stands where there is no entry
abbrev pub no_entry : PlugEntry
no_entry = record { kind = []; params = [] }

-- none of the first boxes has the name
pub record IsUnknown {B : Type 0} (kind : B → List ℕ) (boxes : List B) (count : ℕ) (name : List ℕ) : Type 0 where
  pub none : (d : B) (k : ℕ) → k < count → kind (get_or boxes k d) ≡ name → ⊥

-- the first box of a name
pub record IsPick {B : Type 0} (kind : B → List ℕ) (boxes : List B) (name : List ℕ) (pick : ℕ) : Type 0 where
  pub there : pick < length boxes
  pub named : (d : B) → kind (get_or boxes pick d) ≡ name
  pub first : IsUnknown kind boxes pick name

-- the boxes of the first entries, where each has one
pub record ArePicks {B : Type 0} (kind : B → List ℕ) (boxes : List B) (entries : List PlugEntry) (count : ℕ) (picks : List ℕ) : Type 0 where
  pub one_each : length picks ≡ count
  pub each : (i : ℕ) → i < count → IsPick kind boxes (get_or entries i no_entry).kind (get_or picks i 0)

-- rule 1 fails, and at this entry first: no box has the name of its kind
pub record IsFirstUnknown {B : Type 0} (kind : B → List ℕ) (boxes : List B) (entries : List PlugEntry) (entry : ℕ) : Type 0 where
  pub there : entry < length entries
  pub unknown : IsUnknown kind boxes (length boxes) (get_or entries entry no_entry).kind
  pub first : (i : ℕ) → i < entry → IsUnknown kind boxes (length boxes) (get_or entries i no_entry).kind → ⊥

-- two entries name one kind
pub record Repeats (entries : List PlugEntry) (entry other : ℕ) : Type 0 where
  pub in_order : entry < other
  pub there : other < length entries
  pub same : (get_or entries entry no_entry).kind ≡ (get_or entries other no_entry).kind

-- rule 2 holds
pub record AreDistinct (entries : List PlugEntry) : Type 0 where
  pub none : (entry other : ℕ) → Repeats entries entry other → ⊥

-- rule 2 fails, and at this pair first
pub record IsFirstRepeat (entries : List PlugEntry) (entry other : ℕ) : Type 0 where
  pub repeats : Repeats entries entry other
  pub first_entry : (i j : ℕ) → i < entry → Repeats entries i j → ⊥
  pub first_other : (j : ℕ) → j < other → Repeats entries entry j → ⊥

-- rule 3 holds of the first entries: their boxes have no fault to find
pub record AreFaultless {B : Type 0} (fault : B → PlugEntry → Option ParamFault) (boxes : List B) (picks : List ℕ) (entries : List PlugEntry) (count : ℕ) : Type 0 where
  pub none : (d : B) (i : ℕ) → i < count → fault (get_or boxes (get_or picks i 0) d) (get_or entries i no_entry) ≡ None

-- rule 3 fails, and at this entry first, by another fault than want of memory
pub record IsFirstFault {B : Type 0} (fault : B → PlugEntry → Option ParamFault) (boxes : List B) (picks : List ℕ) (entries : List PlugEntry) (entry : ℕ) (found : ParamFault) : Type 0 where
  pub there : entry < length entries
  pub is : (d : B) → fault (get_or boxes (get_or picks entry 0) d) (get_or entries entry no_entry) ≡ Some found
  pub first : AreFaultless fault boxes picks entries entry
  pub no_memory : found ≡ NoMemory → ⊥

-- what can be told of a box before it is configured never changes
pub record SameKinds {B : Type 0} (kind : B → List ℕ) (fault : B → PlugEntry → Option ParamFault) (spec : B → PlugEntry → PlugSpec) (old new : List B) : Type 0 where
  pub count : length new ≡ length old
  pub kind_kept : (d : B) (k : ℕ) → k < length old → kind (get_or new k d) ≡ kind (get_or old k d)
  pub fault_kept : (d : B) (k : ℕ) → k < length old → (e : PlugEntry) → fault (get_or new k d) e ≡ fault (get_or old k d) e
  pub spec_kept : (d : B) (k : ℕ) → k < length old → (e : PlugEntry) → spec (get_or new k d) e ≡ spec (get_or old k d) e

-- the boxes of the first entries took them, and every other box is as it was
pub record AreConfigured {B : Type 0} (kind : B → List ℕ) (taken : B → Option PlugEntry) (now : B → PlugSpec) (fault : B → PlugEntry → Option ParamFault) (spec : B → PlugEntry → PlugSpec)
    (old new : List B) (picks : List ℕ) (entries : List PlugEntry) (count : ℕ) : Type 0 where
  pub kept : SameKinds kind fault spec old new
  pub took : (d : B) (i : ℕ) → i < count → taken (get_or new (get_or picks i 0) d) ≡ Some (get_or entries i no_entry)
  pub spec_is : (d : B) (i : ℕ) → i < count → now (get_or new (get_or picks i 0) d) ≡ spec (get_or old (get_or picks i 0) d) (get_or entries i no_entry)
  pub taken_kept : (d : B) (k : ℕ) → k < length old → ((i : ℕ) → i < count → get_or picks i 0 ≡ k → ⊥) → taken (get_or new k d) ≡ taken (get_or old k d)
  pub now_kept : (d : B) (k : ℕ) → k < length old → ((i : ℕ) → i < count → get_or picks i 0 ≡ k → ⊥) → now (get_or new k d) ≡ now (get_or old k d)

-- one box may have changed, in what may change
pub record ChangedAt {B : Type 0} (kind : B → List ℕ) (fault : B → PlugEntry → Option ParamFault) (spec : B → PlugEntry → PlugSpec) (old new : List B) (at : ℕ) : Type 0 where
  pub count : length new ≡ length old
  pub others : (d : B) (k : ℕ) → (k ≡ at → ⊥) → get_or new k d ≡ get_or old k d
  pub kind_kept : (d : B) → kind (get_or new at d) ≡ kind (get_or old at d)
  pub fault_kept : (d : B) (e : PlugEntry) → fault (get_or new at d) e ≡ fault (get_or old at d) e
  pub spec_kept : (d : B) (e : PlugEntry) → spec (get_or new at d) e ≡ spec (get_or old at d) e

-- A test of parts once the first entries are taken: that of each of their boxes is the test for its entry, that of every other box is as it
-- was, and the tests for entries never change.
pub record AreShaped {B : Type 0} (test : B → Plan → Part → Type 0) (test_for : B → PlugEntry → Plan → Part → Type 0) (old new : List B) (picks : List ℕ) (entries : List PlugEntry) (count : ℕ) : Type 0 where
  pub fors : (d : B) (k : ℕ) → k < length old → (e : PlugEntry) (plan : Plan) (p : Part) → test_for (get_or new k d) e plan p ↔ test_for (get_or old k d) e plan p
  pub taken : (d : B) (i : ℕ) → i < count → (plan : Plan) (p : Part) → test (get_or new (get_or picks i 0) d) plan p ↔ test_for (get_or old (get_or picks i 0) d) (get_or entries i no_entry) plan p
  pub kept : (d : B) (k : ℕ) → k < length old → ((i : ℕ) → i < count → get_or picks i 0 ≡ k → ⊥) → (plan : Plan) (p : Part) → test (get_or new k d) plan p ↔ test (get_or old k d) plan p
