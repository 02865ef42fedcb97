-- The stages of a pipeline and the uses of keys in them: each kind of fault, and the first.
use Rattle.std.specs.Prelude.{◌≡◌, ℕ, ◌<◌, ◌≤◌, ◌⊎◌, Bool, true, false, List, [], length, get_or, Option, None, Some}
use Rattle.stage_map.specs.declared.config.Stage.{Stage}
use Rattle.stage_map.specs.declared.config.Stage.TheVariants.{Decode, Execute, Memory, Writeback}
use Rattle.stage_map.specs.declared.keys.PlugUse.{PlugUse}
use Rattle.stage_map.specs.declared.keys.StageRefusal.{StageRefusal}
use Rattle.stage_map.specs.declared.keys.StageRefusal.TheVariants.{StageAbsent, StageOrder, KeyTwice, NoMemory}

-- a map of stages: the number of stages, how many more uses can be noted without memory, and the uses in the order
-- in which they were noted
pub record StageMapValue : Type 0 where
  pub stages : ℕ
  pub room : ℕ
  pub uses : List PlugUse

-- the place of a stage in the pipeline
abbrev pub rank : Stage → ℕ
rank Decode = 0
rank Execute = 1
rank Memory = 2
rank Writeback = 3

-- A pipeline of so many stages lacks this one. With 2 it has decode and execute, with 3 also memory, with 4 also writeback.
abbrev pub LacksStage : (stages : ℕ) → Stage → Type 0
LacksStage stages s = stages ≤ rank s

-- what stands for a use beyond the end of a list
abbrev pub no_use : PlugUse
no_use = record { entry = 0; at = record { key = record { name = []; width = 0 }; at = Decode; writes = false } }

-- the use at this place of the list
abbrev pub use_at : List PlugUse → ℕ → PlugUse
use_at uses k = get_or uses k no_use

abbrev pub entry_at : List PlugUse → ℕ → ℕ
entry_at uses k = (use_at uses k).entry

abbrev pub name_at : List PlugUse → ℕ → List ℕ
name_at uses k = (use_at uses k).at.key.name

abbrev pub stage_at : List PlugUse → ℕ → Stage
stage_at uses k = (use_at uses k).at.at

abbrev pub writes_at : List PlugUse → ℕ → Bool
writes_at uses k = (use_at uses k).at.writes

-- the use at i comes before that at j: by the number of its entry, and in one entry by its place in the list
abbrev pub ComesBefore : List PlugUse → (i j : ℕ) → Type 0
ComesBefore uses i j = (entry_at uses i < entry_at uses j) ⊎ ((entry_at uses i ≡ entry_at uses j) × (i < j))

-- no place below n has the property
abbrev pub Never : (Holds : ℕ → Type 0) → (n : ℕ) → Type 0
Never Holds n = (k : ℕ) → k < n → Holds k → ⊥

-- of the uses at the places below n that have the property, this one comes first
pub record IsFirst (uses : List PlugUse) (Holds : ℕ → Type 0) (n i : ℕ) : Type 0 where
  pub there : i < n
  pub holds : Holds i
  pub before : (k : ℕ) → k < n → ComesBefore uses k i → Holds k → ⊥

-- the first place below n that has the property, or none where none has
abbrev pub IsFirstOf : (uses : List PlugUse) → (Holds : ℕ → Type 0) → (n : ℕ) → Option ℕ → Type 0
IsFirstOf uses Holds n None = Never Holds n
IsFirstOf uses Holds n (Some i) = IsFirst uses Holds n i

-- The place of an entry is a stage that the pipeline lacks.
abbrev pub IsPlaceFault : (stages : ℕ) → List (Option Stage) → (e : ℕ) → Stage → Type 0
IsPlaceFault stages places e s = (get_or places e None ≡ Some s) × LacksStage stages s

-- no entry before number n has such a place
abbrev pub PlacesThere : (stages : ℕ) → List (Option Stage) → (n : ℕ) → Type 0
PlacesThere stages places n = (e : ℕ) → e < n → (s : Stage) → IsPlaceFault stages places e s → ⊥

-- A use is at a stage that the pipeline lacks.
abbrev pub IsUseFault : (stages : ℕ) → List PlugUse → ℕ → Type 0
IsUseFault stages uses k = LacksStage stages (stage_at uses k)

-- a write of the key of that name
abbrev pub IsWrite : List PlugUse → List ℕ → ℕ → Type 0
IsWrite uses name k = (writes_at uses k ≡ true) × (name_at uses k ≡ name)

-- The writer of a key is the first of its writes.
abbrev pub IsWriter : List PlugUse → List ℕ → Option ℕ → Type 0
IsWriter uses name writer = IsFirstOf uses (IsWrite uses name) (length uses) writer

-- the use at k is at a stage before the writer's, or there is no writer
abbrev pub IsEarly : List PlugUse → (k : ℕ) → (writer : Option ℕ) → Type 0
IsEarly uses k None = Unit {0}
IsEarly uses k (Some w) = rank (stage_at uses k) < rank (stage_at uses w)

-- A key is read at a stage before its writer's, or that nothing writes.
pub record IsOrderFault (uses : List PlugUse) (k : ℕ) (from : Option ℕ) : Type 0 where
  pub read : writes_at uses k ≡ false
  pub writer : IsWriter uses (name_at uses k) from
  pub early : IsEarly uses k from

abbrev pub HasOrderFault : List PlugUse → ℕ → Type 0
HasOrderFault uses k = (writer : Option ℕ) × IsOrderFault uses k writer

-- Two entries write one key: the first at i, the second at j.
pub record IsTwice (uses : List PlugUse) (i j : ℕ) : Type 0 where
  pub first : writes_at uses i ≡ true
  pub second : writes_at uses j ≡ true
  pub key : name_at uses j ≡ name_at uses i
  pub entries : entry_at uses i < entry_at uses j

-- pairs of uses by their two entries, and then by the place of the first use
abbrev pub PairComesBefore : List PlugUse → (i j k l : ℕ) → Type 0
PairComesBefore uses i j k l = (entry_at uses i < entry_at uses k)
    ⊎ ((entry_at uses i ≡ entry_at uses k) × ((entry_at uses j < entry_at uses l)
    ⊎ ((entry_at uses j ≡ entry_at uses l) × (i < k))))

-- no use at a place below n writes a key that a later entry writes
abbrev pub NeverTwice : List PlugUse → (n : ℕ) → Type 0
NeverTwice uses n = (i j : ℕ) → i < n → j < length uses → IsTwice uses i j → ⊥

-- of the pairs of writes of one key whose first is at a place below n, this one comes first
pub record IsFirstTwice (uses : List PlugUse) (n i j : ℕ) : Type 0 where
  pub there : i < n
  pub other : j < length uses
  pub twice : IsTwice uses i j
  pub before : (k l : ℕ) → k < n → l < length uses → PairComesBefore uses k l i j → IsTwice uses k l → ⊥

-- each stage that is named is in the pipeline: the commit's, those of the places and those of the uses
pub record HasStages (stages : ℕ) (uses : List PlugUse) (places : List (Option Stage)) (commit : Stage) : Type 0 where
  pub commits : LacksStage stages commit → ⊥
  pub placed : PlacesThere stages places (length places)
  pub used : Never (IsUseFault stages uses) (length uses)

-- each key is read at its writer's stage or a later one
abbrev pub IsOrdered : List PlugUse → Type 0
IsOrdered uses = Never (HasOrderFault uses) (length uses)

-- each key is written by one entry
abbrev pub WritesOnce : List PlugUse → Type 0
WritesOnce uses = NeverTwice uses (length uses)

-- no stage and no key is at fault
pub record HasNoStageFault (m : StageMapValue) (places : List (Option Stage)) (commit : Stage) : Type 0 where
  pub stages : HasStages m.stages m.uses places commit
  pub order : IsOrdered m.uses
  pub once : WritesOnce m.uses

-- the place of this entry is at fault, that of no entry before it is, and the commit's stage is there
pub record IsFirstPlaceFault (stages : ℕ) (places : List (Option Stage)) (commit : Stage) (entry : ℕ) (stage : Stage) : Type 0 where
  pub commits : LacksStage stages commit → ⊥
  pub fault : IsPlaceFault stages places entry stage
  pub before : PlacesThere stages places entry

-- this entry's first use at fault is the first of all, and the commit's stage and all places are there
pub record IsFirstUseFault (stages : ℕ) (uses : List PlugUse) (places : List (Option Stage)) (commit : Stage) (entry : ℕ) (stage : Stage) : Type 0 where
  pub commits : LacksStage stages commit → ⊥
  pub placed : PlacesThere stages places (length places)
  pub at : ℕ
  pub first : IsFirst uses (IsUseFault stages uses) (length uses) at
  pub by_entry : entry ≡ entry_at uses at
  pub at_stage : stage ≡ stage_at uses at

-- the first stage that the pipeline lacks: the commit's, else a place's, else a use's
abbrev pub IsFirstAbsent : (stages : ℕ) → List PlugUse → List (Option Stage) → Stage → (plug : Option ℕ) → Stage → Type 0
IsFirstAbsent stages uses places commit None s = (s ≡ commit) × LacksStage stages commit
IsFirstAbsent stages uses places commit (Some e) s =
    IsFirstPlaceFault stages places commit e s ⊎ IsFirstUseFault stages uses places commit e s

-- the entry of a writer, where there is one
abbrev pub writer_entry : List PlugUse → Option ℕ → Option ℕ
writer_entry uses None = None
writer_entry uses (Some w) = Some (entry_at uses w)

-- the first use that reads a key too early: its key, its entry, and that of the key's writer
pub record IsFirstOrderFault (uses : List PlugUse) (key : List ℕ) (reader : ℕ) (writer : Option ℕ) : Type 0 where
  pub at : ℕ
  pub from : Option ℕ
  pub first : IsFirst uses (HasOrderFault uses) (length uses) at
  pub fault : IsOrderFault uses at from
  pub of_key : key ≡ name_at uses at
  pub by_reader : reader ≡ entry_at uses at
  pub by_writer : writer ≡ writer_entry uses from

-- the first pair of writes of one key: the key, and the two entries
pub record IsFirstKeyTwice (uses : List PlugUse) (key : List ℕ) (a b : ℕ) : Type 0 where
  pub at : ℕ
  pub other : ℕ
  pub first : IsFirstTwice uses (length uses) at other
  pub of_key : key ≡ name_at uses at
  pub by_a : a ≡ entry_at uses at
  pub by_b : b ≡ entry_at uses other

-- The first fault: of a stage that is lacking, else of the order of reads and writes, else of two writes.
abbrev pub IsFirstStageFault : StageMapValue → List (Option Stage) → Stage → StageRefusal → Type 0
IsFirstStageFault m places commit (StageAbsent plug s) = IsFirstAbsent m.stages m.uses places commit plug s
IsFirstStageFault m places commit (StageOrder key reader writer) =
    HasStages m.stages m.uses places commit × IsFirstOrderFault m.uses key reader writer
IsFirstStageFault m places commit (KeyTwice key a b) =
    HasStages m.stages m.uses places commit × IsOrdered m.uses × IsFirstKeyTwice m.uses key a b
IsFirstStageFault m places commit NoMemory = ⊥
