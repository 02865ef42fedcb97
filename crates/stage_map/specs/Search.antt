-- How the first use with a property, and the first pair of writes, are kept from place to place.
use Rattle.std.specs.Prelude.{ℕ, ◌<◌, Bool, true, false, cond, ltb, leb, eqb, ◌&&◌, ◌||◌, List, length, Option, None, Some}
use Rattle.stage_map.specs.declared.keys.PlugUse.{PlugUse}
use Rattle.stage_map.specs.declared.twice.Pair.{Pair}
use Rattle.stage_map.specs.declared.order.Misread.{Misread}
use Rattle.stage_map.specs.declared.absent.Absence.{Absence}
use Rattle.stage_map.specs.declared.config.Stage.{Stage}
use Rattle.stage_map.specs.Stages.{entry_at, HasOrderFault, HasStages, IsFirst, IsFirstAbsent, IsFirstTwice, IsOrdered, IsOrderFault, NeverTwice}

-- what is kept at place k, which comes later in the list than what was found so far
abbrev pub kept : List PlugUse → Option ℕ → (k : ℕ) → (holds : Bool) → Option ℕ
kept uses best k false = best
kept uses None k true = Some k
kept uses (Some b) k true = cond (leb (entry_at uses b) (entry_at uses k)) (Some b) (Some k)

-- whether a pair's entries are no greater than those of the uses at i and j
abbrev pub stays : List PlugUse → Pair → (i j : ℕ) → Bool
stays uses p i j = ltb (entry_at uses p.at) (entry_at uses i)
    || (eqb (entry_at uses p.at) (entry_at uses i) && leb (entry_at uses p.other) (entry_at uses j))

-- what is kept of the pair found so far and of the use at i with the first other write of its key
abbrev pub kept_pair : List PlugUse → Option Pair → (i : ℕ) → (other : Option ℕ) → Option Pair
kept_pair uses best i None = best
kept_pair uses None i (Some j) = Some (record { at = i; other = j })
kept_pair uses (Some p) i (Some j) = cond (stays uses p i j) (Some p) (Some (record { at = i; other = j }))

-- the first pair whose first use is at a place below n, or none where there is none
abbrev pub IsFirstPair : List PlugUse → (n : ℕ) → Option Pair → Type 0
IsFirstPair uses n None = NeverTwice uses n
IsFirstPair uses n (Some p) = IsFirstTwice uses n p.at p.other

-- the places of a pair are in the list
abbrev pub IsWithin : List PlugUse → Option Pair → Type 0
IsWithin uses None = Unit {0}
IsWithin uses (Some p) = (p.at < length uses) × (p.other < length uses)

-- the first stage that is lacking, or none where each is there
abbrev pub IsFirstAbsence : (stages : ℕ) → List PlugUse → List (Option Stage) → Stage → Option Absence → Type 0
IsFirstAbsence stages uses places commit None = HasStages stages uses places commit
IsFirstAbsence stages uses places commit (Some a) = IsFirstAbsent stages uses places commit a.plug a.stage

-- the first read that is too early with its writer, or none where there is none
abbrev pub IsFirstMisread : List PlugUse → Option Misread → Type 0
IsFirstMisread uses None = IsOrdered uses
IsFirstMisread uses (Some r) = IsFirst uses (HasOrderFault uses) (length uses) r.at × IsOrderFault uses r.at r.from
