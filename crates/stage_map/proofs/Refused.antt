-- The first fault of all is one of three kinds, and where there is one, not all is well.
use Rattle.std.proofs.Common.{◌≡◌, ℕ, zero, suc, ◌<◌, true, false, List, [], ◌∷◌, length, get_or, arith, Option, None, Some, inl, inr, refl, subst, sym}
use Rattle.stage_map.specs.declared.config.Stage.{Stage}
use Rattle.stage_map.specs.declared.keys.StageRefusal.{StageRefusal}
use Rattle.stage_map.specs.declared.keys.StageRefusal.TheVariants.{StageAbsent, StageOrder, KeyTwice, NoMemory}
use Rattle.stage_map.specs.Stages.{StageMapValue, entry_at, name_at, writer_entry, HasNoStageFault, HasOrderFault, HasStages, IsFirst, IsFirstAbsent, IsFirstStageFault, IsFirstTwice, IsOrdered, IsOrderFault, IsPlaceFault, PlacesThere}

pub order_refused : (m : StageMapValue) (places : List (Option Stage)) (commit : Stage) (at : ℕ) (from : Option ℕ) (r : StageRefusal)
    → HasStages m.stages m.uses places commit → IsFirst m.uses (HasOrderFault m.uses) (length m.uses) at → IsOrderFault m.uses at from
    → r ≡ StageOrder (name_at m.uses at) (entry_at m.uses at) (writer_entry m.uses from) → IsFirstStageFault m places commit r
order_refused m places commit at from r stages first fault is = subst (λ (s : StageRefusal). IsFirstStageFault m places commit s) (sym is)
    (stages, record { at = at; from = from; first = first; fault = fault; of_key = refl; by_reader = refl; by_writer = refl })

pub twice_refused : (m : StageMapValue) (places : List (Option Stage)) (commit : Stage) (at other : ℕ) (r : StageRefusal)
    → HasStages m.stages m.uses places commit → IsOrdered m.uses → IsFirstTwice m.uses (length m.uses) at other
    → r ≡ KeyTwice (name_at m.uses at) (entry_at m.uses at) (entry_at m.uses other) → IsFirstStageFault m places commit r
twice_refused m places commit at other r stages order first is = subst (λ (s : StageRefusal). IsFirstStageFault m places commit s) (sym is)
    (stages, order, record { at = at; other = other; first = first; of_key = refl; by_a = refl; by_b = refl })

-- an entry that names a stage is one of the list
named_in : (places : List (Option Stage)) (e : ℕ) (s : Stage) → get_or places e None ≡ Some s → e < length places
named_in [] e s is = cc
named_in (p ∷ places) zero s is = omega arith
named_in (p ∷ places) (suc e) s is = let h : e < length places = named_in places e s is in omega arith

-- no entry's place is lacking where none in the list is
pub absent_place : (stages : ℕ) (places : List (Option Stage)) (e : ℕ) (s : Stage)
    → PlacesThere stages places (length places) → IsPlaceFault stages places e s → ⊥
absent_place stages places e s there fault = there e (named_in places e s fault.0) s fault

-- a stage that is lacking, in a pipeline that has each stage
pub no_absence : (m : StageMapValue) (places : List (Option Stage)) (commit : Stage) (plug : Option ℕ) (s : Stage)
    → HasStages m.stages m.uses places commit → IsFirstAbsent m.stages m.uses places commit plug s → ⊥
no_absence m places commit None s stages fault = stages.commits fault.1
no_absence m places commit (Some e) s stages fault = elim fault [
  | inl f ↦ absent_place m.stages places e s stages.placed f.fault
  | inr f ↦ stages.used f.at f.first.there f.first.holds
]

-- A refusal other than that of memory comes where there is a fault, and there alone.
pub fault_excludes : (m : StageMapValue) (places : List (Option Stage)) (commit : Stage) (r : StageRefusal)
    → HasNoStageFault m places commit → IsFirstStageFault m places commit r → ⊥
fault_excludes m places commit (StageAbsent plug s) well fault = no_absence m places commit plug s well.stages fault
fault_excludes m places commit (StageOrder key reader writer) well fault = well.order fault.1.at fault.1.first.there fault.1.first.holds
fault_excludes m places commit (KeyTwice key a b) well fault =
    well.once fault.2.at fault.2.other fault.2.first.there fault.2.first.other fault.2.first.twice
fault_excludes m places commit NoMemory well fault = fault

-- Where a stage is lacking, not all is well.
pub absence_told : (m : StageMapValue) (places : List (Option Stage)) (commit : Stage) (plug : Option ℕ) (s : Stage)
    → IsFirstAbsent m.stages m.uses places commit plug s → HasNoStageFault m places commit → false ≡ true
absence_told m places commit plug s fault well = absurd (no_absence m places commit plug s well.stages fault)

-- Where a read is too early, not all is well.
pub misread_told : (m : StageMapValue) (places : List (Option Stage)) (commit : Stage) (at : ℕ)
    → IsFirst m.uses (HasOrderFault m.uses) (length m.uses) at → HasNoStageFault m places commit → false ≡ true
misread_told m places commit at first well = absurd (well.order at first.there first.holds)
