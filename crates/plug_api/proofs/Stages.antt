-- Rules 10 to 12 do not depend on the room for further uses.
use Rattle.std.proofs.Common.{◌≡◌, ℕ, List, Option, ◌∙◌, ap}
use Rattle.stage_map.specs.declared.config.Stage.{Stage}
use Rattle.stage_map.specs.declared.keys.PlugUse.{PlugUse}
use Rattle.stage_map.specs.declared.keys.StageRefusal.{StageRefusal}
use Rattle.stage_map.specs.declared.keys.StageRefusal.TheVariants as stages
use Rattle.stage_map.specs.Stages.{StageMapValue, HasNoStageFault, IsFirstStageFault}
use Rattle.plug_api.specs.declared.refusal.RuleRefusal.{RuleRefusal}
use Rattle.plug_api.specs.declared.refusal.RuleRefusal.TheVariants.{NoMemory}
use Rattle.plug_api.specs.Accept.{of_stages}

abbrev map_of : ℕ → ℕ → List PlugUse → StageMapValue
map_of a r u = record { stages = a; room = r; uses = u }

pub hold_with : (a a' r : ℕ) (u u' : List PlugUse) (p p' : List (Option Stage)) (commit : Stage) → a ≡ a' → u ≡ u' → p ≡ p'
    → HasNoStageFault (record { stages = a; room = r; uses = u }) p commit → HasNoStageFault (record { stages = a'; room = 0; uses = u' }) p' commit
hold_with a a' r u u' p p' commit ea eu ep h = rw (← ea, ← eu, ← ep) (record { stages = h.stages; order = h.order; once = h.once })

-- the fault is none of memory, and holds whatever the room
pub first_with : (a a' r : ℕ) (u u' : List PlugUse) (p p' : List (Option Stage)) (commit : Stage) (f : StageRefusal) → a ≡ a' → u ≡ u' → p ≡ p'
    → ((f ≡ stages.NoMemory → ⊥) → IsFirstStageFault (record { stages = a; room = r; uses = u }) p commit f)
    → (s : RuleRefusal) → s ≡ of_stages f → (s ≡ NoMemory → ⊥)
    → (x : StageRefusal) × (s ≡ of_stages x) × IsFirstStageFault (record { stages = a'; room = 0; uses = u' }) p' commit x
first_with a a' r u u' p p' commit f ea eu ep first s is n =
    (f, is, same f (rw (ea, eu, ep) at (first (λ m. n (is ∙ ap of_stages m)))))
  where
    same : (g : StageRefusal) → IsFirstStageFault (record { stages = a'; room = r; uses = u' }) p' commit g → IsFirstStageFault (record { stages = a'; room = 0; uses = u' }) p' commit g
    same (stages.StageAbsent plug absent) h = h
    same (stages.StageOrder key reader writer) h = h
    same (stages.KeyTwice key a b) h = h
    same stages.NoMemory h = h
