-- Reads that are too early.
use Rattle.std.proofs.Common.{ℕ, List, length, Option, Some, subst}
use Rattle.stage_map.specs.declared.keys.PlugUse.{PlugUse}
use Rattle.stage_map.specs.Stages.{name_at, HasOrderFault, IsFirst, IsOrderFault, IsWrite, IsWriter}
use Rattle.stage_map.specs.Search.{IsFirstMisread}
use Rattle.stage_map.proofs.Firsts.{same_first}

-- A fault is one with the key's writer.
pub fault_by : (uses : List PlugUse) (k : ℕ) (writer : Option ℕ)
    → HasOrderFault uses k → IsWriter uses (name_at uses k) writer → IsOrderFault uses k writer
fault_by uses k writer h is = subst (λ (w : Option ℕ). IsOrderFault uses k w)
    (same_first uses (IsWrite uses (name_at uses k)) (length uses) h.0 writer h.1.writer is) h.1

-- The first read at fault with its writer.
pub misread_with : (uses : List PlugUse) (k : ℕ) (writer : Option ℕ)
    → IsFirst uses (HasOrderFault uses) (length uses) k → IsWriter uses (name_at uses k) writer
    → IsFirstMisread uses (Some (record { at = k; from = writer }))
misread_with uses k writer f is = (f, fault_by uses k writer f.holds is)
