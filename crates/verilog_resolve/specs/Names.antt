-- The places of names.
use Rattle.std.specs.Prelude.{ℕ, ◌+◌, ◌<◌, ◌≤◌, List, Option, Some, None}
use Rattle.std.specs.HashMap.{get_by}
use Rattle.core_words.specs.Names.{same_name}
use Rattle.verilog_resolve.specs.declared.names.Place.{Place}
use Rattle.verilog_resolve.specs.declared.names.Place.TheVariants.{Absent, Net, Array}
use Rattle.verilog_resolve.specs.declared.names.Names.{Names}

abbrev pub place_or : Option Place → Place
place_or None = Absent
place_or (Some p) = p

-- the place of a name
abbrev pub places : Names → List ℕ → Place
places names x = place_or (get_by (λ k. same_name x k.now) names.map)

-- ---- parts of a place, 0 where it has none

abbrev pub node_of : Place → ℕ
node_of (Net node width) = node
node_of _ = 0

abbrev pub place_width : Place → ℕ
place_width (Net node width) = width
place_width (Array base size width) = width
place_width Absent = 0

abbrev pub base_of : Place → ℕ
base_of (Array base size width) = base
base_of _ = 0

abbrev pub size_of : Place → ℕ
size_of (Array base size width) = size
size_of _ = 0

-- ---- kinds of places

abbrev pub IsNet : Place → Type 0
IsNet (Net node width) = Unit {0}
IsNet _ = ⊥

abbrev pub IsArray : Place → Type 0
IsArray (Array base size width) = Unit {0}
IsArray _ = ⊥

-- a place is one of so many nodes and cells, and at most 64 bits wide
abbrev pub IsIn : (nodes cells : ℕ) → Place → Type 0
IsIn nodes cells Absent = Unit {0}
IsIn nodes cells (Net node width) = (node < nodes) × (width ≤ 64)
IsIn nodes cells (Array base size width) = (base + size ≤ cells) × (width ≤ 64)
