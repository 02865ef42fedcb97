-- The configurations that there may be.
use Rattle.std.specs.Prelude.{ℕ, ◌+◌, ◌%◌, ◌^◌, ◌≡◌, ◌≤◌, ◌<◌, ◌⊎◌, All, length}
use Rattle.std.specs.Ordering.{nat_cmp}
use Rattle.std.specs.Cmp.Lexicographic.{slice_cmp}
use Rattle.std.specs.List.Sorted.{IsStrictlySortedBy}
use Rattle.stage_map.specs.declared.config.Stage.TheVariants.{Execute}
use Rattle.stage_map.specs.declared.config.PlugEntry.{PlugEntry}
use Rattle.stage_map.specs.declared.config.CoreShape.{CoreShape}
use Rattle.stage_map.specs.declared.config.MemShape.{MemShape}
use Rattle.stage_map.specs.declared.config.Config.{Config}

-- a shape that a core may have: 2 to 4 stages, a reset pc that is a multiple of 4, the commit in execute
pub record IsShape (shape : CoreShape) : Type 0 where
  pub two_or_more : 2 ≤ shape.stages
  pub four_or_less : shape.stages ≤ 4
  pub reset_pc_by_four : shape.reset_pc % 4 ≡ 0
  pub reset_pc_below : shape.reset_pc < 2 ^ 32
  pub commit : shape.commit ≡ Execute

-- a memory that a run may have: it ends at 2 ^ 32 at the latest, and lies apart from the bytes 0xF0000000 to 0xF000000F
pub record IsMemory (mem : MemShape) : Type 0 where
  pub base_by_four : mem.base % 4 ≡ 0
  pub size_by_four : mem.size % 4 ≡ 0
  pub four_or_more : 4 ≤ mem.size
  pub size_at_most : mem.size ≤ 16777216
  pub ends : mem.base + mem.size ≤ 2 ^ 32
  pub apart : (mem.base + mem.size ≤ 4026531840) ⊎ (4026531856 ≤ mem.base)

-- a byte of `a` to `z`, `0` to `9`, or `_`
abbrev pub IsKindByte : ℕ → Type 0
IsKindByte b = ((97 ≤ b) × (b ≤ 122)) ⊎ (((48 ≤ b) × (b ≤ 57)) ⊎ (b ≡ 95))

-- an entry that there may be: a kind of 1 to 32 of those bytes, and parameters whose keys ascend in the order of bytes
pub record IsEntry (entry : PlugEntry) : Type 0 where
  pub one_or_more : 1 ≤ length entry.kind
  pub kind_at_most : length entry.kind ≤ 32
  pub kind_bytes : All IsKindByte entry.kind
  pub ascending : IsStrictlySortedBy (λ p q. slice_cmp nat_cmp p.key q.key) entry.params

-- a configuration that there may be
pub record IsConfig (config : Config) : Type 0 where
  pub shape : IsShape config.shape
  pub mem : IsMemory config.mem
  pub count : length config.entries ≤ 32
  pub entries : All IsEntry config.entries
