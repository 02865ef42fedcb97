-- The registers and arrays of the part in a module by their numbers, and what is driven there.
use Rattle.std.specs.Prelude.{◌≡◌, ℕ, ◌+◌, ◌-◌, ◌<◌, length, Option, None, Some}
use Rattle.hw_pool.specs.Nodes.{PoolValue}
use Rattle.hw_pool.specs.Meaning.{Env}
use Rattle.hw_expr.specs.declared.net.Net.{Net}
use Rattle.hw_module.specs.declared.rows.Owner.TheVariants.{Entry}
use Rattle.hw_module.specs.declared.rows.RegRow.{RegRow}
use Rattle.hw_module.specs.declared.rows.ArrayRow.{ArrayRow}
use Rattle.hw_module.specs.Rows.{ModuleValue, reg_at, array_at}
use Rattle.hw_module.specs.Rights.{Rights, Makes}
use Rattle.hw_module.specs.Scope.{scope_of}
use Rattle.hw_module.specs.Checked.{DriversFit}
use Rattle.plug_build.specs.World.{BuilderValue}
use Rattle.cache_nets.specs.declared.shapes.Four.{Four}
use Rattle.cache_nets.specs.declared.shapes.Write.{Write}

-- a register of an entry, without a next value and with one
abbrev pub open_row : (entry width : ℕ) (reset : Option ℕ) → RegRow
open_row entry width reset = record { owner = Entry entry; width = width; reset = reset; next = None }

abbrev pub driven_row : (entry width : ℕ) (reset : Option ℕ) → Net → RegRow
driven_row entry width reset net = record { owner = Entry entry; width = width; reset = reset; next = Some net }

-- four registers that follow each other, by their widths and resets
pub record IsOpenFour (m : ModuleValue) (entry reg a b c d : ℕ) (ra rb rc rd : Option ℕ) : Type 0 where
  pub there : reg + 3 < length m.regs
  pub first : reg_at m.regs reg ≡ open_row entry a ra
  pub second : reg_at m.regs (reg + 1) ≡ open_row entry b rb
  pub third : reg_at m.regs (reg + 2) ≡ open_row entry c rc
  pub fourth : reg_at m.regs (reg + 3) ≡ open_row entry d rd

pub record IsDrivenFour (m : ModuleValue) (entry reg a b c d : ℕ) (ra rb rc rd : Option ℕ) (n : Four) : Type 0 where
  pub first : reg_at m.regs reg ≡ driven_row entry a ra n.first
  pub second : reg_at m.regs (reg + 1) ≡ driven_row entry b rb n.second
  pub third : reg_at m.regs (reg + 2) ≡ driven_row entry c rc n.third
  pub fourth : reg_at m.regs (reg + 3) ≡ driven_row entry d rd n.fourth

-- they have no next value yet, and the widths of these nets
pub record CanDrive (m : ModuleValue) (entry reg : ℕ) (n : Four) : Type 0 where
  pub there : reg + 3 < length m.regs
  pub first : reg_at m.regs reg ≡ open_row entry n.first.width (reg_at m.regs reg).reset
  pub second : reg_at m.regs (reg + 1) ≡ open_row entry n.second.width (reg_at m.regs (reg + 1)).reset
  pub third : reg_at m.regs (reg + 2) ≡ open_row entry n.third.width (reg_at m.regs (reg + 2)).reset
  pub fourth : reg_at m.regs (reg + 3) ≡ open_row entry n.fourth.width (reg_at m.regs (reg + 3)).reset

-- all sixteen, for 2 ^ l lines of 2 ^ k words: pc, walk, given, owed, dropped, line, place, bad, wanted, captured with its word and its
-- error, and full with the pc, the word and the error of the item
pub record AreOpenRegs (m : ModuleValue) (entry first l k reset_pc : ℕ) : Type 0 where
  pub front : IsOpenFour m entry first 32 (l + 1) 1 1 (Some reset_pc) (Some 0) (Some 0) (Some 0)
  pub reading : IsOpenFour m entry (first + 4) 1 (30 - k) k 1 (Some 0) None None None
  pub caught : IsOpenFour m entry (first + 8) 1 1 32 1 None (Some 0) None None
  pub item : IsOpenFour m entry (first + 12) 1 32 32 1 (Some 0) None None None

abbrev pub open_array : (entry width bits : ℕ) → ArrayRow
open_array entry width bits = record { owner = Entry entry; width = width; bits = bits; write = None }

-- the array of tags, and that of words behind it
pub record AreOpenArrays (m : ModuleValue) (entry tags l k : ℕ) : Type 0 where
  pub there : tags + 1 < length m.arrays
  pub tag : array_at m.arrays tags ≡ open_array entry (31 - k - l) l
  pub cell : array_at m.arrays (tags + 1) ≡ open_array entry 32 (l + k)

abbrev pub driven_array : (entry width bits : ℕ) → Write → ArrayRow
driven_array entry width bits w = record { owner = Entry entry; width = width; bits = bits; write = Some (record { enable = w.enable; addr = w.addr; value = w.value }) }

-- a builder made n registers of its entry, and did nothing else
pub record MakesRegs (n : ℕ) (old new : BuilderValue) : Type 0 where
  pub entry : new.entry ≡ old.entry
  pub wires : new.design.wires ≡ old.design.wires
  pub arrays : new.design.arrays ≡ old.design.arrays
  pub outs : new.design.outs ≡ old.design.outs
  pub count : length new.design.regs ≡ length old.design.regs + n
  pub before : (k : ℕ) → k < length old.design.regs → reg_at new.design.regs k ≡ reg_at old.design.regs k
  pub room : new.design.room + n ≡ old.design.room
  pub makes : (r : Rights) → Makes (Entry old.entry) r old.design new.design n
  pub drivers : (pool : PoolValue) → DriversFit old.design pool → DriversFit new.design pool

-- a builder made two arrays of its entry, and did nothing else
pub record MakesArrays (old new : BuilderValue) : Type 0 where
  pub entry : new.entry ≡ old.entry
  pub wires : new.design.wires ≡ old.design.wires
  pub regs : new.design.regs ≡ old.design.regs
  pub outs : new.design.outs ≡ old.design.outs
  pub count : length new.design.arrays ≡ length old.design.arrays + 2
  pub before : (k : ℕ) → k < length old.design.arrays → array_at new.design.arrays k ≡ array_at old.design.arrays k
  pub room : new.design.room + 2 ≡ old.design.room
  pub makes : (r : Rights) → Makes (Entry old.entry) r old.design new.design 2
  pub drivers : (pool : PoolValue) → DriversFit old.design pool → DriversFit new.design pool

-- a builder gave n registers of its entry their next values, and did nothing else
pub record Drives (n : ℕ) (old new : BuilderValue) : Type 0 where
  pub entry : new.entry ≡ old.entry
  pub wires : new.design.wires ≡ old.design.wires
  pub arrays : new.design.arrays ≡ old.design.arrays
  pub outs : new.design.outs ≡ old.design.outs
  pub count : length new.design.regs ≡ length old.design.regs
  pub room : new.design.room + n ≡ old.design.room
  pub makes : (r : Rights) → Makes (Entry old.entry) r old.design new.design n
  pub scope : scope_of new.design ≡ scope_of old.design

-- a builder gave both arrays of its entry their writes, and did nothing else
pub record Writes (old new : BuilderValue) : Type 0 where
  pub entry : new.entry ≡ old.entry
  pub wires : new.design.wires ≡ old.design.wires
  pub regs : new.design.regs ≡ old.design.regs
  pub outs : new.design.outs ≡ old.design.outs
  pub count : length new.design.arrays ≡ length old.design.arrays
  pub room : new.design.room + 2 ≡ old.design.room
  pub makes : (r : Rights) → Makes (Entry old.entry) r old.design new.design 2
  pub scope : scope_of new.design ≡ scope_of old.design
