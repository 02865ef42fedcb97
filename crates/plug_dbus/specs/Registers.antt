-- The registers of the part while it builds, and what a builder does to them and to the outputs of the core.
use Rattle.std.specs.Prelude.{◌≡◌, ℕ, ◌+◌, ◌<◌, length, Option, None, Some}
use Rattle.hw_pool.specs.Nodes.{PoolValue}
use Rattle.hw_expr.specs.declared.net.Net.{Net}
use Rattle.hw_module.specs.declared.rows.Owner.TheVariants.{Entry}
use Rattle.hw_module.specs.declared.rows.RegRow.{RegRow}
use Rattle.hw_module.specs.Rows.{ModuleValue, reg_at, out_at}
use Rattle.hw_module.specs.Rights.{Rights, Makes}
use Rattle.hw_module.specs.Scope.{scope_of}
use Rattle.hw_module.specs.Checked.{DriversFit}
use Rattle.plug_build.specs.World.{BuilderValue}
use Rattle.plug_dbus.specs.declared.unit.Held.{Held}
use Rattle.plug_dbus.specs.declared.unit.Nexts.{Nexts}

-- a register of an entry, without a next value and with one
abbrev pub open_row : (entry width : ℕ) (reset : Option ℕ) → RegRow
open_row entry width reset = record { owner = Entry entry; width = width; reset = reset; next = None }

abbrev pub driven_row : (entry width : ℕ) (reset : Option ℕ) → Net → RegRow
driven_row entry width reset net = record { owner = Entry entry; width = width; reset = reset; next = Some net }

-- the six registers, from a number on
pub record AreOpen (m : ModuleValue) (entry first : ℕ) : Type 0 where
  pub there : first + 5 < length m.regs
  pub given : reg_at m.regs first ≡ open_row entry 1 (Some 0)
  pub owed : reg_at m.regs (first + 1) ≡ open_row entry 1 (Some 0)
  pub address : reg_at m.regs (first + 2) ≡ open_row entry 32 None
  pub writes : reg_at m.regs (first + 3) ≡ open_row entry 1 None
  pub payload : reg_at m.regs (first + 4) ≡ open_row entry 32 None
  pub mask : reg_at m.regs (first + 5) ≡ open_row entry 4 None

pub record AreMoved (m : ModuleValue) (entry first : ℕ) (n : Nexts) : Type 0 where
  pub given : reg_at m.regs first ≡ driven_row entry 1 (Some 0) n.given
  pub owed : reg_at m.regs (first + 1) ≡ driven_row entry 1 (Some 0) n.owed
  pub address : reg_at m.regs (first + 2) ≡ driven_row entry 32 None n.address
  pub writes : reg_at m.regs (first + 3) ≡ driven_row entry 1 None n.writes
  pub payload : reg_at m.regs (first + 4) ≡ driven_row entry 32 None n.payload
  pub mask : reg_at m.regs (first + 5) ≡ driven_row entry 4 None n.mask

-- a builder made n registers of its entry, and did nothing else
pub record MakesRegs (n : ℕ) (old new : BuilderValue) : Type 0 where
  pub entry : new.entry ≡ old.entry
  pub wires : new.design.wires ≡ old.design.wires
  pub arrays : new.design.arrays ≡ old.design.arrays
  pub outs : new.design.outs ≡ old.design.outs
  pub count : length new.design.regs ≡ length old.design.regs + n
  pub before : (k : ℕ) → k < length old.design.regs → reg_at new.design.regs k ≡ reg_at old.design.regs k
  pub room : new.design.room + n ≡ old.design.room
  pub makes : (r : Rights) → Makes (Entry old.entry) r old.design new.design n
  pub drivers : (pool : PoolValue) → DriversFit old.design pool → DriversFit new.design pool

-- a builder gave n registers of its entry their next values, and did nothing else
pub record MovesRegs (n : ℕ) (old new : BuilderValue) : Type 0 where
  pub entry : new.entry ≡ old.entry
  pub wires : new.design.wires ≡ old.design.wires
  pub arrays : new.design.arrays ≡ old.design.arrays
  pub outs : new.design.outs ≡ old.design.outs
  pub count : length new.design.regs ≡ length old.design.regs
  pub room : new.design.room + n ≡ old.design.room
  pub makes : (r : Rights) → Makes (Entry old.entry) r old.design new.design n
  pub scope : scope_of new.design ≡ scope_of old.design

-- the outputs of the command on the data bus have no driver, and have what the registers hold
pub record AreClear (m : ModuleValue) : Type 0 where
  pub valid : out_at m.outs 8 ≡ None
  pub write : out_at m.outs 10 ≡ None
  pub addr : out_at m.outs 11 ≡ None
  pub content : out_at m.outs 12 ≡ None
  pub mask : out_at m.outs 13 ≡ None

pub record AreShown (m : ModuleValue) (r : Held) : Type 0 where
  pub valid : out_at m.outs 8 ≡ Some r.given
  pub write : out_at m.outs 10 ≡ Some r.writes
  pub addr : out_at m.outs 11 ≡ Some r.address
  pub content : out_at m.outs 12 ≡ Some r.payload
  pub mask : out_at m.outs 13 ≡ Some r.mask
