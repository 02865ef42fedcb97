-- The registers of the part while it builds, and what a builder does to them.
use Rattle.std.specs.Prelude.{◌≡◌, ℕ, ◌+◌, ◌<◌, length, None, Some}
use Rattle.hw_pool.specs.Nodes.{PoolValue}
use Rattle.hw_expr.specs.declared.net.Net.{Net}
use Rattle.hw_module.specs.declared.rows.Owner.TheVariants.{Entry}
use Rattle.hw_module.specs.declared.rows.RegRow.{RegRow}
use Rattle.hw_module.specs.Rows.{ModuleValue, reg_at}
use Rattle.hw_module.specs.Rights.{Rights, Makes}
use Rattle.hw_module.specs.Scope.{scope_of}
use Rattle.hw_module.specs.Checked.{DriversFit}
use Rattle.plug_build.specs.World.{BuilderValue}
use Rattle.csr_nets.specs.declared.after.Nexts.{Nexts}

-- a register of an entry with the reset 0, without a next value and with one
abbrev pub open_row : (entry width : ℕ) → RegRow
open_row entry width = record { owner = Entry entry; width = width; reset = Some 0; next = None }

abbrev pub driven_row : (entry width : ℕ) → Net → RegRow
driven_row entry width net = record { owner = Entry entry; width = width; reset = Some 0; next = Some net }

-- the five registers of one bit from a number on, and the five behind them
pub record AreFlags (m : ModuleValue) (entry first : ℕ) : Type 0 where
  pub there : first + 4 < length m.regs
  pub on : reg_at m.regs first ≡ open_row entry 1
  pub was : reg_at m.regs (first + 1) ≡ open_row entry 1
  pub soft : reg_at m.regs (first + 2) ≡ open_row entry 1
  pub timer : reg_at m.regs (first + 3) ≡ open_row entry 1
  pub outer : reg_at m.regs (first + 4) ≡ open_row entry 1

pub record AreWords (m : ModuleValue) (entry first : ℕ) : Type 0 where
  pub there : first + 4 < length m.regs
  pub tvec : reg_at m.regs first ≡ open_row entry 30
  pub epc : reg_at m.regs (first + 1) ≡ open_row entry 30
  pub scratch : reg_at m.regs (first + 2) ≡ open_row entry 32
  pub cause : reg_at m.regs (first + 3) ≡ open_row entry 32
  pub tval : reg_at m.regs (first + 4) ≡ open_row entry 32

-- all ten
pub record AreOpen (m : ModuleValue) (entry first : ℕ) : Type 0 where
  pub there : first + 9 < length m.regs
  pub on : reg_at m.regs first ≡ open_row entry 1
  pub was : reg_at m.regs (first + 1) ≡ open_row entry 1
  pub soft : reg_at m.regs (first + 2) ≡ open_row entry 1
  pub timer : reg_at m.regs (first + 3) ≡ open_row entry 1
  pub outer : reg_at m.regs (first + 4) ≡ open_row entry 1
  pub tvec : reg_at m.regs (first + 5) ≡ open_row entry 30
  pub epc : reg_at m.regs (first + 6) ≡ open_row entry 30
  pub scratch : reg_at m.regs (first + 7) ≡ open_row entry 32
  pub cause : reg_at m.regs (first + 8) ≡ open_row entry 32
  pub tval : reg_at m.regs (first + 9) ≡ open_row entry 32

-- with their next values
pub record AreFlagsMoved (m : ModuleValue) (entry first : ℕ) (n : Nexts) : Type 0 where
  pub on : reg_at m.regs first ≡ driven_row entry 1 n.on
  pub was : reg_at m.regs (first + 1) ≡ driven_row entry 1 n.was
  pub soft : reg_at m.regs (first + 2) ≡ driven_row entry 1 n.soft
  pub timer : reg_at m.regs (first + 3) ≡ driven_row entry 1 n.timer
  pub outer : reg_at m.regs (first + 4) ≡ driven_row entry 1 n.outer

pub record AreWordsMoved (m : ModuleValue) (entry first : ℕ) (n : Nexts) : Type 0 where
  pub tvec : reg_at m.regs first ≡ driven_row entry 30 n.tvec
  pub epc : reg_at m.regs (first + 1) ≡ driven_row entry 30 n.epc
  pub scratch : reg_at m.regs (first + 2) ≡ driven_row entry 32 n.scratch
  pub cause : reg_at m.regs (first + 3) ≡ driven_row entry 32 n.cause
  pub tval : reg_at m.regs (first + 4) ≡ driven_row entry 32 n.tval

pub record AreMoved (m : ModuleValue) (entry first : ℕ) (n : Nexts) : Type 0 where
  pub on : reg_at m.regs first ≡ driven_row entry 1 n.on
  pub was : reg_at m.regs (first + 1) ≡ driven_row entry 1 n.was
  pub soft : reg_at m.regs (first + 2) ≡ driven_row entry 1 n.soft
  pub timer : reg_at m.regs (first + 3) ≡ driven_row entry 1 n.timer
  pub outer : reg_at m.regs (first + 4) ≡ driven_row entry 1 n.outer
  pub tvec : reg_at m.regs (first + 5) ≡ driven_row entry 30 n.tvec
  pub epc : reg_at m.regs (first + 6) ≡ driven_row entry 30 n.epc
  pub scratch : reg_at m.regs (first + 7) ≡ driven_row entry 32 n.scratch
  pub cause : reg_at m.regs (first + 8) ≡ driven_row entry 32 n.cause
  pub tval : reg_at m.regs (first + 9) ≡ driven_row entry 32 n.tval

-- a builder made n registers of its entry, and did nothing else
pub record MakesRegs (n : ℕ) (old new : BuilderValue) : Type 0 where
  pub entry : new.entry ≡ old.entry
  pub wires : new.design.wires ≡ old.design.wires
  pub arrays : new.design.arrays ≡ old.design.arrays
  pub outs : new.design.outs ≡ old.design.outs
  pub count : length new.design.regs ≡ length old.design.regs + n
  pub before : (k : ℕ) → k < length old.design.regs → reg_at new.design.regs k ≡ reg_at old.design.regs k
  pub room : new.design.room + n ≡ old.design.room
  pub makes : (r : Rights) → Makes (Entry old.entry) r old.design new.design n
  pub drivers : (pool : PoolValue) → DriversFit old.design pool → DriversFit new.design pool

-- a builder gave n registers of its entry their next values, and did nothing else
pub record MovesRegs (n : ℕ) (old new : BuilderValue) : Type 0 where
  pub entry : new.entry ≡ old.entry
  pub wires : new.design.wires ≡ old.design.wires
  pub arrays : new.design.arrays ≡ old.design.arrays
  pub outs : new.design.outs ≡ old.design.outs
  pub count : length new.design.regs ≡ length old.design.regs
  pub room : new.design.room + n ≡ old.design.room
  pub makes : (r : Rights) → Makes (Entry old.entry) r old.design new.design n
  pub scope : scope_of new.design ≡ scope_of old.design
