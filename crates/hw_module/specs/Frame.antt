-- What stays in a module while things are made and driven.
use Rattle.std.specs.Prelude.{◌≡◌, ℕ, ◌+◌, ◌<◌, ◌≤◌, length, sum_by, Option, None, Some}
use Rattle.hw_expr.specs.declared.net.Net.{Net}
use Rattle.hw_module.specs.declared.rows.WireRow.{WireRow}
use Rattle.hw_module.specs.declared.rows.RegRow.{RegRow}
use Rattle.hw_module.specs.declared.rows.ArrayRow.{ArrayRow}
use Rattle.hw_module.specs.declared.rows.ArrayWrite.{ArrayWrite}
use Rattle.hw_module.specs.Rows.{ModuleValue, wire_at, reg_at, array_at, out_at}

-- a row stays but for a driver that it may get
pub record WireStays (old new : WireRow) : Type 0 where
  pub owner : new.owner ≡ old.owner
  pub width : new.width ≡ old.width
  pub level : new.level ≡ old.level
  pub driver : (net : Net) → old.driver ≡ Some net → new.driver ≡ Some net

pub record RegStays (old new : RegRow) : Type 0 where
  pub owner : new.owner ≡ old.owner
  pub width : new.width ≡ old.width
  pub reset : new.reset ≡ old.reset
  pub next : (net : Net) → old.next ≡ Some net → new.next ≡ Some net

pub record ArrayStays (old new : ArrayRow) : Type 0 where
  pub owner : new.owner ≡ old.owner
  pub width : new.width ≡ old.width
  pub bits : new.bits ≡ old.bits
  pub write : (write : ArrayWrite) → old.write ≡ Some write → new.write ≡ Some write

-- a driver that is there counts 1
abbrev pub count_of : {A : Type 0} → Option A → ℕ
count_of None = 0
count_of (Some x) = 1

-- how many things a module has, each of the first three with its driver, where it has one
abbrev pub wire_fill : WireRow → ℕ
wire_fill row = 1 + count_of row.driver

abbrev pub reg_fill : RegRow → ℕ
reg_fill row = 1 + count_of row.next

abbrev pub array_fill : ArrayRow → ℕ
array_fill row = 1 + count_of row.write

-- forward wires, registers, arrays and drivers, all counted
abbrev pub fill_of : ModuleValue → ℕ
fill_of m = sum_by wire_fill m.wires + sum_by reg_fill m.regs + sum_by array_fill m.arrays + sum_by count_of m.outs

-- Things and drivers stay as they were, at most n come, and the room falls by at most n.
pub record Grows (old new : ModuleValue) (n : ℕ) : Type 0 where
  pub room : old.room ≤ new.room + n
  pub fill : fill_of new ≤ fill_of old + n
  pub more_wires : length old.wires ≤ length new.wires
  pub more_regs : length old.regs ≤ length new.regs
  pub more_arrays : length old.arrays ≤ length new.arrays
  pub wires : (k : ℕ) → k < length old.wires → WireStays (wire_at old.wires k) (wire_at new.wires k)
  pub regs : (k : ℕ) → k < length old.regs → RegStays (reg_at old.regs k) (reg_at new.regs k)
  pub arrays : (k : ℕ) → k < length old.arrays → ArrayStays (array_at old.arrays k) (array_at new.arrays k)
  pub outs : (k : ℕ) (net : Net) → out_at old.outs k ≡ Some net → out_at new.outs k ≡ Some net
