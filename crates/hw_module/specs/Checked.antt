-- Checked modules: each thing has a driver, and each driver fits.
use Rattle.std.specs.Prelude.{◌≡◌, ℕ, ◌<◌, false, length, Some}
use Rattle.core_ports.specs.Ports.{is_input}
use Rattle.core_ports.specs.Ports as ports
use Rattle.hw_pool.specs.Nodes.{PoolValue}
use Rattle.hw_expr.specs.declared.net.Net.{Net}
use Rattle.hw_module.specs.declared.rows.WireRow.{WireRow}
use Rattle.hw_module.specs.declared.rows.RegRow.{RegRow}
use Rattle.hw_module.specs.declared.rows.ArrayRow.{ArrayRow}
use Rattle.hw_module.specs.declared.rows.ArrayWrite.{ArrayWrite}
use Rattle.hw_module.specs.Ports.{port_at}
use Rattle.hw_module.specs.Rows.{ModuleValue, wire_at, reg_at, array_at, out_at}
use Rattle.hw_module.specs.Fits.{FitsIn}
use Rattle.hw_module.specs.Driven.{IsDriven}

-- a forward wire's driver has a level below the wire's, so that no chain of forward wires closes
pub record DrivesWire (m : ModuleValue) (pool : PoolValue) (row : WireRow) (net : Net) : Type 0 where
  pub fits : FitsIn m pool net
  pub width : net.width ≡ row.width
  pub below : net.level < row.level

pub record DrivesReg (m : ModuleValue) (pool : PoolValue) (row : RegRow) (net : Net) : Type 0 where
  pub fits : FitsIn m pool net
  pub width : net.width ≡ row.width

pub record DrivesArray (m : ModuleValue) (pool : PoolValue) (row : ArrayRow) (write : ArrayWrite) : Type 0 where
  pub enable : FitsIn m pool write.enable
  pub addr : FitsIn m pool write.addr
  pub value : FitsIn m pool write.value
  pub bit : write.enable.width ≡ 1
  pub bits : write.addr.width ≡ row.bits
  pub width : write.value.width ≡ row.width

pub record DrivesPort (m : ModuleValue) (pool : PoolValue) (port : ℕ) (net : Net) : Type 0 where
  pub output : is_input (port_at port) ≡ false
  pub fits : FitsIn m pool net
  pub width : net.width ≡ ports.width_of (port_at port)

-- each driver fits the module and what it drives
pub record DriversFit (m : ModuleValue) (pool : PoolValue) : Type 0 where
  pub wires : (k : ℕ) (net : Net) → k < length m.wires → (wire_at m.wires k).driver ≡ Some net → DrivesWire m pool (wire_at m.wires k) net
  pub regs : (k : ℕ) (net : Net) → k < length m.regs → (reg_at m.regs k).next ≡ Some net → DrivesReg m pool (reg_at m.regs k) net
  pub arrays : (k : ℕ) (write : ArrayWrite) → k < length m.arrays → (array_at m.arrays k).write ≡ Some write → DrivesArray m pool (array_at m.arrays k) write
  pub outs : (k : ℕ) (net : Net) → k < 30 → out_at m.outs k ≡ Some net → DrivesPort m pool k net

pub record IsChecked (m : ModuleValue) (pool : PoolValue) : Type 0 where
  pub driven : IsDriven m
  pub fits : DriversFit m pool
