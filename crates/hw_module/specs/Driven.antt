-- Which things of a module have a driver.
use Rattle.std.specs.Prelude.{◌≡◌, ℕ, ◌<◌, false, List, length, Option, None}
use Rattle.core_ports.specs.Ports.{is_input}
use Rattle.hw_expr.specs.declared.net.Net.{Net}
use Rattle.hw_module.specs.declared.rows.WireRow.{WireRow}
use Rattle.hw_module.specs.declared.rows.RegRow.{RegRow}
use Rattle.hw_module.specs.declared.rows.ArrayRow.{ArrayRow}
use Rattle.hw_module.specs.declared.rows.Thing.{Thing}
use Rattle.hw_module.specs.declared.rows.Thing.TheVariants.{Wire, Reg, Array, Out}
use Rattle.hw_module.specs.Ports.{port_at}
use Rattle.hw_module.specs.Rows.{ModuleValue, wire_at, reg_at, array_at, out_at}

-- each forward wire before number n has a driver
abbrev pub WiresDriven : List WireRow → (n : ℕ) → Type 0
WiresDriven rows n = (k : ℕ) → k < n → (wire_at rows k).driver ≡ None → ⊥

-- each register before number n has a next value
abbrev pub RegsDriven : List RegRow → (n : ℕ) → Type 0
RegsDriven rows n = (k : ℕ) → k < n → (reg_at rows k).next ≡ None → ⊥

-- each array before number n has a write
abbrev pub ArraysDriven : List ArrayRow → (n : ℕ) → Type 0
ArraysDriven rows n = (k : ℕ) → k < n → (array_at rows k).write ≡ None → ⊥

-- an output port without a driver
abbrev pub IsOpenOut : List (Option Net) → ℕ → Type 0
IsOpenOut outs k = (is_input (port_at k) ≡ false) × (out_at outs k ≡ None)

-- each output port before number n has a driver
abbrev pub OutsDriven : List (Option Net) → (n : ℕ) → Type 0
OutsDriven outs n = (k : ℕ) → k < n → IsOpenOut outs k → ⊥

-- each thing has a driver
pub record IsDriven (m : ModuleValue) : Type 0 where
  pub wires : WiresDriven m.wires (length m.wires)
  pub regs : RegsDriven m.regs (length m.regs)
  pub arrays : ArraysDriven m.arrays (length m.arrays)
  pub outs : OutsDriven m.outs 30

-- The first thing without a driver, in the order of forward wires, registers, arrays and outputs, each by number.
abbrev pub IsFirstUndriven : ModuleValue → Thing → Type 0
IsFirstUndriven m (Wire k) = (k < length m.wires) × ((wire_at m.wires k).driver ≡ None) × WiresDriven m.wires k
IsFirstUndriven m (Reg k) =
    (k < length m.regs) × ((reg_at m.regs k).next ≡ None) × RegsDriven m.regs k × WiresDriven m.wires (length m.wires)
IsFirstUndriven m (Array k) =
    (k < length m.arrays) × ((array_at m.arrays k).write ≡ None) × ArraysDriven m.arrays k × RegsDriven m.regs (length m.regs) × WiresDriven m.wires (length m.wires)
IsFirstUndriven m (Out k) =
    (k < 30) × IsOpenOut m.outs k × OutsDriven m.outs k × ArraysDriven m.arrays (length m.arrays) × RegsDriven m.regs (length m.regs)
    × WiresDriven m.wires (length m.wires)
