-- A module as lists of rows.
use Rattle.std.specs.Prelude.{◌≡◌, ℕ, ◌^◌, ◌<◌, ◌≤◌, true, List, length, get_or, Option, None, Some}
use Rattle.core_ports.specs.Ports.{is_input}
use Rattle.hw_pool.specs.Nodes.{IsWidth}
use Rattle.hw_expr.specs.declared.net.Net.{Net}
use Rattle.hw_module.specs.declared.rows.Owner.{Owner}
use Rattle.hw_module.specs.declared.rows.Owner.TheVariants.{Pipe, Entry}
use Rattle.hw_module.specs.declared.rows.WireRow.{WireRow}
use Rattle.hw_module.specs.declared.rows.RegRow.{RegRow}
use Rattle.hw_module.specs.declared.rows.ArrayRow.{ArrayRow}
use Rattle.hw_module.specs.Ports.{port_at}

-- What a contract sees of a module: its things by their numbers, the drivers of its ports by theirs, and how
-- many more things and drivers it can take.
pub record ModuleValue : Type 0 where
  pub wires : List WireRow
  pub regs : List RegRow
  pub arrays : List ArrayRow
  pub outs : List (Option Net)
  pub room : ℕ

-- the row of a number
abbrev pub wire_at : List WireRow → ℕ → WireRow
wire_at rows k = get_or rows k (record { owner = Pipe; width = 1; level = 0; driver = None })

abbrev pub reg_at : List RegRow → ℕ → RegRow
reg_at rows k = get_or rows k (record { owner = Pipe; width = 1; reset = None; next = None })

abbrev pub array_at : List ArrayRow → ℕ → ArrayRow
array_at rows k = get_or rows k (record { owner = Pipe; width = 1; bits = 1; write = None })

-- the driver of a port
abbrev pub out_at : List (Option Net) → ℕ → Option Net
out_at outs k = get_or outs k None

-- the value of a reset is within a width
abbrev pub IsReset : (width : ℕ) → Option ℕ → Type 0
IsReset width reset = (v : ℕ) → reset ≡ Some v → v < 2 ^ width

-- the number of an entry has 32 bits
abbrev pub IsOwner : Owner → Type 0
IsOwner Pipe = Unit {0}
IsOwner (Entry entry) = entry < 2 ^ 32

-- the widths of a module are in their ranges, and it has a place for each port, of which no input has a driver
pub record IsModule (m : ModuleValue) : Type 0 where
  pub wires : (k : ℕ) → k < length m.wires → IsWidth (wire_at m.wires k).width
  pub regs : (k : ℕ) → k < length m.regs → IsWidth (reg_at m.regs k).width
  pub resets : (k : ℕ) → k < length m.regs → IsReset (reg_at m.regs k).width (reg_at m.regs k).reset
  pub arrays : (k : ℕ) → k < length m.arrays → IsWidth (array_at m.arrays k).width
  pub bits_least : (k : ℕ) → k < length m.arrays → 1 ≤ (array_at m.arrays k).bits
  pub bits_most : (k : ℕ) → k < length m.arrays → (array_at m.arrays k).bits ≤ 16
  pub ports : length m.outs ≡ 30
  pub inputs : (k : ℕ) → is_input (port_at k) ≡ true → out_at m.outs k ≡ None
  pub wire_owners : (k : ℕ) → k < length m.wires → IsOwner (wire_at m.wires k).owner
  pub reg_owners : (k : ℕ) → k < length m.regs → IsOwner (reg_at m.regs k).owner
  pub array_owners : (k : ℕ) → k < length m.arrays → IsOwner (array_at m.arrays k).owner
