-- The registers and arrays among items.
use Rattle.std.specs.Prelude.{ℕ, List, Option, Some, None}
use Rattle.verilog_mean.specs.Plain.{Item}
use Rattle.verilog_mean.specs.Plain.Item.{Wire, Reg, Array, Assign, Next, Reset, Write}
use Rattle.verilog_sim.specs.declared.held.Held.{Held}

-- a register as an item, or an array with so many cells
abbrev pub held_item : (width : ℕ) → (name : List ℕ) → Option ℕ → Item
held_item width name None = Reg width name
held_item width name (Some cells) = Array width name cells

abbrev pub maybe_held : Option Held → Option Item
maybe_held None = None
maybe_held (Some h) = Some (held_item h.width h.name.now h.cells)

-- an item that is a register or an array
abbrev pub held_in : Item → Option Item
held_in (Reg width name) = Some (Reg width name)
held_in (Array width name cells) = Some (Array width name cells)
held_in (Wire width name driver) = None
held_in (Assign target driver) = None
held_in (Next target driver) = None
held_in (Reset target start driver) = None
held_in (Write enable target index driver) = None
