-- The start contents that are all 0.
use Rattle.std.specs.Prelude.{ℕ, List, Option, Some, None, replicate}
use Rattle.verilog_mean.specs.Look.{look, or_else}
use Rattle.verilog_mean.specs.Plain.{Item, Plain}
use Rattle.verilog_mean.specs.Plain.Item.{Wire, Reg, Array, Assign, Next, Reset, Write}
use Rattle.verilog_mean.specs.Cycle.{State}

abbrev pub item_cells : Item → Option (List ℕ × ℕ)
item_cells (Wire width name driver) = None
item_cells (Reg width name) = None
item_cells (Array width name cells) = Some (name, cells)
item_cells (Assign target driver) = None
item_cells (Next target driver) = None
item_cells (Reset target start driver) = None
item_cells (Write enable target index driver) = None

-- how many cells an array has, 0 where there is none
abbrev pub cells_in : Plain → List ℕ → ℕ
cells_in m x = or_else (look item_cells m.items x) 0

abbrev pub zero_state : Plain → State
zero_state m = record { regs = λ x. 0; cells = λ x. replicate (cells_in m x) 0 }
