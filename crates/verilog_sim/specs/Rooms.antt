-- How many cells the arrays of a module have, and what is held from some register and some cell on.
use Rattle.std.specs.Prelude.{◌≡◌, ℕ, ◌+◌, List, [], ◌∷◌, map, drop, length}
use Rattle.verilog_mean.specs.Plain.{Item, Port}
use Rattle.verilog_mean.specs.Plain.Item.{Wire, Reg, Array, Assign, Next, Reset, Write}
use Rattle.verilog_mean.specs.Cycle.{State}
use Rattle.verilog_mean.specs.Run.{IsStart, PortsFit}
use Rattle.verilog_sim.specs.Simulates.{ShowsArrays}
use Rattle.verilog_sim.specs.Layouts.{input_names, register_names, spans_from}
use Rattle.verilog_sim.specs.declared.count.Room.{Room}

-- the cells of all arrays
abbrev pub cell_count : List Item → ℕ
cell_count [] = 0
cell_count (Wire width name driver ∷ rest) = cell_count rest
cell_count (Reg width name ∷ rest) = cell_count rest
cell_count (Array width name cells ∷ rest) = cells + cell_count rest
cell_count (Assign target driver ∷ rest) = cell_count rest
cell_count (Next target driver ∷ rest) = cell_count rest
cell_count (Reset target start driver ∷ rest) = cell_count rest
cell_count (Write enable target index driver ∷ rest) = cell_count rest

-- with some items still to count, a room is the room of all
abbrev pub Counts : Room → List Item → Room → List Item → Type 0
Counts a rest b more =
    (a.regs + length (register_names rest) ≡ b.regs + length (register_names more)) × (a.cells + cell_count rest ≡ b.cells + cell_count more) × (a.ins ≡ b.ins)

-- registers from a number on and arrays from a cell on hold what a state says, within their widths
abbrev pub HeldFrom : State → (regs cells : List ℕ) → (reg base : ℕ) → List Item → Type 0
HeldFrom s regs cells reg base rest = IsStart rest s × ((map s.regs (register_names rest) ≡ drop reg regs) × ShowsArrays s cells (spans_from base rest))

-- input ports from a number on are given these values, within their widths
abbrev pub GivenFrom : (inputs : List ℕ → ℕ) → (ins : List ℕ) → (at : ℕ) → List Port → Type 0
GivenFrom inputs ins at rest = PortsFit rest inputs × (map inputs (input_names rest) ≡ drop at ins)
