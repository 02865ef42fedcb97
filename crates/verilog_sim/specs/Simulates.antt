-- When a flat circuit is a module's.
use Rattle.std.specs.Prelude.{◌≡◌, ℕ, ◌+◌, ◌^◌, ◌<◌, ◌≤◌, List, [], ◌∷◌, length, get_or, map}
use Rattle.verilog_mean.specs.Plain.{Plain}
use Rattle.verilog_mean.specs.Cycle.{State, width_in, value, next}
use Rattle.verilog_mean.specs.Run.{IsStart, PortsFit}
use Rattle.verilog_flat.specs.declared.node.Node.{Node}
use Rattle.verilog_flat.specs.declared.sweep.ArrayWrite.{ArrayWrite}
use Rattle.verilog_flat.specs.declared.sim.FlatSim.{FlatSim}
use Rattle.verilog_flat.specs.Flat.{values, picked}
use Rattle.verilog_flat.specs.Writes.{write_all}

-- an array, and where its cells lie among those of all arrays
pub record Span : Type 0 where
  pub name : List ℕ
  pub base : ℕ
  pub size : ℕ

-- the names of the input ports, the outputs, the registers and the arrays, each in the order of their numbers
pub record Layout : Type 0 where
  pub ins : List (List ℕ)
  pub outs : List (List ℕ)
  pub regs : List (List ℕ)
  pub arrays : List Span

-- the cells of an array are there, and are those that the module's has
abbrev pub ShowsArray : State → (cells : List ℕ) → Span → Type 0
ShowsArray s cells a =
    (length (s.cells a.name) ≡ a.size) × ((a.base + a.size ≤ length cells) × ((i : ℕ) → i < a.size → get_or cells (a.base + i) 0 ≡ get_or (s.cells a.name) i 0))

abbrev pub ShowsArrays : State → (cells : List ℕ) → List Span → Type 0
ShowsArrays s cells [] = Unit {0}
ShowsArrays s cells (a ∷ rest) = ShowsArray s cells a × ShowsArrays s cells rest

-- numbered registers and cells hold what the module's named ones do, all within their widths
abbrev pub Shows : Plain → Layout → State → (regs cells : List ℕ) → Type 0
Shows m layout s regs cells = IsStart m.items s × ((map s.regs layout.regs ≡ regs) × ShowsArrays s cells layout.arrays)

-- values are within the widths of their names
abbrev pub AllFit : Plain → (val : List ℕ → ℕ) → List (List ℕ) → Type 0
AllFit m val [] = Unit {0}
AllFit m val (x ∷ xs) = (val x < 2 ^ width_in m x) × AllFit m val xs

-- Whatever is held, and for all inputs, within their widths: the outputs are the values of their names in the module's
-- cycle, within their widths, and what is held after it is what the module holds next.
abbrev pub SimulatesBy : Plain → Layout → List Node → (next_nodes : List ℕ) → List ArrayWrite → (out_nodes : List ℕ) → Type 0
SimulatesBy m layout nodes next_nodes writes out_nodes =
    (s : State) (inputs : List ℕ → ℕ) (regs cells : List ℕ) → Shows m layout s regs cells → PortsFit m.ports inputs →
    (picked (values regs cells (map inputs layout.ins) nodes) out_nodes ≡ map (value m s inputs) layout.outs)
    × AllFit m (value m s inputs) layout.outs
    × Shows m layout (next m s inputs) (picked (values regs cells (map inputs layout.ins) nodes) next_nodes)
    (write_all (values regs cells (map inputs layout.ins) nodes) writes cells)

-- a circuit is a module's, whatever it holds
abbrev pub Simulates : Plain → Layout → FlatSim → Type 0
Simulates m layout sim = SimulatesBy m layout sim.nodes.items sim.next.items sim.writes.items sim.outs.items
