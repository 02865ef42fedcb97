-- The cycle of a circuit: its outputs, and what it holds after the edge of the clock. All come from the values before it.
use Rattle.std.specs.Prelude.{◌≡◌, ℕ, List, vec_len}
use Rattle.verilog_flat.specs.declared.build.Build.{Build}
use Rattle.verilog_flat.specs.declared.sim.FlatSim.{FlatSim}
use Rattle.verilog_flat.specs.declared.sweep.ArrayWrite.{ArrayWrite}
use Rattle.verilog_flat.specs.Flat.{values, picked}
use Rattle.verilog_flat.specs.Writes.{write_all}

-- the values of all nodes
abbrev pub settled : FlatSim → (ins : List ℕ) → List ℕ
settled sim ins = values sim.regs.items sim.cells.items ins sim.nodes.items

abbrev pub outputs : FlatSim → (ins : List ℕ) → List ℕ
outputs sim ins = picked (settled sim ins) sim.outs.items

abbrev pub next_regs : FlatSim → (ins : List ℕ) → List ℕ
next_regs sim ins = picked (settled sim ins) sim.next.items

abbrev pub next_cells : FlatSim → (ins : List ℕ) → List ℕ
next_cells sim ins = write_all (settled sim ins) sim.writes.items sim.cells.items

-- both have the same nodes, next values, writes and ports, and as many registers and cells, whatever they hold
abbrev pub IsSameCircuit : FlatSim → FlatSim → Type 0
IsSameCircuit a b =
    (a.nodes ≡ b.nodes) × (a.next ≡ b.next) × (a.writes ≡ b.writes) × (a.outs ≡ b.outs) × (a.ins ≡ b.ins)
    × (vec_len a.regs ≡ vec_len b.regs) × (vec_len a.cells ≡ vec_len b.cells)

-- the circuit is made of these parts
abbrev pub IsCircuit : FlatSim → Build → (next : List ℕ) → List ArrayWrite → (outs : List ℕ) → Type 0
IsCircuit sim build next writes outs =
    (sim.nodes ≡ build.nodes) × (sim.next.items ≡ next) × (sim.writes.items ≡ writes) × (sim.outs.items ≡ outs) × (sim.ins ≡ build.ins)
    × (vec_len sim.regs ≡ build.regs) × (vec_len sim.cells ≡ build.cells)
