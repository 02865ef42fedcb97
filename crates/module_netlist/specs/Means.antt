-- A tree's cycles are a module's, name by name; and a text that means a module.
use Rattle.std.specs.Prelude.{◌≡◌, ◌↔◌, ℕ, ◌<◌, ◌≤◌, false, List, length, All, codes}
use Rattle.core_ports.specs.Ports.{is_input}
use Rattle.hw_pool.specs.declared.node.Node.{Node}
use Rattle.hw_module.specs.Ports.{port_at}
use Rattle.hw_module.specs.Rows.{ModuleValue}
use Rattle.hw_module.specs.Cycle.{Held, IsHeld, wire_value, out_value, next_held}
use Rattle.verilog_tree.specs.declared.tree.Tree.{Tree}
use Rattle.verilog_tree.specs.Module.{HasOneReading}
use Rattle.verilog_mean.specs.Plain.{Plain}
use Rattle.verilog_mean.specs.Cycle.{State, value, next}
use Rattle.verilog_mean.specs.Run.{IsStart, AllZero}
use Rattle.verilog_mean.specs.Erase.{plain_tree}
use Rattle.verilog_mean.specs.Sound.{IsSound}
use Rattle.verilog_mean.specs.CorePorts.{HasCorePorts}
use Rattle.verilog_netlist.specs.Writable.{RowsBelow}
use Rattle.module_netlist.specs.Names.{wire_name, reg_name, array_name, port_name}

-- what a module's registers and arrays hold, among those of a tree
abbrev pub held_by : ModuleValue → State → Held
held_by m s = record { regs = λ r. s.regs (reg_name m r); cells = λ a. s.cells (array_name m a) }

-- the inputs of a module, by the numbers of its ports
abbrev pub ins_by : (List ℕ → ℕ) → ℕ → ℕ
ins_by ins p = ins (port_name p)

-- all registers and cells hold 0
pub record HoldsZero (m : ModuleValue) (s : Held) : Type 0 where
  pub regs : (r : ℕ) → r < length m.regs → s.regs r ≡ 0
  pub cells : (a : ℕ) → a < length m.arrays → All (λ c. c ≡ 0) (s.cells a)

-- For each state and all inputs the values of forward wires and outputs, and what registers and arrays hold next, are
-- those of the module's cycle. The start contents of the tree are those of the module.
pub record Means (m : ModuleValue) (nodes : List Node) (t : Plain) : Type 0 where
  pub wires : (s : State) (ins : List ℕ → ℕ) (w : ℕ) → w < length m.wires → value t s ins (wire_name m w) ≡ wire_value m nodes (held_by m s) (ins_by ins) w
  pub outs : (s : State) (ins : List ℕ → ℕ) (p : ℕ) → p < 30 → is_input (port_at p) ≡ false → value t s ins (port_name p) ≡ out_value m nodes (held_by m s) (ins_by ins) p
  pub regs : (s : State) (ins : List ℕ → ℕ) (r : ℕ) → r < length m.regs → (next t s ins).regs (reg_name m r) ≡ (next_held m nodes (held_by m s) (ins_by ins)).regs r
  pub cells : (s : State) (ins : List ℕ → ℕ) (a : ℕ) → a < length m.arrays → (next t s ins).cells (array_name m a) ≡ (next_held m nodes (held_by m s) (ins_by ins)).cells a
  pub start : (s : State) → IsStart t.items s ↔ IsHeld m (held_by m s)
  pub zeros : (s : State) → AllZero t.items s ↔ HoldsZero m (held_by m s)

-- The text has one reading, the tree of a sound module `core` with the ports of a core, which means the module. It is
-- short enough to be read, and so is each of its rows.
pub record IsModuleText (m : ModuleValue) (nodes : List Node) (text : List ℕ) : Type 0 where
  pub tree : Tree
  pub one_reading : HasOneReading text tree
  pub named : tree.name.text ≡ codes "core"
  pub sound : IsSound tree
  pub ports : HasCorePorts (plain_tree tree)
  pub means : Means m nodes (plain_tree tree)
  pub short : length text ≤ 16777216
  pub rows : RowsBelow 160 0 text
