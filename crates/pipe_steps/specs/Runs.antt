-- Runs of the module in which the pipeline is, and what they show on the core's ports.
use Rattle.std.specs.Prelude.{◌≡◌, ℕ, suc, ◌^◌, ◌<◌, false, List, length, All, Some}
use Rattle.core_ports.specs.Ports.{is_input, name_of}
use Rattle.core_ports.specs.Trace.{Trace}
use Rattle.hw_pool.specs.declared.node.Node.{Node}
use Rattle.hw_pool.specs.Trees.{Tree}
use Rattle.hw_pool.specs.Meaning.{Env, value}
use Rattle.hw_module.specs.Ports.{port_at}
use Rattle.hw_module.specs.Rows.{ModuleValue, wire_at, reg_at, out_at}
use Rattle.plug_part.specs.Of.{tree_option}
use Rattle.plug_part.specs.Runs.{next_value}
use Rattle.pipe_steps.specs.Things.{PipeUnit, PipeThings}
use Rattle.pipe_steps.specs.Values.{out_of, fetch_out, decode_out, hazard_out, system_out}

-- Numbers for all things in each cycle: forward wires have their drivers' values, registers change at once behind each cycle and are
-- within their widths (IEEE 1364-2005, 6.1 and 9.2.2), and the outputs of the core show the values of theirs.
pub record RunsModule (m : ModuleValue) (nodes : List Node) (run : ℕ → Env) (run' : Trace) : Type 0 where
  pub wires : (w : ℕ) (t : Tree) → w < length m.wires → tree_option nodes (wire_at m.wires w).driver ≡ Some t → (k : ℕ) → (run k).wires w ≡ value (run k) t
  pub regs : (r : ℕ) (t : Tree) → r < length m.regs → tree_option nodes (reg_at m.regs r).next ≡ Some t → (k : ℕ)
      → (run (suc k)).regs r ≡ next_value (run k) (reg_at m.regs r).reset (value (run k) t)
  pub fit : (r : ℕ) → r < length m.regs → (k : ℕ) → (run k).regs r < 2 ^ (reg_at m.regs r).width
  pub first : (run 0).inputs 1 ≡ 1
  pub later : (k : ℕ) → (run (suc k)).inputs 1 ≡ 0
  pub outs : (q : ℕ) (t : Tree) → q < 30 → is_input (port_at q) ≡ false → tree_option nodes (out_at m.outs q) ≡ Some t → (k : ℕ)
      → run' k (name_of (port_at q)) ≡ value (run k) t

-- the outputs of a unit that are bits
pub record IsBitUnit (env : Env) (u : PipeUnit) : Type 0 where
  pub done : out_of env u.ports 0 < 2
  pub trap : out_of env u.ports 3 < 2
  pub fence : out_of env u.ports 6 < 2

-- the outputs of services that are bits, as far as the pipeline computes with them
pub record AreBits (p : PipeThings) (env : Env) : Type 0 where
  pub offered : fetch_out p env 0 < 2
  pub error : fetch_out p env 3 < 2
  pub legal : decode_out p env 0 < 2
  pub writes : decode_out p env 5 < 2
  pub hold : hazard_out p env 0 < 2
  pub take_irq : system_out p env 0 < 2
  pub units : All (IsBitUnit env) p.units
