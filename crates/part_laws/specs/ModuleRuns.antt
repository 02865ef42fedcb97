-- The runs of a module out of reset, and the traces that show what it gives on the core's ports.
use Rattle.std.specs.Prelude.{◌≡◌, ℕ, suc, ◌<◌, cond, List}
use Rattle.core_ports.specs.Ports.{is_input, name_of}
use Rattle.core_ports.specs.Trace.{Trace}
use Rattle.hw_pool.specs.declared.node.Node.{Node}
use Rattle.hw_module.specs.Ports.{port_at}
use Rattle.hw_module.specs.Rows.{ModuleValue}
use Rattle.hw_module.specs.Cycle.{Held, IsHeld, AreInputs, out_value, held_at}

-- start contents and inputs within their widths, with `reset` 1 in cycle 0 and 0 later
pub record IsModuleRun (m : ModuleValue) (s : Held) (ins : ℕ → ℕ → ℕ) : Type 0 where
  pub held : IsHeld m s
  pub inputs : (k : ℕ) → AreInputs (ins k)
  pub first : ins 0 1 ≡ 1
  pub later : (k : ℕ) → ins (suc k) 1 ≡ 0

-- a trace shows on each port of the core what a module has there: an input, or the value of an output
abbrev pub ShowsPorts : (m : ModuleValue) (nodes : List Node) (s : Held) (ins : ℕ → ℕ → ℕ) → Trace → Type 0
ShowsPorts m nodes s ins run' =
    (k q : ℕ) → q < 30 → run' k (name_of (port_at q)) ≡ cond (is_input (port_at q)) (ins k q) (out_value m nodes (held_at m nodes s ins k) (ins k) q)
