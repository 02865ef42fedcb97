-- What a text shows, beside what a module has on the ports of a core.
use Rattle.std.specs.Prelude.{◌≡◌, ℕ, ◌<◌, cond, List}
use Rattle.core_ports.specs.Ports.{is_input}
use Rattle.core_ports.specs.Trace.{Trace}
use Rattle.hw_pool.specs.declared.node.Node.{Node}
use Rattle.hw_module.specs.Ports.{port_at}
use Rattle.hw_module.specs.Rows.{ModuleValue}
use Rattle.hw_module.specs.Cycle.{Held, out_value, held_at}
use Rattle.verilog_mean.specs.Run.{Inputs}
use Rattle.module_netlist.specs.Names.{port_name}
use Rattle.module_netlist.specs.Means.{ins_by}

-- the inputs of a text's run, by the numbers of the ports
abbrev pub numbered : Inputs → ℕ → ℕ → ℕ
numbered ins k = ins_by (ins k)

-- a trace shows on each port, in each cycle, what the module has there: an input, or the value of an output
abbrev pub ShowsModule : (m : ModuleValue) (nodes : List Node) (s : Held) (ins : ℕ → ℕ → ℕ) → Trace → Type 0
ShowsModule m nodes s ins run' =
    (k q : ℕ) → q < 30 → run' k (port_name q) ≡ cond (is_input (port_at q)) (ins k q) (out_value m nodes (held_at m nodes s ins k) (ins k) q)
