-- The run of a module, cycle by cycle.
use Rattle.std.specs.Prelude.{ℕ, List}
use Rattle.hw_pool.specs.declared.node.Node.{Node}
use Rattle.hw_pool.specs.Meaning.{Env}
use Rattle.hw_module.specs.Rows.{ModuleValue}
use Rattle.hw_module.specs.Cycle.{Held, held_at, cycle_env}

-- all values of each cycle, from some contents on the inputs of each cycle
abbrev pub run_of : (m : ModuleValue) (nodes : List Node) (s : Held) (ins : ℕ → ℕ → ℕ) → ℕ → Env
run_of m nodes s ins k = cycle_env m nodes (held_at m nodes s ins k) (ins k)
