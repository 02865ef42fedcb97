-- Outputs and next numbers, from the values of the nodes.
use Rattle.std.specs.Prelude.{◌≡◌, ℕ, ◌<◌, cond, eqb, List, length, get_or, set, Option, None, Some}
use Rattle.core_words.specs.Values.{choose}
use Rattle.hw_pool.specs.declared.node.Node.{Node}
use Rattle.hw_pool.specs.Trees.{tree_of}
use Rattle.hw_pool.specs.Meaning.{value}
use Rattle.hw_module.specs.declared.rows.ArrayWrite.{ArrayWrite}
use Rattle.hw_module.specs.Rows.{ModuleValue}
use Rattle.hw_module.specs.Cycle.{Held, cycle_env}
use Rattle.hw_module.specs.Reached.{Drives}

-- each driver has its value in the cycle
abbrev pub AreSettled : ModuleValue → List Node → Held → (ins : ℕ → ℕ) → List ℕ → Type 0
AreSettled m nodes s ins values = (k : ℕ) → Drives m k → get_or values k 0 ≡ value (cycle_env m nodes s ins) (tree_of nodes k)

-- the next value of a register, from the value of `reset`
abbrev pub next_in : (reset : ℕ) → (start : Option ℕ) → (next : ℕ) → ℕ
next_in reset None next = next
next_in reset (Some start) next = choose reset start next

-- the cells of an array after its write
abbrev pub written_in : (values : List ℕ) → Option ArrayWrite → List ℕ → List ℕ
written_in values None old = old
written_in values (Some w) old = cond (eqb (get_or values w.enable.id.0 0) 1) (set old (get_or values w.addr.id.0 0) (get_or values w.value.id.0 0)) old

-- a write names nodes and a cell that are there
abbrev pub CanWrite : (values : List ℕ) → Option ArrayWrite → List ℕ → Type 0
CanWrite values None old = Unit {0}
CanWrite values (Some w) old =
    (w.enable.id.0 < length values) × (w.addr.id.0 < length values) × (w.value.id.0 < length values) × (get_or values w.addr.id.0 0 < length old)
