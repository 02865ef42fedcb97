-- The meaning of one cycle of a module: values of forward wires and outputs, and what registers and arrays hold
-- after it. All registers and arrays change at once, from the values before (IEEE 1364-2005, 9.2.2).
use Rattle.std.specs.Prelude.{◌≡◌, ℕ, zero, suc, ◌^◌, ◌<◌, cond, eqb, true, List, length, set, All, Option, Some, None}
use Rattle.core_words.specs.Values.{choose}
use Rattle.core_ports.specs.Ports.{is_input}
use Rattle.core_ports.specs.Ports as ports
use Rattle.hw_pool.specs.declared.node.Node.{Node}
use Rattle.hw_pool.specs.Trees.{tree_of}
use Rattle.hw_pool.specs.Meaning.{Env, value}
use Rattle.hw_expr.specs.declared.net.Net.{Net}
use Rattle.hw_module.specs.declared.rows.ArrayWrite.{ArrayWrite}
use Rattle.hw_module.specs.Ports.{port_at}
use Rattle.hw_module.specs.Rows.{ModuleValue, wire_at, reg_at, array_at, out_at}

-- what the registers and the arrays hold, by their numbers
pub record Held : Type 0 where
  pub regs : ℕ → ℕ
  pub cells : ℕ → List ℕ

-- held numbers and inputs with values of the forward wires; inputs are numbered as ports
abbrev pub env_of : Held → (ins wires : ℕ → ℕ) → Env
env_of s ins wires = record { inputs = ins; wires = wires; regs = s.regs; cells = s.cells }

-- the value of a driver, 0 where there is none
abbrev pub net_at : Env → List Node → Net → ℕ
net_at env nodes net = value env (tree_of nodes net.id.0)

abbrev pub driven_value : Env → List Node → Option Net → ℕ
driven_value env nodes None = 0
driven_value env nodes (Some net) = net_at env nodes net

module _ (m : ModuleValue) (nodes : List Node) (s : Held) (ins : ℕ → ℕ) where
  -- the value of a forward wire is its driver's, and forward wires are followed to a depth
  unfoldable pub wire_to : (depth : ℕ) → ℕ → ℕ
  wire_to zero w = 0
  wire_to (suc depth) w = driven_value (env_of s ins (wire_to depth)) nodes (wire_at m.wires w).driver

  -- No chain of forward wires is longer than they are many.
  unfoldable pub wire_value : ℕ → ℕ
  wire_value w = wire_to (length m.wires) w

  -- all values of the cycle
  abbrev pub cycle_env : Env
  cycle_env = env_of s ins wire_value

  -- the value of an output port, by its number
  abbrev pub out_value : ℕ → ℕ
  out_value port = driven_value cycle_env nodes (out_at m.outs port)

  -- the value of `reset`
  abbrev pub reset_value : ℕ
  reset_value = ins 1

  -- the next value of a register: that of the reset, if it has one, while `reset` is 1
  abbrev pub next_reg : (reset : Option ℕ) → (next : ℕ) → ℕ
  next_reg None next = next
  next_reg (Some start) next = choose reset_value start next

  -- the next cells of an array
  abbrev pub next_cells : Option ArrayWrite → List ℕ → List ℕ
  next_cells None old = old
  next_cells (Some w) old = cond (eqb (net_at cycle_env nodes w.enable) 1) (set old (net_at cycle_env nodes w.addr) (net_at cycle_env nodes w.value)) old

  unfoldable pub next_held : Held
  next_held = record {
    regs = λ r. next_reg (reg_at m.regs r).reset (driven_value cycle_env nodes (reg_at m.regs r).next);
    cells = λ a. next_cells (array_at m.arrays a).write (s.cells a);
  }

-- held numbers are within the widths, and each array has its cells
pub record IsHeld (m : ModuleValue) (s : Held) : Type 0 where
  pub regs : (r : ℕ) → r < length m.regs → s.regs r < 2 ^ (reg_at m.regs r).width
  pub counts : (a : ℕ) → a < length m.arrays → length (s.cells a) ≡ 2 ^ (array_at m.arrays a).bits
  pub cells : (a : ℕ) → a < length m.arrays → All (λ c. c < 2 ^ (array_at m.arrays a).width) (s.cells a)

-- inputs are within their widths
abbrev pub AreInputs : (ins : ℕ → ℕ) → Type 0
AreInputs ins = (p : ℕ) → p < 30 → is_input (port_at p) ≡ true → ins p < 2 ^ ports.width_of (port_at p)

-- what the registers and arrays of a module hold as a cycle begins, from some contents on the inputs of each cycle
unfoldable pub held_at : (m : ModuleValue) (nodes : List Node) (s : Held) (ins : ℕ → ℕ → ℕ) → ℕ → Held
held_at m nodes s ins zero = s
held_at m nodes s ins (suc k) = next_held m nodes (held_at m nodes s ins k) (ins k)

-- values of the forward wires are within their widths
abbrev pub WiresWithin : ModuleValue → (wires : ℕ → ℕ) → Type 0
WiresWithin m wires = (w : ℕ) → w < length m.wires → wires w < 2 ^ (wire_at m.wires w).width
