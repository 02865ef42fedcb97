-- Nets of a module, and cycles that are made for it.
use Rattle.std.specs.Prelude.{◌≡◌, ℕ, ◌<◌, ◌≤◌, List, length}
use Rattle.hw_pool.specs.Nodes.{PoolValue}
use Rattle.hw_expr.specs.declared.net.Net.{Net}
use Rattle.hw_expr.specs.Lists.{net_at}
use Rattle.hw_expr.specs.Nets.{InScope}
use Rattle.hw_module.specs.Rows.{ModuleValue}
use Rattle.hw_module.specs.Scope.{scope_of}
use Rattle.hw_module.specs.Checked.{DriversFit}
use Rattle.hw_cycle.specs.State.{CycleValue, IsFor}

-- each net takes from outside only what the module has
abbrev pub AreIn : ModuleValue → PoolValue → List Net → Type 0
AreIn m pool nets = (k : ℕ) → k < length nets → InScope (scope_of m) pool (net_at nets k)

-- what is kept while the test adds its things: each driver fits, and nets that were in the module still are
pub record Keeps (m : ModuleValue) (p : PoolValue) (m' : ModuleValue) (p' : PoolValue) : Type 0 where
  pub drivers : DriversFit m' p'
  pub nets : (net : Net) → InScope (scope_of m) p net → InScope (scope_of m') p' net
  pub wires : length m'.wires ≡ length m.wires

-- the cycle is made for the module and for a pool of no more nodes
pub record IsOf (c : CycleValue) (m : ModuleValue) (p : PoolValue) : Type 0 where
  pub shape : IsFor c m
  pub nodes : length p.nodes ≤ c.nodes

-- what a contract sees of a bench
pub record BenchValue : Type 0 where
  pub pool : PoolValue
  pub circuit : ModuleValue
  pub cycle : CycleValue
  -- the inputs and outputs of the core, in the order of the ports
  pub ins : List ℕ
  pub outs : List ℕ
