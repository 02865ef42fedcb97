-- A module under construction with the nets that were made for it.
use Rattle.std.specs.Prelude.{ℕ, ◌<◌, List, length}
use Rattle.hw_pool.specs.Nodes.{PoolValue}
use Rattle.hw_expr.specs.declared.net.Net.{Net}
use Rattle.hw_expr.specs.Lists.{net_at}
use Rattle.hw_expr.specs.Nets.{InScope}
use Rattle.hw_module.specs.Checked.{DriversFit}
use Rattle.hw_module.specs.Rows.{ModuleValue}
use Rattle.hw_module.specs.Scope.{scope_of}

-- each net takes from outside only what the module has
abbrev pub AreIn : ModuleValue → PoolValue → List Net → Type 0
AreIn m pool nets = (k : ℕ) → k < length nets → InScope (scope_of m) pool (net_at nets k)

-- the same, and each driver fits
pub record IsDraft (m : ModuleValue) (pool : PoolValue) (list : List Net) : Type 0 where
  pub nets : AreIn m pool list
  pub drivers : DriversFit m pool
