-- Nets with their functions.
use Rattle.std.specs.Prelude.{◌≡◌, ℕ, ◌≤◌}
use Rattle.hw_pool.specs.Nodes.{PoolValue}
use Rattle.hw_pool.specs.Meaning.{Env}
use Rattle.hw_pool.specs.Scope.{Scope}
use Rattle.hw_expr.specs.declared.net.Net.{Net}
use Rattle.hw_expr.specs.Nets.{InScope, net_value}
use Rattle.hw_module.specs.Rows.{ModuleValue}
use Rattle.hw_module.specs.Scope.{scope_of}
use Rattle.plug_kit.specs.Bounds.{IsBounded}

-- A net that fits the module, of this width, at most of this level, with this value wherever all that stands in a scope is
-- within its widths.
pub record Carries (s : Scope) (d : ModuleValue) (pool : PoolValue) (width most : ℕ) (f : Env → ℕ) (net : Net) : Type 0 where
  pub scope : InScope (scope_of d) pool net
  pub wide : net.width ≡ width
  pub level : net.level ≤ most
  pub value_is : (env : Env) → IsBounded s env → net_value env pool net ≡ f env
