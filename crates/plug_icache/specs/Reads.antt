-- What is said of a net that was read.
use Rattle.std.specs.Prelude.{◌≡◌, ℕ}
use Rattle.hw_pool.specs.Nodes.{PoolValue}
use Rattle.hw_pool.specs.Meaning.{Env}
use Rattle.hw_pool.specs.Scope.{Scope}
use Rattle.hw_expr.specs.declared.net.Net.{Net}
use Rattle.hw_gates.specs.Places.{Is, IsIn, value_in}

-- a net of this width, of at most this level, and of this value that a scope has
pub record Reads (pool : PoolValue) (s : Scope) (width level : ℕ) (f : Env → ℕ) (net : Net) : Type 0 where
  pub is : Is pool net width level
  pub scope : IsIn s pool net
  pub value : (env : Env) → value_in env pool net ≡ f env
