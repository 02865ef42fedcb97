-- Nets with their functions.
use Rattle.std.specs.Prelude.{◌≡◌, ℕ}
use Rattle.hw_pool.specs.Nodes.{PoolValue}
use Rattle.hw_pool.specs.Meaning.{Env}
use Rattle.hw_pool.specs.Scope.{Scope}
use Rattle.hw_expr.specs.declared.net.Net.{Net}
use Rattle.hw_gates.specs.Places.{Has, Is, IsIn, Step, value_in}

-- a net of this width and at most this level, that takes from outside what a scope has, with this value in each cycle
pub record Bears (s : Scope) (pool : PoolValue) (width level : ℕ) (f : Env → ℕ) (net : Net) : Type 0 where
  pub is : Is pool net width level
  pub takes : IsIn s pool net
  pub value_is : (env : Env) → value_in env pool net ≡ f env

-- Behind more nodes: what a scope had is in another one.
pub record Later (s : Scope) (old : PoolValue) (t : Scope) (new : PoolValue) : Type 0 where
  pub many : ℕ
  pub step : Step old new many
  pub scope : (net : Net) → Has old net → IsIn s old net → IsIn t new net
