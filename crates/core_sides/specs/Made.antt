-- Simulated cycles that are made for a module.
use Rattle.std.specs.Prelude.{ℕ, ◌≤◌, length}
use Rattle.hw_pool.specs.Nodes.{PoolValue}
use Rattle.hw_module.specs.Rows.{ModuleValue}
use Rattle.hw_cycle.specs.State.{CycleValue, IsFor}

-- the cycle is made for the module and for a pool of no more nodes
pub record IsOf (c : CycleValue) (m : ModuleValue) (pool : PoolValue) : Type 0 where
  pub shape : IsFor c m
  pub nodes : length pool.nodes ≤ c.nodes
