-- Simulated cycles whose registers and cells may be set.
use Rattle.std.specs.Prelude.{◌≡◌, ℕ, ◌^◌, ◌<◌, ◌≤◌, length}
use Rattle.hw_pool.specs.Nodes.{PoolValue}
use Rattle.hw_module.specs.Rows.{ModuleValue, array_at}
use Rattle.hw_cycle.specs.State.{CycleValue, IsFor, cells_at}

-- the cycle is made for the module and for a pool of no more nodes
pub record IsOf (c : CycleValue) (m : ModuleValue) (pool : PoolValue) : Type 0 where
  pub shape : IsFor c m
  pub nodes : length pool.nodes ≤ c.nodes

-- each array has its cells
pub record HasCells (c : CycleValue) (m : ModuleValue) : Type 0 where
  pub counts : (a : ℕ) → a < length m.arrays → length (cells_at c.cells a) ≡ 2 ^ (array_at m.arrays a).bits
