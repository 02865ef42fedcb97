-- What a module and a pool are to meet before they are written.
use Rattle.std.specs.Prelude.{ℕ, suc, ◌+◌, ◌≤◌, List, [], ◌∷◌, length, Option, Some, None}
use Rattle.hw_pool.specs.Nodes.{PoolValue, IsPool}
use Rattle.hw_expr.specs.declared.net.Net.{Net}
use Rattle.hw_module.specs.Rows.{ModuleValue, IsModule}
use Rattle.hw_module.specs.Checked.{IsChecked}

-- how many outputs have a driver
abbrev pub out_count : List (Option Net) → ℕ
out_count [] = 0
out_count (None ∷ rest) = out_count rest
out_count (Some net ∷ rest) = suc (out_count rest)

-- Nodes of the pool, forward wires, registers, arrays and drivers of them and of outputs. Each of the first three has one.
abbrev pub thing_count : ModuleValue → PoolValue → ℕ
thing_count m pool = length pool.nodes + (length m.wires + length m.regs + length m.arrays) + (length m.wires + length m.regs + length m.arrays) + out_count m.outs

pub record IsWritten (m : ModuleValue) (pool : PoolValue) : Type 0 where
  pub module' : IsModule m
  pub nodes : IsPool pool.nodes
  pub checked : IsChecked m pool
  pub few : thing_count m pool ≤ 65535
