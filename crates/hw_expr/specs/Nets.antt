-- Nets: the live nodes of a pool whose widths fit.
use Rattle.std.specs.Prelude.{◌≡◌, ℕ, ◌<◌, ◌≤◌, length}
use Rattle.hw_pool.specs.Nodes.{PoolValue, node_at}
use Rattle.hw_pool.specs.Trees.{tree_of, width_of}
use Rattle.hw_pool.specs.Meaning.{Env, value, Fits}
use Rattle.hw_pool.specs.Scope.{Scope, Takes}
use Rattle.hw_expr.specs.declared.net.Net.{Net}

-- A net names a live node of its width and its level, and the widths in the node's tree fit.
pub record IsNet (pool : PoolValue) (net : Net) : Type 0 where
  pub live : net.id.0 < length pool.nodes
  pub node_width : (node_at pool.nodes net.id.0).width ≡ net.width
  pub level : (node_at pool.nodes net.id.0).level ≡ net.level
  pub width : width_of (tree_of pool.nodes net.id.0) ≡ net.width
  pub least : 1 ≤ net.width
  pub most : net.width ≤ 64
  pub fits : Fits (tree_of pool.nodes net.id.0)

-- the value of a net's tree, for values of the inputs, forward wires, registers and arrays
unfoldable pub net_value : Env → PoolValue → Net → ℕ
net_value env pool net = value env (tree_of pool.nodes net.id.0)

-- a net takes from outside only what a scope has, and no forward wire above its level
pub record InScope (s : Scope) (pool : PoolValue) (net : Net) : Type 0 where
  pub is : IsNet pool net
  pub takes : Takes s net.level (tree_of pool.nodes net.id.0)
