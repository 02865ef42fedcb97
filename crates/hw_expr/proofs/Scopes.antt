-- Nets in a scope.
use Rattle.std.proofs.Common.{◌≡◌, ℕ, ◌≤◌, sym, subst}
use Rattle.hw_pool.specs.Nodes.{PoolValue}
use Rattle.hw_pool.specs.Trees.{Tree, tree_of}
use Rattle.hw_pool.specs.Scope.{Scope, Takes}
use Rattle.hw_pool.specs.Frame.{Adds}
use Rattle.hw_pool.proofs.Scopes.{takes_higher}
use Rattle.hw_expr.specs.declared.net.Net.{Net}
use Rattle.hw_expr.specs.Nets.{IsNet, InScope}
use Rattle.hw_expr.proofs.Nets.{still_net}

-- a net in a scope stays in it while nodes are added
pub still_scope : (s : Scope) (old new : PoolValue) (n : ℕ) (net : Net) → Adds old new n → InScope s old net → InScope s new net
still_scope s old new n net adds h = record {
  is = still_net old new n net adds h.is;
  takes = subst (Takes s net.level) (sym (adds.trees net.id.0 h.is.live)) h.takes;
}

-- the net of a tree in a scope
pub tree_scope : (s : Scope) (pool : PoolValue) (net : Net) (t : Tree) → IsNet pool net → tree_of pool.nodes net.id.0 ≡ t → Takes s net.level t → InScope s pool net
tree_scope s pool net t is tree h = record {
  is = is;
  takes = subst (Takes s net.level) (sym tree) h;
}

-- what a net takes, at a higher level
pub takes_at : (s : Scope) (pool : PoolValue) (net : Net) (level : ℕ) → InScope s pool net → net.level ≤ level → Takes s level (tree_of pool.nodes net.id.0)
takes_at s pool net level h le = takes_higher s net.level level le (tree_of pool.nodes net.id.0) h.takes
