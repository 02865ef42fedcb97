-- Lists of nets to choose from, and numbers with one bit.
use Rattle.std.specs.Prelude.{◌≡◌, ℕ, ◌<◌, ◌^◌, cond, ltb, max, List, [], ◌∷◌, length, get_or}
use Rattle.hw_pool.specs.Nodes.{PoolValue}
use Rattle.hw_expr.specs.declared.net.Net.{Net}
use Rattle.hw_expr.specs.Nets.{IsNet}

-- the net at a place
abbrev pub net_at : List Net → ℕ → Net
net_at list k = get_or list k (record { id = record { 0 = 0 }; width = 1; level = 0 })

-- each of the list is a net of this width
pub record AreNets (pool : PoolValue) (wide : ℕ) (list : List Net) : Type 0 where
  pub nets : (k : ℕ) → k < length list → IsNet pool (net_at list k)
  pub widths : (k : ℕ) → k < length list → (net_at list k).width ≡ wide

-- the greatest level in a list
abbrev pub greatest : List Net → ℕ
greatest [] = 0
greatest (net ∷ nets) = max net.level (greatest nets)

-- bit v alone, where v is below n, else no bit
abbrev pub hot_of : (n v : ℕ) → ℕ
hot_of n v = cond (ltb v n) (2 ^ v) 0
