-- Widths that are known to be small.
use Rattle.std.specs.Prelude.{ℕ, ◌≤◌, List}
use Rattle.verilog_mean.specs.Declarations.{Declaration, width_among}

-- no name is wider than 64 bits
pub record IsNarrow (ds : List Declaration) : Type 0 where
  pub narrow : (x : List ℕ) → width_among ds x ≤ 64
