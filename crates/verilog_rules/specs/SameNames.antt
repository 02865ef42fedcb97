-- Lists with the same names, in any order and any number.
use Rattle.std.specs.Prelude.{◌≡◌, ℕ, List}
use Rattle.verilog_mean.specs.Names.{is_among}

pub record SameNames (xs ys : List (List ℕ)) : Type 0 where
  pub same : (x : List ℕ) → is_among x xs ≡ is_among x ys
