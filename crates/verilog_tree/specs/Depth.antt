-- How deep an expression is: 1 for a literal, a name and a selection of bits.
-- Every other form, parentheses included, is one deeper than its deepest part; the name of a cell is no part.
use Rattle.std.specs.Prelude.{ℕ, suc, max, List, [], ◌∷◌}
use Rattle.verilog_tree.specs.declared.expr.Expr.{Expr, Literal, Named, Select, Cell', Paren', Not', Join', Binary', Choice', Row_of-Expr, end_of-Expr, more_of-Expr}

abbrev mutual
  pub depth_of : Expr → ℕ
  depth_of (Literal l) = 1
  depth_of (Named i) = 1
  depth_of (Select i bits) = 1
  depth_of (Cell' i at s (more_of-Expr index end_of-Expr)) = suc (depth_of index)
  depth_of (Paren' at s (more_of-Expr inner end_of-Expr)) = suc (depth_of inner)
  depth_of (Not' at s (more_of-Expr inner end_of-Expr)) = suc (depth_of inner)
  depth_of (Join' at s parts) = suc (deepest parts)
  depth_of (Binary' op at s (more_of-Expr left end_of-Expr) s' (more_of-Expr right end_of-Expr)) = suc (max (depth_of left) (depth_of right))
  depth_of (Choice' at at' s (more_of-Expr test end_of-Expr) s' (more_of-Expr first end_of-Expr) s'' (more_of-Expr second end_of-Expr)) =
      suc (max (depth_of test) (max (depth_of first) (depth_of second)))

  -- the depth of the deepest part of a join
  pub deepest : {n : _} → Row_of-Expr n → ℕ
  deepest end_of-Expr = 0
  deepest (more_of-Expr e rest) = max (depth_of e) (deepest rest)

-- the depth of the deepest of some expressions
abbrev pub deepest_of : List Expr → ℕ
deepest_of [] = 0
deepest_of (e ∷ es) = max (depth_of e) (deepest_of es)
