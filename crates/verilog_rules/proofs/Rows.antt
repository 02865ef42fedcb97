-- Expressions in rows, as a join has them.
use Rattle.std.proofs.Common.{◌≡◌, refl, ap, List, [], ◌∷◌}
use Rattle.verilog_tree.specs.declared.expr.Expr.{Expr, Row_of-Expr, end_of-Expr, more_of-Expr, items-the_row-Expr}
use mathlib.Core.Former.{this, arity}
use Rattle.sqlite_items.specs.formers.items.Items.{the_former}

pub record RowOf (es : List Expr) : Type 0 where
  pub shape : List (Unit {0})
  pub row : Row_of-Expr (arity (the_former (this {0})) shape)
  pub items : items-the_row-Expr _ row ≡ es

pub row_of : (es : List Expr) → RowOf es
row_of [] = record { shape = []; row = end_of-Expr; items = refl }
row_of (e ∷ es) = let r = row_of es in record { shape = tt ∷ r.shape; row = more_of-Expr e r.row; items = ap (λ (l : List Expr). e ∷ l) r.items }
