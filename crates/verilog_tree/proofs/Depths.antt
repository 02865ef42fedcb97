-- The depth of an expression that code makes.
use Rattle.std.proofs.Common.{◌≡◌, ℕ, suc, max, refl, ap, sym, ◌∙◌, List, [], ◌∷◌}
use Rattle.verilog_tree.specs.declared.expr.BinSign.{BinSign}
use Rattle.verilog_tree.specs.declared.expr.Ident.{Ident}
use Rattle.verilog_tree.specs.declared.expr.Expr.{Expr, Row_of-Expr, end_of-Expr, more_of-Expr, items-the_row-Expr}
use Rattle.verilog_tree.specs.declared.expr.Expr.TheVariants.{Cell, Paren, Not, Join, Binary, Choice}
use Rattle.verilog_tree.specs.declared.expr.Expr.TheBlock.{shape-the_row-Expr-0, hidden-the_row-Expr-0}
use denote.Hole.Carrier.{hidden}
use mathlib.Core.Former.{this, arity}
use Rattle.sqlite_items.specs.formers.items.Items.{the_former}
use Rattle.verilog_tree.specs.Depth.{depth_of, deepest, deepest_of}
use Rattle.verilog_tree.proofs.Made.{made_join}

pub depth-Cell : (i : Ident) (at : ℕ) (e : Expr) → depth_of (Cell i at e) ≡ suc (depth_of e)
unfolding shape-the_row-Expr-0 hidden-the_row-Expr-0 hidden
depth-Cell i at e = refl

pub depth-Paren : (at : ℕ) (e : Expr) → depth_of (Paren at e) ≡ suc (depth_of e)
unfolding shape-the_row-Expr-0 hidden-the_row-Expr-0 hidden
depth-Paren at e = refl

pub depth-Not : (at : ℕ) (e : Expr) → depth_of (Not at e) ≡ suc (depth_of e)
unfolding shape-the_row-Expr-0 hidden-the_row-Expr-0 hidden
depth-Not at e = refl

pub depth-Binary : (op : BinSign) (at : ℕ) (a b : Expr) → depth_of (Binary op at a b) ≡ suc (max (depth_of a) (depth_of b))
unfolding shape-the_row-Expr-0 hidden-the_row-Expr-0 hidden
depth-Binary op at a b = refl

pub depth-Choice : (at at' : ℕ) (a b c : Expr) → depth_of (Choice at at' a b c) ≡ suc (max (depth_of a) (max (depth_of b) (depth_of c)))
unfolding shape-the_row-Expr-0 hidden-the_row-Expr-0 hidden
depth-Choice at at' a b c = refl

record RowOf (es : List Expr) : Type 0 where
  shape : List (Unit {0})
  row : Row_of-Expr (arity (the_former (this {0})) shape)
  items : items-the_row-Expr _ row ≡ es

row_of : (es : List Expr) → RowOf es
row_of [] = record { shape = []; row = end_of-Expr; items = refl }
row_of (e ∷ es) = let r = row_of es in record { shape = tt ∷ r.shape; row = more_of-Expr e r.row; items = ap (λ (l : List Expr). e ∷ l) r.items }

deepest_is : {n : _} (row : Row_of-Expr n) → deepest row ≡ deepest_of (items-the_row-Expr _ row)
deepest_is end_of-Expr = refl
deepest_is (more_of-Expr e row) = ap (max (depth_of e)) (deepest_is row)

pub depth-Join : (at : ℕ) (es : List Expr) → depth_of (Join at es) ≡ suc (deepest_of es)
depth-Join at es =
    let r = row_of es in
    ap (λ (l : List Expr). depth_of (Join at l)) (sym r.items) ∙ ap depth_of (made_join at r.shape r.row) ∙ ap suc (deepest_is r.row ∙ ap deepest_of r.items)

pub ruleset depths = (depth-Cell, depth-Paren, depth-Not, depth-Binary, depth-Choice, depth-Join)
