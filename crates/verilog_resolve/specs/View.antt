-- The plain expression of a tree's expression, as the code goes over it. It is the same as `plain` of verilog_mean.
use Rattle.std.specs.Prelude.{List, [], ◌∷◌}
use Rattle.verilog_tree.specs.declared.expr.Expr.{Expr, fold-Expr}
use Rattle.verilog_tree.specs.declared.expr.Expr.TheOpen.{Expr-F}
use Rattle.verilog_tree.specs.declared.expr.Expr.TheOpen.Expr-F.{Literal, Named, Select, Cell, Paren, Not, Join, Binary, Choice}
use Rattle.verilog_mean.specs.Plain.{Expr as Plain, Exprs}
use Rattle.verilog_mean.specs.Plain.Exprs.{NoPart, Part}

abbrev pub parts_of : List Plain → Exprs
parts_of [] = NoPart
parts_of (e ∷ es) = Part e (parts_of es)

abbrev pub layer_of : Expr-F Plain → Plain
layer_of (Literal l) = Plain.Literal l.width l.value
layer_of (Named name) = Plain.Named name.text
layer_of (Select name bits) = Plain.Select name.text bits.first.value bits.second.value
layer_of (Cell name bracket_at index) = Plain.Cell name.text index
layer_of (Paren at inner) = inner
layer_of (Not at inner) = Plain.Not inner
layer_of (Join at parts) = Plain.Join (parts_of parts)
layer_of (Binary sign sign_at left right) = Plain.Binary sign left right
layer_of (Choice question_at colon_at test first second) = Plain.Choice test first second

unfoldable pub view : Expr → Plain
view e = fold-Expr Plain layer_of e
