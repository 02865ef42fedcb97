-- How many bits stand in an expression: those of its literals and names, one for each operator, and for a selection
-- all bits up to its highest. The width of a part of the expression is no larger.
use Rattle.std.specs.Prelude.{ℕ, ◌+◌, List, [], ◌∷◌, Option, Some, None}
use Rattle.verilog_tree.specs.declared.expr.Expr.{Expr, fold-Expr}
use Rattle.verilog_tree.specs.declared.expr.Expr.TheOpen.{Expr-F}
use Rattle.verilog_tree.specs.declared.expr.Expr.TheOpen.Expr-F.{Literal, Named, Select, Cell, Paren, Not, Join, Binary, Choice}
use Rattle.verilog_tree.specs.declared.tree.Driver.{Driver}
use Rattle.verilog_tree.specs.declared.tree.Stmt as tree_stmt
use Rattle.verilog_tree.specs.declared.tree.Stmt.TheVariants as stmt
use Rattle.verilog_tree.specs.declared.tree.Item as tree_item
use Rattle.verilog_tree.specs.declared.tree.Item.TheVariants as item
use Rattle.verilog_mean.specs.Declarations.{Declaration, width_among}

abbrev pub total : List ℕ → ℕ
total [] = 0
total (n ∷ ns) = n + total ns

-- from the bits of its parts, where w gives the width of each name
abbrev pub bits_of : (w : List ℕ → ℕ) → Expr-F ℕ → ℕ
bits_of w (Literal l) = l.width
bits_of w (Named name) = w name.text
bits_of w (Select name bits) = bits.first.value + 1
bits_of w (Cell name bracket_at index) = w name.text + index
bits_of w (Paren at inner) = inner
bits_of w (Not at inner) = inner
bits_of w (Join at parts) = total parts
bits_of w (Binary sign sign_at left right) = left + right + 1
bits_of w (Choice question_at colon_at test first second) = test + (first + second)

unfoldable pub expr_bits : List Declaration → Expr → ℕ
expr_bits ds e = fold-Expr ℕ (bits_of (width_among ds)) e

abbrev pub driver_bits : List Declaration → Option Driver → ℕ
driver_bits ds None = 0
driver_bits ds (Some d) = expr_bits ds d.value

abbrev pub stmt_bits : List Declaration → tree_stmt.Stmt → ℕ
stmt_bits ds (stmt.Next target d) = expr_bits ds d.value
stmt_bits ds (stmt.Reset at first first_sign_at start target d) = expr_bits ds d.value
stmt_bits ds (stmt.Write at paren_at enable target bracket_at index d) = expr_bits ds enable + (expr_bits ds index + expr_bits ds d.value)

abbrev pub item_bits : List Declaration → tree_item.Item → ℕ
item_bits ds (item.Wire at range name d) = driver_bits ds d
item_bits ds (item.Reg at range name cells) = 0
item_bits ds (item.Assign at target d) = expr_bits ds d.value
item_bits ds (item.Always at s) = stmt_bits ds s
