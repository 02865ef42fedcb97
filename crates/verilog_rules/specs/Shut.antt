-- Refusals and widths of an expression, shut, so that proofs go by their equations alone.
use Rattle.std.specs.Prelude.{ℕ, not, eqb, leb, List, []}
use Rattle.verilog_tree.specs.declared.expr.Expr.{Expr}
use Rattle.verilog_tree.specs.declared.tree.Stmt as tree_stmt
use Rattle.verilog_tree.specs.declared.tree.Item as tree_item
use Rattle.verilog_tree.specs.declared.tree.Item.TheVariants as item
use Rattle.verilog_mean.specs.Names.{unknown_in, unknown_in_driver, unknown_in_stmt, unknown_name, Refusals}
use Rattle.verilog_tree.specs.declared.tree.Driver.{Driver}
use Rattle.verilog_mean.specs.declared.refusal.MeanRefusal.TheVariants.{WidthDiffers}
use Rattle.verilog_mean.specs.Look.{put_if}
use Rattle.verilog_mean.specs.Declarations.{Declaration}
use Rattle.verilog_mean.specs.Kinds.{kinds_in, kinds_in_stmt, kinds_in_item}
use Rattle.verilog_mean.specs.Widths.{selects_in, selects_in_stmt, selects_in_item, width, widths_in, widths_at, widths_in_stmt, widths_in_item}

unfoldable pub unknown_names : (known : List (List ℕ)) → Expr → Refusals
unknown_names known e = unknown_in known e

unfoldable pub unknown_by_stmt : (known : List (List ℕ)) → tree_stmt.Stmt → Refusals
unknown_by_stmt known s = unknown_in_stmt known s

-- the names of an item that are not known, where what it declares is known already
unfoldable pub unknown_by_item : (known : List (List ℕ)) → tree_item.Item → Refusals
unknown_by_item known (item.Wire at range name d) = unknown_in_driver known d
unknown_by_item known (item.Reg at range name cells) = []
unknown_by_item known (item.Assign at target d) = unknown_name known target (unknown_in known d.value)
unknown_by_item known (item.Always at s) = unknown_in_stmt known s

unfoldable pub kind_refusals : List Declaration → Expr → Refusals
kind_refusals ds e = kinds_in ds e

unfoldable pub select_refusals : List Declaration → Expr → Refusals
select_refusals ds e = selects_in ds e

unfoldable pub kinds_by_stmt : List Declaration → tree_stmt.Stmt → Refusals
kinds_by_stmt ds s = kinds_in_stmt ds s

unfoldable pub kinds_by_item : List Declaration → tree_item.Item → Refusals
kinds_by_item ds i = kinds_in_item ds i

unfoldable pub selects_by_stmt : List Declaration → tree_stmt.Stmt → Refusals
selects_by_stmt ds s = selects_in_stmt ds s

unfoldable pub selects_by_item : List Declaration → tree_item.Item → Refusals
selects_by_item ds i = selects_in_item ds i

-- two widths that are to be equal
unfoldable pub unequal : (at left right : ℕ) → Refusals
unequal at left right = put_if (not (eqb left right)) (WidthDiffers at left right) []

-- a join of more than 64 bits
unfoldable pub too_wide : (at width : ℕ) → Refusals
too_wide at width = put_if (not (leb width 64)) (WidthDiffers at width 64) []

unfoldable pub expr_width : List Declaration → Expr → ℕ
expr_width ds e = width ds e

unfoldable pub width_refusals : List Declaration → Expr → Refusals
width_refusals ds e = widths_in ds e

unfoldable pub widths_by_driver : List Declaration → (left : ℕ) → Driver → Refusals
widths_by_driver ds left d = widths_at ds left d

unfoldable pub widths_by_stmt : List Declaration → tree_stmt.Stmt → Refusals
widths_by_stmt ds s = widths_in_stmt ds s

unfoldable pub widths_by_item : List Declaration → tree_item.Item → Refusals
widths_by_item ds i = widths_in_item ds i
