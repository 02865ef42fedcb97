-- The fifth rule at each form of an expression that code makes.
use Rattle.std.proofs.Common.{◌≡◌, ℕ, List, [], ◌++◌, Option, Some, None, ◌∙◌, sym, refl, ap}
use Rattle.verilog_tree.specs.declared.expr.BinSign.{BinSign}
use Rattle.verilog_tree.specs.declared.expr.Ident.{Ident}
use Rattle.verilog_tree.specs.declared.expr.Lit.{Lit}
use Rattle.verilog_tree.specs.declared.expr.Pair.{Pair}
use Rattle.verilog_tree.specs.declared.expr.Expr.{Expr, Row_of-Expr, end_of-Expr, more_of-Expr, items-the_row-Expr}
use Rattle.verilog_tree.specs.declared.expr.Expr.TheVariants.{Literal, Named, Select, Cell, Paren, Not, Join, Binary, Choice}
use Rattle.verilog_tree.specs.declared.tree.Driver.{Driver}
use Rattle.verilog_tree.specs.declared.tree.Stmt as tree_stmt
use Rattle.verilog_tree.specs.declared.tree.Stmt.TheVariants as stmt
use Rattle.verilog_tree.specs.declared.tree.Item.TheVariants as item
use Rattle.verilog_tree.proofs.Made.{made_cell, made_paren, made_not, made_binary, made_choice, made_join}
use Rattle.verilog_mean.specs.Widths.{selects_in, selects_in_parts, select_outside}
use Rattle.verilog_mean.specs.Declarations.{Declaration}
use Rattle.verilog_rules.specs.Shut.{select_refusals, selects_by_stmt, selects_by_item}
use Rattle.verilog_rules.specs.First.{in_each}
use Rattle.verilog_rules.proofs.Rows.{row_of}

pub selects-Literal : (ds : List Declaration) (l : Lit) → select_refusals ds (Literal l) ≡ []
unfolding select_refusals
selects-Literal ds l = refl

pub selects-Named : (ds : List Declaration) (i : Ident) → select_refusals ds (Named i) ≡ []
unfolding select_refusals
selects-Named ds i = refl

pub selects-Select : (ds : List Declaration) (i : Ident) (bits : Pair) → select_refusals ds (Select i bits) ≡ select_outside ds i bits
unfolding select_refusals
selects-Select ds i bits = refl

pub selects-Cell : (ds : List Declaration) (i : Ident) (at : ℕ) (e : Expr) → select_refusals ds (Cell i at e) ≡ select_refusals ds e
unfolding select_refusals
selects-Cell ds i at e = ap (selects_in ds) (made_cell i at tt e)

pub selects-Paren : (ds : List Declaration) (at : ℕ) (e : Expr) → select_refusals ds (Paren at e) ≡ select_refusals ds e
unfolding select_refusals
selects-Paren ds at e = ap (selects_in ds) (made_paren at tt e)

pub selects-Not : (ds : List Declaration) (at : ℕ) (e : Expr) → select_refusals ds (Not at e) ≡ select_refusals ds e
unfolding select_refusals
selects-Not ds at e = ap (selects_in ds) (made_not at tt e)

pub selects-Binary : (ds : List Declaration) (op : BinSign) (at : ℕ) (a b : Expr) → select_refusals ds (Binary op at a b) ≡ select_refusals ds a ++ select_refusals ds b
unfolding select_refusals
selects-Binary ds op at a b = ap (selects_in ds) (made_binary op at tt tt a b)

pub selects-Choice : (ds : List Declaration) (at at' : ℕ) (a b c : Expr)
    → select_refusals ds (Choice at at' a b c) ≡ select_refusals ds a ++ (select_refusals ds b ++ select_refusals ds c)
unfolding select_refusals
selects-Choice ds at at' a b c = ap (selects_in ds) (made_choice at at' tt tt tt a b c)

selects_row : (ds : List Declaration) {n : _} (row : Row_of-Expr n) → selects_in_parts ds row ≡ in_each (select_refusals ds) (items-the_row-Expr _ row)
unfolding select_refusals
selects_row ds end_of-Expr = refl
selects_row ds (more_of-Expr e row) = ap (λ rs. selects_in ds e ++ rs) (selects_row ds row)

pub selects-Join : (ds : List Declaration) (at : ℕ) (es : List Expr) → select_refusals ds (Join at es) ≡ in_each (select_refusals ds) es
unfolding select_refusals
selects-Join ds at es =
    let r = row_of es in
    ap (λ (l : List Expr). selects_in ds (Join at l)) (sym r.items) ∙ ap (selects_in ds) (made_join at r.shape r.row) ∙ selects_row ds r.row
    ∙ ap (in_each (selects_in ds)) r.items

pub ruleset selects = (selects-Literal, selects-Named, selects-Select, selects-Cell, selects-Paren, selects-Not, selects-Binary, selects-Choice, selects-Join)

-- ---- statements and items

pub selects-Next : (ds : List Declaration) (target : Ident) (d : Driver) → selects_by_stmt ds (stmt.Next target d) ≡ select_refusals ds d.value
unfolding select_refusals selects_by_stmt
selects-Next ds target d = refl

pub selects-Reset : (ds : List Declaration) (at : ℕ) (first : Ident) (sign : ℕ) (start : Lit) (target : Ident) (d : Driver)
    → selects_by_stmt ds (stmt.Reset at first sign start target d) ≡ select_refusals ds d.value
unfolding select_refusals selects_by_stmt
selects-Reset ds at first sign start target d = refl

pub selects-Write : (ds : List Declaration) (at paren : ℕ) (enable : Expr) (target : Ident) (bracket : ℕ) (index : Expr) (d : Driver)
    → selects_by_stmt ds (stmt.Write at paren enable target bracket index d)
    ≡ select_refusals ds enable ++ (select_refusals ds index ++ select_refusals ds d.value)
unfolding select_refusals selects_by_stmt
selects-Write ds at paren enable target bracket index d = refl

pub selects-Wire : (ds : List Declaration) (at : ℕ) (range : Option Pair) (name : Ident) (d : Driver)
    → selects_by_item ds (item.Wire at range name (Some d)) ≡ select_refusals ds d.value
unfolding select_refusals selects_by_item
selects-Wire ds at range name d = refl

pub selects-open : (ds : List Declaration) (at : ℕ) (range : Option Pair) (name : Ident) → selects_by_item ds (item.Wire at range name None) ≡ []
unfolding selects_by_item
selects-open ds at range name = refl

pub selects-Reg : (ds : List Declaration) (at : ℕ) (range : Option Pair) (name : Ident) (cells : Option Pair) → selects_by_item ds (item.Reg at range name cells) ≡ []
unfolding selects_by_item
selects-Reg ds at range name cells = refl

pub selects-Assign : (ds : List Declaration) (at : ℕ) (target : Ident) (d : Driver)
    → selects_by_item ds (item.Assign at target d) ≡ select_refusals ds d.value
unfolding select_refusals selects_by_item
selects-Assign ds at target d = refl

pub selects-Always : (ds : List Declaration) (at : ℕ) (s : tree_stmt.Stmt) → selects_by_item ds (item.Always at s) ≡ selects_by_stmt ds s
unfolding selects_by_item selects_by_stmt
selects-Always ds at s = refl

pub ruleset select_items = (selects-Next, selects-Reset, selects-Write, selects-Wire, selects-open, selects-Reg, selects-Assign, selects-Always)
