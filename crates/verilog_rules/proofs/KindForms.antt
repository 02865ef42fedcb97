-- The fourth rule at each form of an expression that code makes.
use Rattle.std.proofs.Common.{◌≡◌, ℕ, List, [], ◌++◌, Option, Some, None, ◌∙◌, sym, refl, ap}
use Rattle.verilog_tree.specs.declared.expr.BinSign.{BinSign}
use Rattle.verilog_tree.specs.declared.expr.Ident.{Ident}
use Rattle.verilog_tree.specs.declared.expr.Lit.{Lit}
use Rattle.verilog_tree.specs.declared.expr.Pair.{Pair}
use Rattle.verilog_tree.specs.declared.expr.Expr.{Expr, Row_of-Expr, end_of-Expr, more_of-Expr, items-the_row-Expr}
use Rattle.verilog_tree.specs.declared.expr.Expr.TheVariants.{Literal, Named, Select, Cell, Paren, Not, Join, Binary, Choice}
use Rattle.verilog_tree.specs.declared.tree.Driver.{Driver}
use Rattle.verilog_tree.specs.declared.tree.Stmt as tree_stmt
use Rattle.verilog_tree.specs.declared.tree.Stmt.TheVariants as stmt
use Rattle.verilog_tree.specs.declared.tree.Item.TheVariants as item
use Rattle.verilog_tree.proofs.Made.{made_cell, made_paren, made_not, made_binary, made_choice, made_join}
use Rattle.verilog_mean.specs.Kinds.{kinds_in, kinds_in_parts, unless}
use Rattle.verilog_rules.specs.declared.kinds.Use.TheVariants.{Read, Selected, Indexed, Stored, Assigned}
use Rattle.verilog_mean.specs.Declarations.{Declaration}
use Rattle.verilog_rules.specs.Uses.{named_use, target_use, may_reset}
use Rattle.verilog_rules.specs.Shut.{kind_refusals, kinds_by_stmt, kinds_by_item}
use Rattle.verilog_rules.specs.First.{in_each}
use Rattle.verilog_rules.proofs.Rows.{row_of}

pub kinds-Literal : (ds : List Declaration) (l : Lit) → kind_refusals ds (Literal l) ≡ []
unfolding kind_refusals
kinds-Literal ds l = refl

pub kinds-Named : (ds : List Declaration) (i : Ident) → kind_refusals ds (Named i) ≡ unless ds (named_use ds Read i) i []
unfolding kind_refusals
kinds-Named ds i = refl

pub kinds-Select : (ds : List Declaration) (i : Ident) (bits : Pair) → kind_refusals ds (Select i bits) ≡ unless ds (named_use ds Selected i) i []
unfolding kind_refusals
kinds-Select ds i bits = refl

pub kinds-Cell : (ds : List Declaration) (i : Ident) (at : ℕ) (e : Expr) → kind_refusals ds (Cell i at e) ≡ unless ds (named_use ds Indexed i) i (kind_refusals ds e)
unfolding kind_refusals
kinds-Cell ds i at e = ap (kinds_in ds) (made_cell i at tt e)

pub kinds-Paren : (ds : List Declaration) (at : ℕ) (e : Expr) → kind_refusals ds (Paren at e) ≡ kind_refusals ds e
unfolding kind_refusals
kinds-Paren ds at e = ap (kinds_in ds) (made_paren at tt e)

pub kinds-Not : (ds : List Declaration) (at : ℕ) (e : Expr) → kind_refusals ds (Not at e) ≡ kind_refusals ds e
unfolding kind_refusals
kinds-Not ds at e = ap (kinds_in ds) (made_not at tt e)

pub kinds-Binary : (ds : List Declaration) (op : BinSign) (at : ℕ) (a b : Expr) → kind_refusals ds (Binary op at a b) ≡ kind_refusals ds a ++ kind_refusals ds b
unfolding kind_refusals
kinds-Binary ds op at a b = ap (kinds_in ds) (made_binary op at tt tt a b)

pub kinds-Choice : (ds : List Declaration) (at at' : ℕ) (a b c : Expr)
    → kind_refusals ds (Choice at at' a b c) ≡ kind_refusals ds a ++ (kind_refusals ds b ++ kind_refusals ds c)
unfolding kind_refusals
kinds-Choice ds at at' a b c = ap (kinds_in ds) (made_choice at at' tt tt tt a b c)

kinds_row : (ds : List Declaration) {n : _} (row : Row_of-Expr n) → kinds_in_parts ds row ≡ in_each (kind_refusals ds) (items-the_row-Expr _ row)
unfolding kind_refusals
kinds_row ds end_of-Expr = refl
kinds_row ds (more_of-Expr e row) = ap (λ rs. kinds_in ds e ++ rs) (kinds_row ds row)

pub kinds-Join : (ds : List Declaration) (at : ℕ) (es : List Expr) → kind_refusals ds (Join at es) ≡ in_each (kind_refusals ds) es
unfolding kind_refusals
kinds-Join ds at es =
    let r = row_of es in
    ap (λ (l : List Expr). kinds_in ds (Join at l)) (sym r.items) ∙ ap (kinds_in ds) (made_join at r.shape r.row) ∙ kinds_row ds r.row
    ∙ ap (in_each (kinds_in ds)) r.items

pub ruleset kinds = (kinds-Literal, kinds-Named, kinds-Select, kinds-Cell, kinds-Paren, kinds-Not, kinds-Binary, kinds-Choice, kinds-Join)

-- ---- statements and items

pub kinds-Next : (ds : List Declaration) (target : Ident) (d : Driver) → kinds_by_stmt ds (stmt.Next target d) ≡ unless ds (target_use ds Stored target) target (kind_refusals ds d.value)
unfolding kind_refusals kinds_by_stmt
kinds-Next ds target d = refl

pub kinds-Reset : (ds : List Declaration) (at : ℕ) (first : Ident) (sign : ℕ) (start : Lit) (target : Ident) (d : Driver)
    → kinds_by_stmt ds (stmt.Reset at first sign start target d) ≡ unless ds (target_use ds Stored first) first (unless ds (may_reset ds first target) target (kind_refusals ds d.value))
unfolding kind_refusals kinds_by_stmt may_reset
kinds-Reset ds at first sign start target d = refl

pub kinds-Write : (ds : List Declaration) (at paren : ℕ) (enable : Expr) (target : Ident) (bracket : ℕ) (index : Expr) (d : Driver)
    → kinds_by_stmt ds (stmt.Write at paren enable target bracket index d)
    ≡ kind_refusals ds enable ++ unless ds (target_use ds Indexed target) target (kind_refusals ds index ++ kind_refusals ds d.value)
unfolding kind_refusals kinds_by_stmt
kinds-Write ds at paren enable target bracket index d = refl

pub kinds-Wire : (ds : List Declaration) (at : ℕ) (range : Option Pair) (name : Ident) (d : Driver)
    → kinds_by_item ds (item.Wire at range name (Some d)) ≡ kind_refusals ds d.value
unfolding kind_refusals kinds_by_item
kinds-Wire ds at range name d = refl

pub kinds-open : (ds : List Declaration) (at : ℕ) (range : Option Pair) (name : Ident) → kinds_by_item ds (item.Wire at range name None) ≡ []
unfolding kinds_by_item
kinds-open ds at range name = refl

pub kinds-Reg : (ds : List Declaration) (at : ℕ) (range : Option Pair) (name : Ident) (cells : Option Pair) → kinds_by_item ds (item.Reg at range name cells) ≡ []
unfolding kinds_by_item
kinds-Reg ds at range name cells = refl

pub kinds-Assign : (ds : List Declaration) (at : ℕ) (target : Ident) (d : Driver)
    → kinds_by_item ds (item.Assign at target d) ≡ unless ds (target_use ds Assigned target) target (kind_refusals ds d.value)
unfolding kind_refusals kinds_by_item
kinds-Assign ds at target d = refl

pub kinds-Always : (ds : List Declaration) (at : ℕ) (s : tree_stmt.Stmt) → kinds_by_item ds (item.Always at s) ≡ kinds_by_stmt ds s
unfolding kinds_by_item kinds_by_stmt
kinds-Always ds at s = refl

pub ruleset kind_items = (kinds-Next, kinds-Reset, kinds-Write, kinds-Wire, kinds-open, kinds-Reg, kinds-Assign, kinds-Always)
