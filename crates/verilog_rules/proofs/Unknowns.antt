-- The third rule at each form of an expression that code makes.
use Rattle.std.proofs.Common.{◌≡◌, ℕ, List, [], ◌++◌, Option, Some, None, ◌∙◌, sym, refl, ap}
use Rattle.verilog_tree.specs.declared.expr.BinSign.{BinSign}
use Rattle.verilog_tree.specs.declared.expr.Ident.{Ident}
use Rattle.verilog_tree.specs.declared.expr.Lit.{Lit}
use Rattle.verilog_tree.specs.declared.expr.Pair.{Pair}
use Rattle.verilog_tree.specs.declared.expr.Expr.{Expr, Row_of-Expr, end_of-Expr, more_of-Expr, items-the_row-Expr}
use Rattle.verilog_tree.specs.declared.expr.Expr.TheVariants.{Literal, Named, Select, Cell, Paren, Not, Join, Binary, Choice}
use Rattle.verilog_tree.specs.declared.tree.Driver.{Driver}
use Rattle.verilog_tree.specs.declared.tree.Stmt as tree_stmt
use Rattle.verilog_tree.specs.declared.tree.Stmt.TheVariants as stmt
use Rattle.verilog_tree.specs.declared.tree.Item.TheVariants as item
use Rattle.verilog_tree.proofs.Made.{made_cell, made_paren, made_not, made_binary, made_choice, made_join}
use Rattle.verilog_mean.specs.Names.{unknown_in, unknown_in_parts, unknown_name}
use Rattle.verilog_rules.specs.Shut.{unknown_names, unknown_by_stmt, unknown_by_item}
use Rattle.verilog_rules.specs.First.{in_each}
use Rattle.verilog_rules.proofs.Rows.{row_of}

pub unknown-Literal : (known : List (List ℕ)) (l : Lit) → unknown_names known (Literal l) ≡ []
unfolding unknown_names
unknown-Literal known l = refl

pub unknown-Named : (known : List (List ℕ)) (i : Ident) → unknown_names known (Named i) ≡ unknown_name known i []
unfolding unknown_names
unknown-Named known i = refl

pub unknown-Select : (known : List (List ℕ)) (i : Ident) (bits : Pair) → unknown_names known (Select i bits) ≡ unknown_name known i []
unfolding unknown_names
unknown-Select known i bits = refl

pub unknown-Cell : (known : List (List ℕ)) (i : Ident) (at : ℕ) (e : Expr) → unknown_names known (Cell i at e) ≡ unknown_name known i (unknown_names known e)
unfolding unknown_names
unknown-Cell known i at e = ap (unknown_in known) (made_cell i at tt e)

pub unknown-Paren : (known : List (List ℕ)) (at : ℕ) (e : Expr) → unknown_names known (Paren at e) ≡ unknown_names known e
unfolding unknown_names
unknown-Paren known at e = ap (unknown_in known) (made_paren at tt e)

pub unknown-Not : (known : List (List ℕ)) (at : ℕ) (e : Expr) → unknown_names known (Not at e) ≡ unknown_names known e
unfolding unknown_names
unknown-Not known at e = ap (unknown_in known) (made_not at tt e)

pub unknown-Binary : (known : List (List ℕ)) (op : BinSign) (at : ℕ) (a b : Expr) → unknown_names known (Binary op at a b) ≡ unknown_names known a ++ unknown_names known b
unfolding unknown_names
unknown-Binary known op at a b = ap (unknown_in known) (made_binary op at tt tt a b)

pub unknown-Choice : (known : List (List ℕ)) (at at' : ℕ) (a b c : Expr)
    → unknown_names known (Choice at at' a b c) ≡ unknown_names known a ++ (unknown_names known b ++ unknown_names known c)
unfolding unknown_names
unknown-Choice known at at' a b c = ap (unknown_in known) (made_choice at at' tt tt tt a b c)

unknown_row : (known : List (List ℕ)) {n : _} (row : Row_of-Expr n) → unknown_in_parts known row ≡ in_each (unknown_names known) (items-the_row-Expr _ row)
unfolding unknown_names
unknown_row known end_of-Expr = refl
unknown_row known (more_of-Expr e row) = ap (λ rs. unknown_in known e ++ rs) (unknown_row known row)

pub unknown-Join : (known : List (List ℕ)) (at : ℕ) (es : List Expr) → unknown_names known (Join at es) ≡ in_each (unknown_names known) es
unfolding unknown_names
unknown-Join known at es =
    let r = row_of es in
    ap (λ (l : List Expr). unknown_in known (Join at l)) (sym r.items) ∙ ap (unknown_in known) (made_join at r.shape r.row) ∙ unknown_row known r.row
    ∙ ap (in_each (unknown_in known)) r.items

pub ruleset unknowns = (unknown-Literal, unknown-Named, unknown-Select, unknown-Cell, unknown-Paren, unknown-Not, unknown-Binary, unknown-Choice, unknown-Join)

-- ---- statements and items

pub unknown-Next : (known : List (List ℕ)) (target : Ident) (d : Driver) → unknown_by_stmt known (stmt.Next target d) ≡ unknown_name known target (unknown_names known d.value)
unfolding unknown_names unknown_by_stmt
unknown-Next known target d = refl

pub unknown-Reset : (known : List (List ℕ)) (at : ℕ) (first : Ident) (sign : ℕ) (start : Lit) (target : Ident) (d : Driver)
    → unknown_by_stmt known (stmt.Reset at first sign start target d) ≡ unknown_name known first (unknown_name known target (unknown_names known d.value))
unfolding unknown_names unknown_by_stmt
unknown-Reset known at first sign start target d = refl

pub unknown-Write : (known : List (List ℕ)) (at paren : ℕ) (enable : Expr) (target : Ident) (bracket : ℕ) (index : Expr) (d : Driver)
    → unknown_by_stmt known (stmt.Write at paren enable target bracket index d)
    ≡ unknown_names known enable ++ unknown_name known target (unknown_names known index ++ unknown_names known d.value)
unfolding unknown_names unknown_by_stmt
unknown-Write known at paren enable target bracket index d = refl

pub unknown-Wire : (known : List (List ℕ)) (at : ℕ) (range : Option Pair) (name : Ident) (d : Driver)
    → unknown_by_item known (item.Wire at range name (Some d)) ≡ unknown_names known d.value
unfolding unknown_names unknown_by_item
unknown-Wire known at range name d = refl

pub unknown-open : (known : List (List ℕ)) (at : ℕ) (range : Option Pair) (name : Ident) → unknown_by_item known (item.Wire at range name None) ≡ []
unfolding unknown_by_item
unknown-open known at range name = refl

pub unknown-Reg : (known : List (List ℕ)) (at : ℕ) (range : Option Pair) (name : Ident) (cells : Option Pair) → unknown_by_item known (item.Reg at range name cells) ≡ []
unfolding unknown_by_item
unknown-Reg known at range name cells = refl

pub unknown-Assign : (known : List (List ℕ)) (at : ℕ) (target : Ident) (d : Driver)
    → unknown_by_item known (item.Assign at target d) ≡ unknown_name known target (unknown_names known d.value)
unfolding unknown_names unknown_by_item
unknown-Assign known at target d = refl

pub unknown-Always : (known : List (List ℕ)) (at : ℕ) (s : tree_stmt.Stmt) → unknown_by_item known (item.Always at s) ≡ unknown_by_stmt known s
unfolding unknown_by_item unknown_by_stmt
unknown-Always known at s = refl

pub ruleset unknown_items = (unknown-Next, unknown-Reset, unknown-Write, unknown-Wire, unknown-open, unknown-Reg, unknown-Assign, unknown-Always)
