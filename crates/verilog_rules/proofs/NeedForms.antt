-- What an expression needs, at each form that code makes.
use Rattle.std.proofs.Common.{◌≡◌, ℕ, List, [], Option, Some, None, ◌∙◌, sym, refl, ap}
use Rattle.verilog_tree.specs.declared.expr.BinSign.{BinSign}
use Rattle.verilog_tree.specs.declared.expr.Ident.{Ident}
use Rattle.verilog_tree.specs.declared.expr.Lit.{Lit}
use Rattle.verilog_tree.specs.declared.expr.Pair.{Pair}
use Rattle.verilog_tree.specs.declared.expr.Expr.{Expr, Row_of-Expr, end_of-Expr, more_of-Expr, items-the_row-Expr}
use Rattle.verilog_tree.specs.declared.expr.Expr.TheVariants.{Literal, Named, Select, Cell, Paren, Not, Join, Binary, Choice}
use Rattle.verilog_tree.specs.declared.tree.Driver.{Driver}
use Rattle.verilog_tree.specs.declared.tree.Item as tree_item
use Rattle.verilog_tree.specs.declared.tree.Item.TheVariants as item
use Rattle.verilog_tree.specs.declared.tree.Stmt.TheVariants as stmt
use Rattle.verilog_tree.proofs.Made.{made_cell, made_paren, made_not, made_binary, made_choice, made_join}
use Rattle.verilog_mean.specs.Erase.{plain, plain_item, plain_parts}
use Rattle.verilog_mean.specs.Order.{drive_of}
use Rattle.verilog_rules.specs.Edges.{needs_after, needs_after_parts, needs_in, needs_in_each, needs_of, driver_of, with_number}
use Rattle.verilog_rules.proofs.Rows.{row_of}

pub needs-Literal : (f : List ℕ → Option ℕ) (ns : List ℕ) (l : Lit) → needs_in f ns (Literal l) ≡ ns
unfolding needs_in
needs-Literal f ns l = refl

pub needs-Named : (f : List ℕ → Option ℕ) (ns : List ℕ) (i : Ident) → needs_in f ns (Named i) ≡ with_number ns (f i.text)
unfolding needs_in
needs-Named f ns i = refl

pub needs-Select : (f : List ℕ → Option ℕ) (ns : List ℕ) (i : Ident) (bits : Pair) → needs_in f ns (Select i bits) ≡ with_number ns (f i.text)
unfolding needs_in
needs-Select f ns i bits = refl

pub needs-Cell : (f : List ℕ → Option ℕ) (ns : List ℕ) (i : Ident) (at : ℕ) (e : Expr) → needs_in f ns (Cell i at e) ≡ needs_in f ns e
unfolding needs_in
needs-Cell f ns i at e = ap (λ t. needs_after f ns (plain t)) (made_cell i at tt e)

pub needs-Paren : (f : List ℕ → Option ℕ) (ns : List ℕ) (at : ℕ) (e : Expr) → needs_in f ns (Paren at e) ≡ needs_in f ns e
unfolding needs_in
needs-Paren f ns at e = ap (λ t. needs_after f ns (plain t)) (made_paren at tt e)

pub needs-Not : (f : List ℕ → Option ℕ) (ns : List ℕ) (at : ℕ) (e : Expr) → needs_in f ns (Not at e) ≡ needs_in f ns e
unfolding needs_in
needs-Not f ns at e = ap (λ t. needs_after f ns (plain t)) (made_not at tt e)

pub needs-Binary : (f : List ℕ → Option ℕ) (ns : List ℕ) (op : BinSign) (at : ℕ) (a b : Expr) → needs_in f ns (Binary op at a b) ≡ needs_in f (needs_in f ns a) b
unfolding needs_in
needs-Binary f ns op at a b = ap (λ t. needs_after f ns (plain t)) (made_binary op at tt tt a b)

pub needs-Choice : (f : List ℕ → Option ℕ) (ns : List ℕ) (at at' : ℕ) (a b c : Expr)
    → needs_in f ns (Choice at at' a b c) ≡ needs_in f (needs_in f (needs_in f ns a) b) c
unfolding needs_in
needs-Choice f ns at at' a b c = ap (λ t. needs_after f ns (plain t)) (made_choice at at' tt tt tt a b c)

needs_row : (f : List ℕ → Option ℕ) (ns : List ℕ) {n : _} (row : Row_of-Expr n) → needs_after_parts f ns (plain_parts row) ≡ needs_in_each f ns (items-the_row-Expr _ row)
unfolding needs_in
needs_row f ns end_of-Expr = refl
needs_row f ns (more_of-Expr e row) = needs_row f (needs_after f ns (plain e)) row

pub needs-Join : (f : List ℕ → Option ℕ) (ns : List ℕ) (at : ℕ) (es : List Expr) → needs_in f ns (Join at es) ≡ needs_in_each f ns es
unfolding needs_in
needs-Join f ns at es =
    let r = row_of es in
    ap (λ (l : List Expr). needs_after f ns (plain (Join at l))) (sym r.items) ∙ ap (λ t. needs_after f ns (plain t)) (made_join at r.shape r.row) ∙ needs_row f ns r.row
    ∙ ap (needs_in_each f ns) r.items

pub ruleset needs = (needs-Literal, needs-Named, needs-Select, needs-Cell, needs-Paren, needs-Not, needs-Binary, needs-Choice, needs-Join)

-- ---- items

abbrev driver_needs : (f : List ℕ → Option ℕ) → Option Driver → List ℕ
driver_needs f None = []
driver_needs f (Some d) = needs_in f [] d.value

of_item : (f : List ℕ → Option ℕ) (i : tree_item.Item) → needs_of f (drive_of (plain_item i)) ≡ driver_needs f (driver_of i)
unfolding needs_in
of_item f (item.Wire at range name None) = refl
of_item f (item.Wire at range name (Some d)) = refl
of_item f (item.Reg at range name None) = refl
of_item f (item.Reg at range name (Some cells)) = refl
of_item f (item.Assign at target d) = refl
of_item f (item.Always at (stmt.Next target d)) = refl
of_item f (item.Always at (stmt.Reset at' first sign start target d)) = refl
of_item f (item.Always at (stmt.Write at' paren enable target bracket index d)) = refl

pub none_driven : (f : List ℕ → Option ℕ) (i : tree_item.Item) → None ≡ driver_of i → [] ≡ needs_of f (drive_of (plain_item i))
none_driven f i h = ap (driver_needs f) h ∙ sym (of_item f i)

pub one_driven : (f : List ℕ → Option ℕ) (i : tree_item.Item) (d : Driver) → Some d ≡ driver_of i → needs_in f [] d.value ≡ needs_of f (drive_of (plain_item i))
one_driven f i d h = ap (driver_needs f) h ∙ sym (of_item f i)
