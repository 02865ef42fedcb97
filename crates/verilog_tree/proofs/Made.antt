-- An expression made in code is the form that definitions match on.
use Rattle.std.proofs.Common.{◌≡◌, ℕ, refl, ap, sym, ◌∙◌}
use Rattle.verilog_tree.specs.declared.expr.BinSign.{BinSign}
use Rattle.verilog_tree.specs.declared.expr.Ident.{Ident}
use Rattle.verilog_tree.specs.declared.expr.Expr.{Expr, Cell', Paren', Not', Join', Binary', Choice', Row_of-Expr, end_of-Expr, more_of-Expr, roll-Expr, roll-out-Expr, items-the_row-Expr, items_shown-the_row-Expr-1}
use Rattle.verilog_tree.specs.declared.expr.Expr.TheVariants.{Cell, Paren, Not, Join, Binary, Choice, rolls-Join, outs-Join'}
use Rattle.verilog_tree.specs.declared.expr.Expr.TheBlock.{shape-the_row-Expr-0, hidden-the_row-Expr-0, shown-the_row-Expr-1}
use denote.Hole.Carrier.{hidden}
use mathlib.Core.Former.{this, arity}
use Rattle.sqlite_items.specs.formers.items.Items.{the_former}

pub made_cell : (i : Ident) (at : ℕ) (s : Unit {0}) (e : Expr) → Cell i at e ≡ Cell' i at s (more_of-Expr e end_of-Expr)
unfolding shape-the_row-Expr-0 hidden-the_row-Expr-0 hidden
made_cell i at s e = refl

pub made_paren : (at : ℕ) (s : Unit {0}) (e : Expr) → Paren at e ≡ Paren' at s (more_of-Expr e end_of-Expr)
unfolding shape-the_row-Expr-0 hidden-the_row-Expr-0 hidden
made_paren at s e = refl

pub made_not : (at : ℕ) (s : Unit {0}) (e : Expr) → Not at e ≡ Not' at s (more_of-Expr e end_of-Expr)
unfolding shape-the_row-Expr-0 hidden-the_row-Expr-0 hidden
made_not at s e = refl

pub made_binary : (op : BinSign) (at : ℕ) (s s' : Unit {0}) (a b : Expr) → Binary op at a b ≡ Binary' op at s (more_of-Expr a end_of-Expr) s' (more_of-Expr b end_of-Expr)
unfolding shape-the_row-Expr-0 hidden-the_row-Expr-0 hidden
made_binary op at s s' a b = refl

pub made_choice : (at at' : ℕ) (s s' s'' : Unit {0}) (a b c : Expr) → Choice at at' a b c ≡ Choice' at at' s (more_of-Expr a end_of-Expr) s' (more_of-Expr b end_of-Expr) s'' (more_of-Expr c end_of-Expr)
unfolding shape-the_row-Expr-0 hidden-the_row-Expr-0 hidden
made_choice at at' s s' s'' a b c = refl

pub made_join : (at : ℕ) (s : (the_former (this {0})).Shape) (row : Row_of-Expr (arity (the_former (this {0})) s)) → Join at (items-the_row-Expr _ row) ≡ Join' at s row
made_join at s row =
    ap (Join at) (sym (items_shown-the_row-Expr-1 s row)) ∙ sym (rolls-Join at (shown-the_row-Expr-1 s row)) ∙ ap roll-Expr (sym (outs-Join' at s row)) ∙ roll-out-Expr (Join' at s row)
