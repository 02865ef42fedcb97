-- The expression as the code goes over it is the plain one.
use Rattle.std.proofs.Common.{◌≡◌, ℕ, List, map, refl, ap, sym, ◌∙◌}
use Rattle.verilog_tree.specs.declared.expr.BinSign.{BinSign}
use Rattle.verilog_tree.specs.declared.expr.Ident.{Ident}
use Rattle.verilog_tree.specs.declared.expr.Lit.{Lit}
use Rattle.verilog_tree.specs.declared.expr.Pair.{Pair}
use Rattle.verilog_tree.specs.declared.expr.Expr.{Expr, Expr-F, fold-roll-Expr, Cell', Paren', Not', Join', Binary', Choice', Row_of-Expr, end_of-Expr, more_of-Expr, items-the_row-Expr}
use Rattle.verilog_tree.specs.declared.expr.Expr.TheVariants.{rolls-Literal, rolls-Named, rolls-Select, rolls-Cell, rolls-Paren, rolls-Not, rolls-Join, rolls-Binary, rolls-Choice}
use Rattle.verilog_tree.specs.declared.expr.Expr.TheVariants as tree
use Rattle.verilog_tree.proofs.Made.{made_cell, made_paren, made_not, made_binary, made_choice, made_join}
use Rattle.verilog_mean.specs.Plain.{Expr as Plain}
use Rattle.verilog_mean.specs.Plain.Exprs.{Part}
use Rattle.verilog_mean.specs.Erase.{plain, plain_parts}
use Rattle.verilog_resolve.specs.View.{view, parts_of, layer_of}

view-literal : (l : Lit) → view (tree.Literal l) ≡ Plain.Literal l.width l.value
unfolding view
view-literal l = ap view (sym (rolls-Literal l)) ∙ fold-roll-Expr Plain layer_of (Expr-F.Literal l)

view-named : (i : Ident) → view (tree.Named i) ≡ Plain.Named i.text
unfolding view
view-named i = ap view (sym (rolls-Named i)) ∙ fold-roll-Expr Plain layer_of (Expr-F.Named i)

view-select : (i : Ident) (bits : Pair) → view (tree.Select i bits) ≡ Plain.Select i.text bits.first.value bits.second.value
unfolding view
view-select i bits = ap view (sym (rolls-Select i bits)) ∙ fold-roll-Expr Plain layer_of (Expr-F.Select i bits)

view-cell : (i : Ident) (at : ℕ) (index : Expr) → view (tree.Cell i at index) ≡ Plain.Cell i.text (view index)
unfolding view
view-cell i at index = ap view (sym (rolls-Cell i at index)) ∙ fold-roll-Expr Plain layer_of (Expr-F.Cell i at index)

view-paren : (at : ℕ) (inner : Expr) → view (tree.Paren at inner) ≡ view inner
unfolding view
view-paren at inner = ap view (sym (rolls-Paren at inner)) ∙ fold-roll-Expr Plain layer_of (Expr-F.Paren at inner)

view-not : (at : ℕ) (inner : Expr) → view (tree.Not at inner) ≡ Plain.Not (view inner)
unfolding view
view-not at inner = ap view (sym (rolls-Not at inner)) ∙ fold-roll-Expr Plain layer_of (Expr-F.Not at inner)

view-join : (at : ℕ) (parts : List Expr) → view (tree.Join at parts) ≡ Plain.Join (parts_of (map view parts))
unfolding view
view-join at parts = ap view (sym (rolls-Join at parts)) ∙ fold-roll-Expr Plain layer_of (Expr-F.Join at parts)

view-binary : (sign : BinSign) (at : ℕ) (left right : Expr) → view (tree.Binary sign at left right) ≡ Plain.Binary sign (view left) (view right)
unfolding view
view-binary sign at left right = ap view (sym (rolls-Binary sign at left right)) ∙ fold-roll-Expr Plain layer_of (Expr-F.Binary sign at left right)

view-choice : (at at' : ℕ) (test first second : Expr) → view (tree.Choice at at' test first second) ≡ Plain.Choice (view test) (view first) (view second)
unfolding view
view-choice at at' test first second =
    ap view (sym (rolls-Choice at at' test first second)) ∙ fold-roll-Expr Plain layer_of (Expr-F.Choice at at' test first second)

mutual
  pub view_is_plain : (e : Expr) → view e ≡ plain e
  view_is_plain (tree.Literal l) = view-literal l
  view_is_plain (tree.Named i) = view-named i
  view_is_plain (tree.Select i bits) = view-select i bits
  view_is_plain (Cell' i at s (more_of-Expr index end_of-Expr)) =
      ap view (sym (made_cell i at s index)) ∙ view-cell i at index ∙ ap (Plain.Cell i.text) (view_is_plain index)
  view_is_plain (Paren' at s (more_of-Expr inner end_of-Expr)) = ap view (sym (made_paren at s inner)) ∙ view-paren at inner ∙ view_is_plain inner
  view_is_plain (Not' at s (more_of-Expr inner end_of-Expr)) = ap view (sym (made_not at s inner)) ∙ view-not at inner ∙ ap Plain.Not (view_is_plain inner)
  view_is_plain (Join' at s parts) = ap view (sym (made_join at s parts)) ∙ view-join at (items-the_row-Expr _ parts) ∙ ap Plain.Join (parts_are_plain parts)
  view_is_plain (Binary' sign at s (more_of-Expr left end_of-Expr) s' (more_of-Expr right end_of-Expr)) =
      ap view (sym (made_binary sign at s s' left right)) ∙ view-binary sign at left right
      ∙ ap (λ a. Plain.Binary sign a (view right)) (view_is_plain left) ∙ ap (Plain.Binary sign (plain left)) (view_is_plain right)
  view_is_plain (Choice' at at' s (more_of-Expr test end_of-Expr) s' (more_of-Expr first end_of-Expr) s'' (more_of-Expr second end_of-Expr)) =
      ap view (sym (made_choice at at' s s' s'' test first second)) ∙ view-choice at at' test first second
      ∙ ap (λ a. Plain.Choice a (view first) (view second)) (view_is_plain test)
      ∙ ap (λ a. Plain.Choice (plain test) a (view second)) (view_is_plain first) ∙ ap (Plain.Choice (plain test) (plain first)) (view_is_plain second)

  parts_are_plain : {n : _} (row : Row_of-Expr n) → parts_of (map view (items-the_row-Expr _ row)) ≡ plain_parts row
  parts_are_plain end_of-Expr = refl
  parts_are_plain (more_of-Expr e row) = ap (λ a. Part a (parts_of (map view (items-the_row-Expr _ row)))) (view_is_plain e) ∙ ap (Part (plain e)) (parts_are_plain row)
