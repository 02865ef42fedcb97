-- The third rule depends on which names are known, and not on their order.
use Rattle.std.proofs.Common.{◌≡◌, ℕ, ◌+◌, not, List, [], ◌∷◌, ◌++◌, ◌∙◌, sym, refl, ap, drop, Option, Some, None}
use Rattle.verilog_tree.specs.declared.expr.Ident.{Ident}
use Rattle.verilog_tree.specs.declared.expr.Expr as tree
use Rattle.verilog_tree.specs.declared.expr.Expr.{Cell', Paren', Not', Join', Binary', Choice', Row_of-Expr, end_of-Expr, more_of-Expr}
use Rattle.verilog_tree.specs.declared.tree.Driver.{Driver}
use Rattle.verilog_tree.specs.declared.tree.Stmt as tree_stmt
use Rattle.verilog_tree.specs.declared.tree.Stmt.TheVariants as stmt
use Rattle.verilog_tree.specs.declared.tree.Item as tree_item
use Rattle.verilog_tree.specs.declared.tree.Item.TheVariants as item
use Rattle.verilog_mean.specs.declared.refusal.MeanRefusal.{MeanRefusal}
use Rattle.verilog_mean.specs.declared.refusal.MeanRefusal.TheVariants.{NameUnknown}
use Rattle.verilog_mean.specs.Look.{put_if}
use Rattle.verilog_mean.specs.Declarations.{Declaration, item_declaration}
use Rattle.verilog_mean.specs.Names.{unknown_in, unknown_in_parts, unknown_name, unknown_in_driver, unknown_in_stmt, unknown_in_item, unknown_in_items, known_after, Refusals}
use Rattle.verilog_rules.specs.SameNames.{SameNames}
use Rattle.verilog_rules.specs.Shut.{unknown_by_item}
use Rattle.verilog_rules.specs.First.{first}
use Rattle.verilog_rules.proofs.First.{one_more, first_some}

module _ (ms ns : List (List ℕ)) (h : SameNames ms ns) where
  mutual
    expr_same : (e : tree.Expr) → unknown_in ms e ≡ unknown_in ns e
    expr_same (tree.Literal l) = refl
    expr_same (tree.Named i) = λ j. put_if (not (h.same i.text j)) (NameUnknown i.at) []
    expr_same (tree.Select i bits) = λ j. put_if (not (h.same i.text j)) (NameUnknown i.at) []
    expr_same (Cell' i at s (more_of-Expr index end_of-Expr)) = λ j. put_if (not (h.same i.text j)) (NameUnknown i.at) (expr_same index j)
    expr_same (Paren' at s (more_of-Expr inner end_of-Expr)) = expr_same inner
    expr_same (Not' at s (more_of-Expr inner end_of-Expr)) = expr_same inner
    expr_same (Join' at s parts) = parts_same parts
    expr_same (Binary' sign at s (more_of-Expr left end_of-Expr) s' (more_of-Expr right end_of-Expr)) = λ j. expr_same left j ++ expr_same right j
    expr_same (Choice' at at' s (more_of-Expr test end_of-Expr) s' (more_of-Expr one end_of-Expr) s'' (more_of-Expr two end_of-Expr)) =
        λ j. expr_same test j ++ (expr_same one j ++ expr_same two j)

    parts_same : {n : _} (row : Row_of-Expr n) → unknown_in_parts ms row ≡ unknown_in_parts ns row
    parts_same end_of-Expr = refl
    parts_same (more_of-Expr e rest) = λ j. expr_same e j ++ parts_same rest j

  name_same : (i : Ident) (rest rest' : Refusals) → rest ≡ rest' → unknown_name ms i rest ≡ unknown_name ns i rest'
  name_same i rest rest' e = λ j. put_if (not (h.same i.text j)) (NameUnknown i.at) (e j)

  driver_same : (d : Option Driver) → unknown_in_driver ms d ≡ unknown_in_driver ns d
  driver_same None = refl
  driver_same (Some d) = expr_same d.value

  stmt_same : (s : tree_stmt.Stmt) → unknown_in_stmt ms s ≡ unknown_in_stmt ns s
  stmt_same (stmt.Next target d) = name_same target _ _ (expr_same d.value)
  stmt_same (stmt.Reset at one sign start target d) = name_same one _ _ (name_same target _ _ (expr_same d.value))
  stmt_same (stmt.Write at paren enable target bracket index d) =
      λ j. expr_same enable j ++ name_same target (unknown_in ms index ++ unknown_in ms d.value) (unknown_in ns index ++ unknown_in ns d.value) (λ k. expr_same index k ++ expr_same d.value k) j

  item_same : (i : tree_item.Item) → unknown_by_item ms i ≡ unknown_by_item ns i
  unfolding unknown_by_item
  item_same (item.Wire at range name d) = driver_same d
  item_same (item.Reg at range name cells) = refl
  item_same (item.Assign at target d) = name_same target _ _ (expr_same d.value)
  item_same (item.Always at s) = stmt_same s

after_same : (ms ns : List (List ℕ)) → SameNames ms ns → (d : Option Declaration) → SameNames (known_after ms d) (known_after ns d)
after_same ms ns h None = h
after_same ms ns h (Some d) = one_more d.name.text ms ns h

by_item : (known : List (List ℕ)) (i : tree_item.Item) → unknown_in_item known i ≡ unknown_by_item (known_after known (item_declaration i)) i
unfolding unknown_by_item
by_item known (item.Wire at range name d) = refl
by_item known (item.Reg at range name cells) = refl
by_item known (item.Assign at target d) = refl
by_item known (item.Always at s) = refl

pub items_same : (ms ns : List (List ℕ)) → SameNames ms ns → (is : List tree_item.Item) → unknown_in_items ms is ≡ unknown_in_items ns is
items_same ms ns h [] = refl
items_same ms ns h (i ∷ is) =
    let k = after_same ms ns h (item_declaration i) in
    let here : unknown_in_item ms i ≡ unknown_in_item ns i = by_item ms i ∙ item_same (known_after ms (item_declaration i)) (known_after ns (item_declaration i)) k i ∙ sym (by_item ns i) in
    let later : unknown_in_items (known_after ms (item_declaration i)) is ≡ unknown_in_items (known_after ns (item_declaration i)) is =
    items_same (known_after ms (item_declaration i)) (known_after ns (item_declaration i)) k is in
    λ j. here j ++ later j

pub none_is : (rs : Refusals) → None ≡ first rs → rs ≡ []
none_is [] h = refl
none_is (r ∷ rs) h = cc

shown : (old new : List (List ℕ)) (i : tree_item.Item) → SameNames new (known_after old (item_declaration i)) → unknown_in_item old i ≡ unknown_by_item new i
shown old new i s = by_item old i ∙ sym (item_same new (known_after old (item_declaration i)) s i)

pub next_item : (items : List tree_item.Item) (n : ℕ) (i : tree_item.Item) (old new : List (List ℕ)) (all : Refusals) → drop n items ≡ i ∷ drop (n + 1) items
    → SameNames new (known_after old (item_declaration i)) → None ≡ first (unknown_by_item new i)
    → unknown_in_items old (drop n items) ≡ all → unknown_in_items new (drop (n + 1) items) ≡ all
next_item items n i old new all e s h u =
    items_same new (known_after old (item_declaration i)) s (drop (n + 1) items)
    ∙ sym (ap (λ rs. rs ++ unknown_in_items (known_after old (item_declaration i)) (drop (n + 1) items)) (shown old new i s ∙ none_is (unknown_by_item new i) h))
    ∙ sym (ap (unknown_in_items old) e) ∙ u

pub here_item : (items : List tree_item.Item) (n : ℕ) (i : tree_item.Item) (old new : List (List ℕ)) (all : Refusals) (r : MeanRefusal) → drop n items ≡ i ∷ drop (n + 1) items
    → SameNames new (known_after old (item_declaration i)) → Some r ≡ first (unknown_by_item new i)
    → unknown_in_items old (drop n items) ≡ all → first all ≡ Some r
here_item items n i old new all r e s h u =
    ap first (sym u ∙ ap (unknown_in_items old) e)
    ∙ first_some (unknown_in_item old i) (unknown_in_items (known_after old (item_declaration i)) (drop (n + 1) items)) r (h ∙ sym (ap first (shown old new i s)))
