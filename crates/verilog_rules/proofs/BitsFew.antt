-- The items of a tree have few bits, where the tree is no larger than a text and its selections are of bits that there are.
use Rattle.std.proofs.Common.{◌≡◌, ℕ, ◌+◌, ◌*◌, ◌<◌, ◌≤◌, ◌^◌, Bool, true, false, not, leb, ltb, ◌&&◌, List, [], ◌∷◌, ◌++◌, map, length, ◌∙◌, sym, refl, ap, Option, Some, None, arith}
use Rattle.std.proofs.lemmas.Bool.Decides.{nat_tests}
use Rattle.verilog_tree.specs.declared.expr.Expr as tree
use Rattle.verilog_tree.specs.declared.expr.Expr.{Cell', Paren', Not', Join', Binary', Choice', Row_of-Expr, end_of-Expr, more_of-Expr, items-the_row-Expr}
use Rattle.verilog_tree.specs.declared.tree.Driver.{Driver}
use Rattle.verilog_tree.specs.declared.tree.Stmt as tree_stmt
use Rattle.verilog_tree.specs.declared.tree.Stmt.TheVariants as stmt
use Rattle.verilog_tree.specs.declared.tree.Item as tree_item
use Rattle.verilog_tree.specs.declared.tree.Item.TheVariants as item
use Rattle.verilog_tree.specs.declared.tree.Tree.{Tree}
use Rattle.verilog_tree.proofs.Made.{made_cell, made_paren, made_not, made_binary, made_choice, made_join}
use Rattle.verilog_mean.specs.declared.refusal.MeanRefusal.{MeanRefusal}
use Rattle.verilog_mean.specs.declared.refusal.MeanRefusal.TheVariants.{SelectOutside}
use Rattle.verilog_mean.specs.Look.{put_if}
use Rattle.verilog_mean.specs.Erase.{plain, plain_parts}
use Rattle.verilog_mean.specs.Names.{bad_sizes}
use Rattle.verilog_mean.specs.Declarations.{Declaration, declarations, width_among}
use Rattle.verilog_mean.specs.Widths.{selects_in, selects_in_parts, selects_in_driver, selects_in_stmt, selects_in_item, selects_in_items, selects_outside}
use Rattle.verilog_mean.specs.Bounds.{IsWritten, AreWritten, IsWrittenDriver, IsWrittenStmt, IsWrittenItem, AreWrittenItems, IsBounded, size_of, size_of_parts, driver_size, stmt_size, item_size, items_size}
use Rattle.verilog_rules.specs.Bits.{expr_bits, driver_bits, stmt_bits, item_bits, total}
use Rattle.verilog_rules.specs.Narrow.{IsNarrow}
use Rattle.verilog_rules.proofs.Refused.{both}
use Rattle.verilog_rules.proofs.WholeTree.{small}
use Rattle.verilog_rules.proofs.WidthForms.{bits-Literal, bits-Named, bits-Select, bits-Cell, bits-Paren, bits-Not, bits-Join, bits-Binary, bits-Choice}

inside : (a b : Bool) (r : MeanRefusal) → put_if (not (a && b)) r [] ≡ [] → b ≡ true
inside true true r h = refl
inside true false r h = cc
inside false b r h = cc

below : (n width : ℕ) → ltb n width ≡ true → width ≤ 64 → n + 1 ≤ 64 * 1
below n width h k = grind (arith, nat_tests)

module _ (ds : List Declaration) (narrow : IsNarrow ds) where
  mutual
    expr_few : (e : tree.Expr) → IsWritten (plain e) → selects_in ds e ≡ [] → expr_bits ds e ≤ 64 * size_of (plain e)
    expr_few (tree.Literal l) w h = let short = w.1.0 in let e = bits-Literal ds l in omega arith
    expr_few (tree.Named i) w h = let short = narrow.narrow i.text in let e = bits-Named ds i in omega arith
    expr_few (tree.Select i bits) w h =
        let width = width_among ds i.text in
        let short = below bits.first.value width (inside (leb bits.second.value bits.first.value) (ltb bits.first.value width) (SelectOutside i.at bits.first.value bits.second.value width) h) (narrow.narrow i.text) in
        let e = bits-Select ds i bits in
        omega arith
    expr_few (Cell' i at s (more_of-Expr index end_of-Expr)) w h =
        let short = narrow.narrow i.text in
        let few = expr_few index w h in
        let e = ap (expr_bits ds) (sym (made_cell i at s index)) ∙ bits-Cell ds i at index in
        omega arith
    expr_few (Paren' at s (more_of-Expr inner end_of-Expr)) w h =
        let few = expr_few inner w h in
        let e = ap (expr_bits ds) (sym (made_paren at s inner)) ∙ bits-Paren ds at inner in
        omega arith
    expr_few (Not' at s (more_of-Expr inner end_of-Expr)) w h =
        let few = expr_few inner w h in
        let e = ap (expr_bits ds) (sym (made_not at s inner)) ∙ bits-Not ds at inner in
        omega arith
    expr_few (Join' at s parts) w h =
        let few = parts_few parts w.1 h in
        let e = ap (expr_bits ds) (sym (made_join at s parts)) ∙ bits-Join ds at (items-the_row-Expr _ parts) in
        omega arith
    expr_few (Binary' sign at s (more_of-Expr left end_of-Expr) s' (more_of-Expr right end_of-Expr)) w h =
        let k = both (selects_in ds left) (selects_in ds right) h in
        let few = expr_few left w.0 k.0 in
        let few' = expr_few right w.1 k.1 in
        let e = ap (expr_bits ds) (sym (made_binary sign at s s' left right)) ∙ bits-Binary ds sign at left right in
        omega arith
    expr_few (Choice' at at' s (more_of-Expr test end_of-Expr) s' (more_of-Expr first end_of-Expr) s'' (more_of-Expr second end_of-Expr)) w h =
        let k = both (selects_in ds test) (selects_in ds first ++ selects_in ds second) h in
        let k' = both (selects_in ds first) (selects_in ds second) k.1 in
        let few = expr_few test w.0 k.0 in
        let few' = expr_few first w.1.0 k'.0 in
        let few'' = expr_few second w.1.1 k'.1 in
        let e = ap (expr_bits ds) (sym (made_choice at at' s s' s'' test first second)) ∙ bits-Choice ds at at' test first second in
        omega arith

    parts_few : {n : _} (row : Row_of-Expr n) → AreWritten (plain_parts row) → selects_in_parts ds row ≡ [] → total (map (expr_bits ds) (items-the_row-Expr _ row)) ≤ 64 * size_of_parts (plain_parts row)
    parts_few end_of-Expr w h = omega arith
    parts_few (more_of-Expr e row) w h =
        let k = both (selects_in ds e) (selects_in_parts ds row) h in
        let few = expr_few e w.0 k.0 in
        let few' = parts_few row w.1 k.1 in
        omega arith

  driver_few : (d : Option Driver) → IsWrittenDriver d → selects_in_driver ds d ≡ [] → driver_bits ds d ≤ 64 * driver_size d
  driver_few None w h = omega arith
  driver_few (Some d) w h = expr_few d.value w h

  stmt_few : (s : tree_stmt.Stmt) → IsWrittenStmt s → selects_in_stmt ds s ≡ [] → stmt_bits ds s ≤ 64 * stmt_size s
  stmt_few (stmt.Next target d) w h = expr_few d.value w h
  stmt_few (stmt.Reset at first sign start target d) w h = expr_few d.value w.1 h
  stmt_few (stmt.Write at paren enable target bracket index d) w h =
      let k = both (selects_in ds enable) (selects_in ds index ++ selects_in ds d.value) h in
      let k' = both (selects_in ds index) (selects_in ds d.value) k.1 in
      let few = expr_few enable w.0 k.0 in
      let few' = expr_few index w.1.0 k'.0 in
      let few'' = expr_few d.value w.1.1 k'.1 in
      omega arith

  item_few : (i : tree_item.Item) → IsWrittenItem i → selects_in_item ds i ≡ [] → item_bits ds i ≤ 64 * item_size i
  item_few (item.Wire at range name d) w h = let few = driver_few d w h in omega arith
  item_few (item.Reg at range name cells) w h = omega arith
  item_few (item.Assign at target d) w h = let few = expr_few d.value w h in omega arith
  item_few (item.Always at s) w h = let few = stmt_few s w h in omega arith

  items_few : (is : List tree_item.Item) → AreWrittenItems is → selects_in_items ds is ≡ [] → total (map (item_bits ds) is) ≤ 64 * items_size is
  items_few [] w h = omega arith
  items_few (i ∷ is) w h =
      let k = both (selects_in_item ds i) (selects_in_items ds is) h in
      let few = item_few i w.0 k.0 in
      let few' = items_few is w.1 k.1 in
      omega arith

pub tree_few : (t : Tree) → IsBounded t → bad_sizes t ≡ [] → selects_outside t ≡ [] → total (map (item_bits (declarations t)) t.items) < 2 ^ 32
tree_few t b h k =
    let few = items_few (declarations t) (small (declarations t) (declarations t) refl h) t.items b.written k in
    let size = b.size in
    omega arith

counted : (is : List tree_item.Item) → length is ≤ items_size is
counted [] = omega arith
counted (item.Wire at range name d ∷ is) = let few = counted is in omega arith
counted (item.Reg at range name cells ∷ is) = let few = counted is in omega arith
counted (item.Assign at target d ∷ is) = let few = counted is in omega arith
counted (item.Always at s ∷ is) = let few = counted is in omega arith

pub few_items : (t : Tree) → IsBounded t → length t.items ≤ 2 ^ 24
few_items t b = let few = counted t.items in let size = b.size in omega arith
