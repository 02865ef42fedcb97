-- Fifth rule: the bits that are selected are bits of the name (IEEE 1364-2005, 5.2.1).
-- Sixth rule: widths agree, so that nothing is cut or extended (5.4.1). The operands of an operator, the two
-- sides of `=` and `<=` and the two values of a choice have equal widths, a condition has one bit, an index
-- as many as the array needs, and a join at most 64.
use Rattle.std.specs.Prelude.{ℕ, not, eqb, leb, ltb, List, [], ◌∷◌, ◌++◌, ◌&&◌, Option, Some, None}
use Rattle.verilog_tree.specs.declared.expr.Ident.{Ident}
use Rattle.verilog_tree.specs.declared.expr.Pair.{Pair}
use Rattle.verilog_tree.specs.declared.expr.Expr as tree
use Rattle.verilog_tree.specs.declared.expr.Expr.{Cell', Paren', Not', Join', Binary', Choice', Row_of-Expr, end_of-Expr, more_of-Expr}
use Rattle.verilog_tree.specs.declared.tree.Driver.{Driver}
use Rattle.verilog_tree.specs.declared.tree.Stmt as tree_stmt
use Rattle.verilog_tree.specs.declared.tree.Stmt.TheVariants as stmt
use Rattle.verilog_tree.specs.declared.tree.Item as tree_item
use Rattle.verilog_tree.specs.declared.tree.Item.TheVariants as item
use Rattle.verilog_tree.specs.declared.tree.Tree.{Tree}
use Rattle.verilog_mean.specs.declared.refusal.MeanRefusal.TheVariants.{SelectOutside, WidthDiffers}
use Rattle.verilog_mean.specs.Look.{put_if}
use Rattle.verilog_mean.specs.Erase.{plain, plain_parts}
use Rattle.verilog_mean.specs.Cycle.{width_of, width_of_parts}
use Rattle.verilog_mean.specs.Declarations.{Declaration, declarations, declaration_of, width_among, declared_index_width}
use Rattle.verilog_mean.specs.Names.{Refusals}

module _ (ds : List Declaration) where
  -- ---- fifth rule

  abbrev pub select_outside : Ident → Pair → Refusals
  select_outside i bits =
      let width = width_among ds i.text in
      put_if (not (leb bits.second.value bits.first.value && ltb bits.first.value width)) (SelectOutside i.at bits.first.value bits.second.value width) []

  abbrev mutual
    pub selects_in : tree.Expr → Refusals
    selects_in (tree.Literal l) = []
    selects_in (tree.Named i) = []
    selects_in (tree.Select i bits) = select_outside i bits
    selects_in (Cell' i at s (more_of-Expr index end_of-Expr)) = selects_in index
    selects_in (Paren' at s (more_of-Expr inner end_of-Expr)) = selects_in inner
    selects_in (Not' at s (more_of-Expr inner end_of-Expr)) = selects_in inner
    selects_in (Join' at s parts) = selects_in_parts parts
    selects_in (Binary' sign at s (more_of-Expr left end_of-Expr) s' (more_of-Expr right end_of-Expr)) = selects_in left ++ selects_in right
    selects_in (Choice' at at' s (more_of-Expr test end_of-Expr) s' (more_of-Expr first end_of-Expr) s'' (more_of-Expr second end_of-Expr)) =
        selects_in test ++ (selects_in first ++ selects_in second)

    pub selects_in_parts : {n : _} → Row_of-Expr n → Refusals
    selects_in_parts end_of-Expr = []
    selects_in_parts (more_of-Expr e rest) = selects_in e ++ selects_in_parts rest

  abbrev pub selects_in_driver : Option Driver → Refusals
  selects_in_driver None = []
  selects_in_driver (Some d) = selects_in d.value

  abbrev pub selects_in_stmt : tree_stmt.Stmt → Refusals
  selects_in_stmt (stmt.Next target d) = selects_in d.value
  selects_in_stmt (stmt.Reset at first first_sign_at start target d) = selects_in d.value
  selects_in_stmt (stmt.Write at paren_at enable target bracket_at index d) = selects_in enable ++ (selects_in index ++ selects_in d.value)

  abbrev pub selects_in_item : tree_item.Item → Refusals
  selects_in_item (item.Wire at range name d) = selects_in_driver d
  selects_in_item (item.Reg at range name cells) = []
  selects_in_item (item.Assign at target d) = selects_in d.value
  selects_in_item (item.Always at s) = selects_in_stmt s

  abbrev pub selects_in_items : List tree_item.Item → Refusals
  selects_in_items [] = []
  selects_in_items (i ∷ is) = selects_in_item i ++ selects_in_items is

  -- ---- sixth rule

  abbrev pub width : tree.Expr → ℕ
  width e = width_of (width_among ds) (plain e)

  abbrev pub differ : (at left right : ℕ) → Refusals → Refusals
  differ at left right rest = put_if (not (eqb left right)) (WidthDiffers at left right) rest

  abbrev pub index_width_of : Ident → ℕ
  index_width_of i = declared_index_width (declaration_of ds i.text)

  abbrev mutual
    pub widths_in : tree.Expr → Refusals
    widths_in (tree.Literal l) = []
    widths_in (tree.Named i) = []
    widths_in (tree.Select i bits) = []
    widths_in (Cell' i at s (more_of-Expr index end_of-Expr)) = differ at (width index) (index_width_of i) (widths_in index)
    widths_in (Paren' at s (more_of-Expr inner end_of-Expr)) = widths_in inner
    widths_in (Not' at s (more_of-Expr inner end_of-Expr)) = widths_in inner
    widths_in (Join' at s parts) =
        let sum = width_of_parts (width_among ds) (plain_parts parts) in
        put_if (not (leb sum 64)) (WidthDiffers at sum 64) (widths_in_parts parts)
    widths_in (Binary' sign at s (more_of-Expr left end_of-Expr) s' (more_of-Expr right end_of-Expr)) =
        widths_in left ++ differ at (width left) (width right) (widths_in right)
    widths_in (Choice' at at' s (more_of-Expr test end_of-Expr) s' (more_of-Expr first end_of-Expr) s'' (more_of-Expr second end_of-Expr)) =
        widths_in test ++ differ at (width test) 1 (widths_in first ++ differ at' (width first) (width second) (widths_in second))

    pub widths_in_parts : {n : _} → Row_of-Expr n → Refusals
    widths_in_parts end_of-Expr = []
    widths_in_parts (more_of-Expr e rest) = widths_in e ++ widths_in_parts rest

  -- the width on the left, and a driver
  abbrev pub widths_at : (left : ℕ) → Driver → Refusals
  widths_at left d = differ d.sign_at left (width d.value) (widths_in d.value)

  abbrev pub widths_in_driver : (left : ℕ) → Option Driver → Refusals
  widths_in_driver left None = []
  widths_in_driver left (Some d) = widths_at left d

  abbrev pub widths_in_stmt : tree_stmt.Stmt → Refusals
  widths_in_stmt (stmt.Next target d) = widths_at (width_among ds target.text) d
  widths_in_stmt (stmt.Reset at first first_sign_at start target d) =
      differ first_sign_at (width_among ds first.text) start.width (widths_at (width_among ds target.text) d)
  widths_in_stmt (stmt.Write at paren_at enable target bracket_at index d) =
      differ paren_at (width enable) 1 (widths_in enable
      ++ differ bracket_at (width index) (index_width_of target) (widths_in index ++ widths_at (width_among ds target.text) d))

  abbrev pub widths_in_item : tree_item.Item → Refusals
  widths_in_item (item.Wire at range name d) = widths_in_driver (width_among ds name.text) d
  widths_in_item (item.Reg at range name cells) = []
  widths_in_item (item.Assign at target d) = widths_at (width_among ds target.text) d
  widths_in_item (item.Always at s) = widths_in_stmt s

  abbrev pub widths_in_items : List tree_item.Item → Refusals
  widths_in_items [] = []
  widths_in_items (i ∷ is) = widths_in_item i ++ widths_in_items is

abbrev pub selects_outside : Tree → Refusals
selects_outside t = selects_in_items (declarations t) t.items

abbrev pub widths_differ : Tree → Refusals
widths_differ t = widths_in_items (declarations t) t.items
