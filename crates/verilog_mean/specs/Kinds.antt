-- Fourth rule: names are used as what they are (IEEE 1364-2005, 4.2, 4.9, 6.1, 9.2).
-- `clk` stands in no expression. An array has an index, and nothing else has one. Bits are selected from a
-- name with a range that is no array. An assignment is to an output or to a wire without a driver of its own.
-- A value at the clock is given to a register, a write to an array, and a reset names one register twice.
use Rattle.std.specs.Prelude.{Bool, true, false, not, List, [], ◌∷◌, ◌++◌, ◌&&◌, Option, Some, None, codes, is_some}
use Rattle.core_words.specs.Names.{same_name}
use Rattle.verilog_tree.specs.declared.expr.Ident.{Ident}
use Rattle.verilog_tree.specs.declared.expr.Expr as tree
use Rattle.verilog_tree.specs.declared.expr.Expr.{Cell', Paren', Not', Join', Binary', Choice', Row_of-Expr, end_of-Expr, more_of-Expr}
use Rattle.verilog_tree.specs.declared.tree.Driver.{Driver}
use Rattle.verilog_tree.specs.declared.tree.Stmt as tree_stmt
use Rattle.verilog_tree.specs.declared.tree.Stmt.TheVariants as stmt
use Rattle.verilog_tree.specs.declared.tree.Item as tree_item
use Rattle.verilog_tree.specs.declared.tree.Item.TheVariants as item
use Rattle.verilog_tree.specs.declared.tree.Tree.{Tree}
use Rattle.verilog_mean.specs.declared.refusal.MeanRefusal.TheVariants.{KindDiffers}
use Rattle.verilog_mean.specs.Look.{put_if}
use Rattle.verilog_mean.specs.declared.class.Class.{Class}
use Rattle.verilog_mean.specs.Declarations.{Declaration, declarations, declaration_of}
use Rattle.verilog_mean.specs.declared.class.Class.TheVariants.{Input, Output, Wired, Register, Array}
use Rattle.verilog_mean.specs.Names.{Refusals}

abbrev pub is_array : Class → Bool
is_array (Array cells) = true
is_array Input = false
is_array Output = false
is_array (Wired inline) = false
is_array Register = false

abbrev pub is_register : Class → Bool
is_register Register = true
is_register Input = false
is_register Output = false
is_register (Wired inline) = false
is_register (Array cells) = false

-- what an assignment may be to
abbrev pub is_assignable : Class → Bool
is_assignable Output = true
is_assignable (Wired inline) = not inline
is_assignable Input = false
is_assignable Register = false
is_assignable (Array cells) = false

-- a test of what a name is declared as; a name that is not declared is the third rule's
abbrev pub declared_passes : (Declaration → Bool) → Option Declaration → Bool
declared_passes test None = true
declared_passes test (Some d) = test d

module _ (ds : List Declaration) where
  abbrev pub passes : (Declaration → Bool) → Ident → Bool
  passes test i = declared_passes test (declaration_of ds i.text)

  abbrev pub is_clock : Ident → Bool
  is_clock i = same_name i.text (codes "clk")

  -- a name as a value
  abbrev pub may_be_read : Ident → Bool
  may_be_read i = not (is_clock i) && passes (λ d. not (is_array d.class)) i

  -- a name whose bits are selected
  abbrev pub may_be_selected : Ident → Bool
  may_be_selected i = not (is_clock i) && passes (λ d. not (is_array d.class) && is_some d.range) i

  -- a name with an index
  abbrev pub may_be_indexed : Ident → Bool
  may_be_indexed i = not (is_clock i) && passes (λ d. is_array d.class) i

  abbrev pub unless : Bool → Ident → Refusals → Refusals
  unless test i rest = put_if (not test) (KindDiffers i.at) rest

  abbrev mutual
    pub kinds_in : tree.Expr → Refusals
    kinds_in (tree.Literal l) = []
    kinds_in (tree.Named i) = unless (may_be_read i) i []
    kinds_in (tree.Select i bits) = unless (may_be_selected i) i []
    kinds_in (Cell' i at s (more_of-Expr index end_of-Expr)) = unless (may_be_indexed i) i (kinds_in index)
    kinds_in (Paren' at s (more_of-Expr inner end_of-Expr)) = kinds_in inner
    kinds_in (Not' at s (more_of-Expr inner end_of-Expr)) = kinds_in inner
    kinds_in (Join' at s parts) = kinds_in_parts parts
    kinds_in (Binary' sign at s (more_of-Expr left end_of-Expr) s' (more_of-Expr right end_of-Expr)) = kinds_in left ++ kinds_in right
    kinds_in (Choice' at at' s (more_of-Expr test end_of-Expr) s' (more_of-Expr first end_of-Expr) s'' (more_of-Expr second end_of-Expr)) =
        kinds_in test ++ (kinds_in first ++ kinds_in second)

    pub kinds_in_parts : {n : _} → Row_of-Expr n → Refusals
    kinds_in_parts end_of-Expr = []
    kinds_in_parts (more_of-Expr e rest) = kinds_in e ++ kinds_in_parts rest

  abbrev pub kinds_in_driver : Option Driver → Refusals
  kinds_in_driver None = []
  kinds_in_driver (Some d) = kinds_in d.value

  abbrev pub kinds_in_stmt : tree_stmt.Stmt → Refusals
  kinds_in_stmt (stmt.Next target d) = unless (passes (λ c. is_register c.class) target) target (kinds_in d.value)
  kinds_in_stmt (stmt.Reset at first first_sign_at start target d) =
      unless (passes (λ c. is_register c.class) first) first
      (unless (passes (λ c. is_register c.class) target && same_name first.text target.text) target (kinds_in d.value))
  kinds_in_stmt (stmt.Write at paren_at enable target bracket_at index d) =
      kinds_in enable ++ unless (passes (λ c. is_array c.class) target) target (kinds_in index ++ kinds_in d.value)

  abbrev pub kinds_in_item : tree_item.Item → Refusals
  kinds_in_item (item.Wire at range name d) = kinds_in_driver d
  kinds_in_item (item.Reg at range name cells) = []
  kinds_in_item (item.Assign at target d) = unless (passes (λ c. is_assignable c.class) target) target (kinds_in d.value)
  kinds_in_item (item.Always at s) = kinds_in_stmt s

  abbrev pub kinds_in_items : List tree_item.Item → Refusals
  kinds_in_items [] = []
  kinds_in_items (i ∷ is) = kinds_in_item i ++ kinds_in_items is

abbrev pub kinds_differ : Tree → Refusals
kinds_differ t = kinds_in_items (declarations t) t.items
