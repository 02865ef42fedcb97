-- From a tree of a text to the module as the meaning sees it.
use Rattle.std.specs.Prelude.{ℕ, ◌+◌, Bool, true, false, List, [], ◌∷◌, Option, Some, None}
use Rattle.verilog_tree.specs.declared.expr.Pair.{Pair}
use Rattle.verilog_tree.specs.declared.expr.Expr as tree
use Rattle.verilog_tree.specs.declared.expr.Expr.{Cell', Paren', Not', Join', Binary', Choice', Row_of-Expr, end_of-Expr, more_of-Expr}
use Rattle.verilog_tree.specs.declared.tree.Driver.{Driver}
use Rattle.verilog_tree.specs.declared.tree.PortDecl.{PortDecl}
use Rattle.verilog_tree.specs.declared.tree.Stmt as tree_stmt
use Rattle.verilog_tree.specs.declared.tree.Stmt.TheVariants as stmt
use Rattle.verilog_tree.specs.declared.tree.Item as tree_item
use Rattle.verilog_tree.specs.declared.tree.Item.TheVariants as item
use Rattle.verilog_tree.specs.declared.tree.Tree.{Tree}
use Rattle.verilog_mean.specs.Plain.{Expr, Exprs, Item, Port, Plain}
use Rattle.verilog_mean.specs.Plain.Expr.{Literal, Named, Select, Cell, Not, Join, Binary, Choice}
use Rattle.verilog_mean.specs.Plain.Exprs.{NoPart, Part}
use Rattle.verilog_mean.specs.Plain.Item.{Wire, Reg, Array, Assign, Next, Reset, Write}
use Rattle.verilog_mean.specs.Plain.Port.{In, Out}

-- the width of a name: the first number of its range plus 1, or 1 without a range
abbrev pub range_width : Option Pair → ℕ
range_width None = 1
range_width (Some range) = range.first.value + 1

-- an expression without places and parentheses
abbrev mutual
  pub plain : tree.Expr → Expr
  plain (tree.Literal l) = Literal l.width l.value
  plain (tree.Named i) = Named i.text
  plain (tree.Select i bits) = Select i.text bits.first.value bits.second.value
  plain (Cell' i at s (more_of-Expr index end_of-Expr)) = Cell i.text (plain index)
  plain (Paren' at s (more_of-Expr inner end_of-Expr)) = plain inner
  plain (Not' at s (more_of-Expr inner end_of-Expr)) = Not (plain inner)
  plain (Join' at s parts) = Join (plain_parts parts)
  plain (Binary' sign at s (more_of-Expr left end_of-Expr) s' (more_of-Expr right end_of-Expr)) = Binary sign (plain left) (plain right)
  plain (Choice' at at' s (more_of-Expr test end_of-Expr) s' (more_of-Expr first end_of-Expr) s'' (more_of-Expr second end_of-Expr)) =
      Choice (plain test) (plain first) (plain second)

  pub plain_parts : {n : _} → Row_of-Expr n → Exprs
  plain_parts end_of-Expr = NoPart
  plain_parts (more_of-Expr e rest) = Part (plain e) (plain_parts rest)

abbrev pub plain_driver : Option Driver → Option Expr
plain_driver None = None
plain_driver (Some d) = Some (plain d.value)

abbrev pub plain_stmt : tree_stmt.Stmt → Item
plain_stmt (stmt.Next target d) = Next target.text (plain d.value)
plain_stmt (stmt.Reset at first first_sign_at start target d) = Reset target.text start.value (plain d.value)
plain_stmt (stmt.Write at paren_at enable target bracket_at index d) = Write (plain enable) target.text (plain index) (plain d.value)

-- an array has as many cells as its last index plus 1
abbrev pub plain_item : tree_item.Item → Item
plain_item (item.Wire at range name d) = Wire (range_width range) name.text (plain_driver d)
plain_item (item.Reg at range name None) = Reg (range_width range) name.text
plain_item (item.Reg at range name (Some cells)) = Array (range_width range) name.text (cells.second.value + 1)
plain_item (item.Assign at target d) = Assign target.text (plain d.value)
plain_item (item.Always at s) = plain_stmt s

abbrev pub plain_items : List tree_item.Item → List Item
plain_items [] = []
plain_items (i ∷ is) = plain_item i ∷ plain_items is

abbrev pub plain_port : (input : Bool) → (width : ℕ) → (name : List ℕ) → Port
plain_port true width name = In width name
plain_port false width name = Out width name

abbrev pub plain_ports : List PortDecl → List Port
plain_ports [] = []
plain_ports (p ∷ ps) = plain_port p.input (range_width p.range) p.name.text ∷ plain_ports ps

abbrev pub plain_tree : Tree → Plain
plain_tree t = record { ports = plain_ports t.ports; items = plain_items t.items }
