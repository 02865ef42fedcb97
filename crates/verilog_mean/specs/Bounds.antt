-- What each tree of a text meets before any rule of soundness: a literal has 1 to 64 bits and its value fits in them
-- (IEEE 1364-2005, 3.5.1), a join has a part (5.1.14), and there are no more ports, items and expressions than bytes.
use Rattle.std.specs.Prelude.{ℕ, suc, ◌+◌, ◌^◌, ◌<◌, ◌≤◌, List, [], ◌∷◌, length, Option, Some, None}
use Rattle.verilog_tree.specs.declared.tree.Driver.{Driver}
use Rattle.verilog_tree.specs.declared.tree.Stmt as tree_stmt
use Rattle.verilog_tree.specs.declared.tree.Stmt.TheVariants as stmt
use Rattle.verilog_tree.specs.declared.tree.Item as tree_item
use Rattle.verilog_tree.specs.declared.tree.Item.TheVariants as item
use Rattle.verilog_tree.specs.declared.tree.Tree.{Tree}
use Rattle.verilog_mean.specs.Plain.{Expr, Exprs}
use Rattle.verilog_mean.specs.Plain.Expr.{Literal, Named, Select, Cell, Not, Join, Binary, Choice}
use Rattle.verilog_mean.specs.Plain.Exprs.{NoPart, Part}
use Rattle.verilog_mean.specs.Erase.{plain}

-- ---- literals and joins

abbrev pub IsLiteral : (width value : ℕ) → Type 0
IsLiteral width value = (1 ≤ width) × ((width ≤ 64) × (value < 2 ^ width))

-- there is a part
abbrev pub HasPart : Exprs → Type 0
HasPart NoPart = ⊥
HasPart (Part e es) = Unit {0}

abbrev mutual
  pub IsWritten : Expr → Type 0
  IsWritten (Literal width value) = IsLiteral width value
  IsWritten (Named name) = Unit {0}
  IsWritten (Select name high low) = Unit {0}
  IsWritten (Cell name index) = IsWritten index
  IsWritten (Not inner) = IsWritten inner
  IsWritten (Join parts) = HasPart parts × AreWritten parts
  IsWritten (Binary sign left right) = IsWritten left × IsWritten right
  IsWritten (Choice test first second) = IsWritten test × (IsWritten first × IsWritten second)

  pub AreWritten : Exprs → Type 0
  AreWritten NoPart = Unit {0}
  AreWritten (Part e es) = IsWritten e × AreWritten es

abbrev pub IsWrittenDriver : Option Driver → Type 0
IsWrittenDriver None = Unit {0}
IsWrittenDriver (Some d) = IsWritten (plain d.value)

abbrev pub IsWrittenStmt : tree_stmt.Stmt → Type 0
IsWrittenStmt (stmt.Next target d) = IsWritten (plain d.value)
IsWrittenStmt (stmt.Reset at first first_sign_at start target d) = IsLiteral start.width start.value × IsWritten (plain d.value)
IsWrittenStmt (stmt.Write at paren_at enable target bracket_at index d) = IsWritten (plain enable) × (IsWritten (plain index) × IsWritten (plain d.value))

abbrev pub IsWrittenItem : tree_item.Item → Type 0
IsWrittenItem (item.Wire at range name d) = IsWrittenDriver d
IsWrittenItem (item.Reg at range name cells) = Unit {0}
IsWrittenItem (item.Assign at target d) = IsWritten (plain d.value)
IsWrittenItem (item.Always at s) = IsWrittenStmt s

abbrev pub AreWrittenItems : List tree_item.Item → Type 0
AreWrittenItems [] = Unit {0}
AreWrittenItems (i ∷ is) = IsWrittenItem i × AreWrittenItems is

-- ---- how many ports, items and expressions there are; parentheses are not counted

abbrev mutual
  pub size_of : Expr → ℕ
  size_of (Literal width value) = 1
  size_of (Named name) = 1
  size_of (Select name high low) = 1
  size_of (Cell name index) = suc (size_of index)
  size_of (Not inner) = suc (size_of inner)
  size_of (Join parts) = suc (size_of_parts parts)
  size_of (Binary sign left right) = suc (size_of left + size_of right)
  size_of (Choice test first second) = suc (size_of test + (size_of first + size_of second))

  pub size_of_parts : Exprs → ℕ
  size_of_parts NoPart = 0
  size_of_parts (Part e es) = size_of e + size_of_parts es

abbrev pub driver_size : Option Driver → ℕ
driver_size None = 0
driver_size (Some d) = size_of (plain d.value)

abbrev pub stmt_size : tree_stmt.Stmt → ℕ
stmt_size (stmt.Next target d) = size_of (plain d.value)
stmt_size (stmt.Reset at first first_sign_at start target d) = size_of (plain d.value)
stmt_size (stmt.Write at paren_at enable target bracket_at index d) = size_of (plain enable) + (size_of (plain index) + size_of (plain d.value))

abbrev pub item_size : tree_item.Item → ℕ
item_size (item.Wire at range name d) = suc (driver_size d)
item_size (item.Reg at range name cells) = 1
item_size (item.Assign at target d) = suc (size_of (plain d.value))
item_size (item.Always at s) = suc (stmt_size s)

abbrev pub items_size : List tree_item.Item → ℕ
items_size [] = 0
items_size (i ∷ is) = item_size i + items_size is

abbrev pub tree_size : Tree → ℕ
tree_size t = length t.ports + items_size t.items

-- ---- both

pub record IsBounded (t : Tree) : Type 0 where
  pub written : AreWrittenItems t.items
  -- as many as bytes in the longest text
  pub size : tree_size t ≤ 2 ^ 24
