-- The graph of a module's items: each needs those that give the names in its driver their values.
use Rattle.std.specs.Prelude.{◌≡◌, ℕ, List, [], ◌∷◌, ◌++◌, Option, Some, None}
use Rattle.verilog_tree.specs.declared.expr.Expr as tree
use Rattle.verilog_tree.specs.declared.tree.Driver.{Driver}
use Rattle.verilog_tree.specs.declared.tree.Item as tree_item
use Rattle.verilog_tree.specs.declared.tree.Item.TheVariants as item
use Rattle.verilog_mean.specs.Plain.{Expr, Exprs, Item}
use Rattle.verilog_mean.specs.Plain.Expr.{Literal, Named, Select, Cell, Not, Join, Binary, Choice}
use Rattle.verilog_mean.specs.Plain.Exprs.{NoPart, Part}
use Rattle.verilog_mean.specs.Erase.{plain, plain_items, plain_tree}
use Rattle.verilog_mean.specs.Order.{drive_of}
use Rattle.verilog_tree.specs.declared.tree.Tree.{Tree}
use Rattle.verilog_rules.specs.Sources.{item_number}
use denote.Bor.{Bor}

abbrev pub with_number : List ℕ → Option ℕ → List ℕ
with_number needs None = needs
with_number needs (Some n) = needs ++ (n ∷ [])

-- the numbers of an expression's names behind some that are there, where f gives each name's number
abbrev mutual
  pub needs_after : (f : List ℕ → Option ℕ) → List ℕ → Expr → List ℕ
  needs_after f needs (Literal width value) = needs
  needs_after f needs (Named name) = with_number needs (f name)
  needs_after f needs (Select name high low) = with_number needs (f name)
  needs_after f needs (Cell name index) = needs_after f needs index
  needs_after f needs (Not inner) = needs_after f needs inner
  needs_after f needs (Join parts) = needs_after_parts f needs parts
  needs_after f needs (Binary sign left right) = needs_after f (needs_after f needs left) right
  needs_after f needs (Choice test first second) = needs_after f (needs_after f (needs_after f needs test) first) second

  pub needs_after_parts : (f : List ℕ → Option ℕ) → List ℕ → Exprs → List ℕ
  needs_after_parts f needs NoPart = needs
  needs_after_parts f needs (Part part parts) = needs_after_parts f (needs_after f needs part) parts

-- what an item needs that drives a name
abbrev pub needs_of : (f : List ℕ → Option ℕ) → Option (List ℕ × Expr) → List ℕ
needs_of f None = []
needs_of f (Some d) = needs_after f [] d.1

abbrev pub edges_in : (f : List ℕ → Option ℕ) → List Item → List (List ℕ)
edges_in f [] = []
edges_in f (i ∷ is) = needs_of f (drive_of i) ∷ edges_in f is

-- ---- in the tree

-- shut, so that proofs go by its equations alone
unfoldable pub needs_in : (f : List ℕ → Option ℕ) → List ℕ → tree.Expr → List ℕ
needs_in f needs e = needs_after f needs (plain e)

-- the same for one expression after another
abbrev pub needs_in_each : (f : List ℕ → Option ℕ) → List ℕ → List tree.Expr → List ℕ
needs_in_each f needs [] = needs
needs_in_each f needs (e ∷ es) = needs_in_each f (needs_in f needs e) es

abbrev pub driver_of : tree_item.Item → Option Driver
driver_of (item.Wire at range name d) = d
driver_of (item.Reg at range name cells) = None
driver_of (item.Assign at target d) = Some d
driver_of (item.Always at s) = None

abbrev pub maybe_driver : Option (Bor Driver) → Option Driver
maybe_driver None = None
maybe_driver (Some d) = Some d.now

-- the graph of a tree
abbrev pub IsGraph : Tree → List (List ℕ) → Type 0
IsGraph t edges = edges ≡ edges_in (item_number (plain_tree t)) (plain_items t.items)
