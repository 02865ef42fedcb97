-- The statements at the clock by the names that they give a value to.
use Rattle.std.specs.Prelude.{ℕ, List, [], ◌∷◌, Option, Some, None}
use Rattle.verilog_tree.specs.declared.tree.Stmt.{Stmt}
use Rattle.verilog_tree.specs.declared.tree.Stmt.TheVariants.{Next, Reset, Write}
use Rattle.verilog_tree.specs.declared.tree.Item as tree
use Rattle.verilog_tree.specs.declared.tree.Item.TheVariants.{Wire, Reg, Assign, Always}
use Rattle.verilog_mean.specs.Look.{pick}
use Rattle.verilog_mean.specs.Erase.{plain}
use Rattle.verilog_mean.specs.Drivers.{stmt_target}
use Rattle.verilog_mean.specs.Cycle.{Clocked, Writing}
use Rattle.verilog_mean.specs.Cycle.Clocked.{Stays, Takes, Restarts}
use Rattle.verilog_mean.specs.Cycle.Writing.{Keeps, Puts}

abbrev pub stmt_given : tree.Item → Option (List ℕ × Stmt)
stmt_given (Wire at range name d) = None
stmt_given (Reg at range name cells) = None
stmt_given (Assign at target d) = None
stmt_given (Always at s) = Some ((stmt_target s).text, s)

-- the last statement of each name, or what was there before
abbrev pub last_from : (List ℕ → Option Stmt) → List tree.Item → List ℕ → Option Stmt
last_from o [] = o
last_from o (i ∷ is) = last_from (λ y. pick (stmt_given i) y (o y)) is

-- the statement of each name in a module
abbrev pub last_of : List tree.Item → List ℕ → Option Stmt
last_of items = last_from (λ y. None) items

-- what a statement does at the clock
abbrev pub clocked : Option Stmt → Clocked
clocked None = Stays
clocked (Some (Next target d)) = Takes (plain d.value)
clocked (Some (Reset at first first_sign_at start target d)) = Restarts start.value (plain d.value)
clocked (Some (Write at paren_at enable target bracket_at index d)) = Stays

abbrev pub writing : Option Stmt → Writing
writing None = Keeps
writing (Some (Next target d)) = Keeps
writing (Some (Reset at first first_sign_at start target d)) = Keeps
writing (Some (Write at paren_at enable target bracket_at index d)) = Puts (plain enable) (plain index) (plain d.value)
