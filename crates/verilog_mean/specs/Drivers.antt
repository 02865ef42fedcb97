-- Seventh and eighth rule: each wire, output, register and array has one driver (IEEE 1364-2005, 6.1).
use Rattle.std.specs.Prelude.{ℕ, Bool, true, false, not, List, [], ◌∷◌, ◌&&◌, Option, Some, None}
use Rattle.verilog_tree.specs.declared.expr.Ident.{Ident}
use Rattle.verilog_tree.specs.declared.tree.Driver.{Driver}
use Rattle.verilog_tree.specs.declared.tree.Stmt as tree_stmt
use Rattle.verilog_tree.specs.declared.tree.Stmt.TheVariants as stmt
use Rattle.verilog_tree.specs.declared.tree.Item as tree_item
use Rattle.verilog_tree.specs.declared.tree.Item.TheVariants as item
use Rattle.verilog_tree.specs.declared.tree.Tree.{Tree}
use Rattle.verilog_mean.specs.declared.refusal.MeanRefusal.TheVariants.{DriverTwice, DriverMissing}
use Rattle.verilog_mean.specs.Look.{put, put_if}
use Rattle.verilog_mean.specs.declared.class.Class.{Class}
use Rattle.verilog_mean.specs.Declarations.{Declaration, declarations}
use Rattle.verilog_mean.specs.declared.class.Class.TheVariants.{Input, Output, Wired, Register, Array}
use Rattle.verilog_mean.specs.Names.{Refusals, is_among}

-- the name that an item drives; in a reset statement the second of the two
abbrev pub stmt_target : tree_stmt.Stmt → Ident
stmt_target (stmt.Next target d) = target
stmt_target (stmt.Reset at first first_sign_at start target d) = target
stmt_target (stmt.Write at paren_at enable target bracket_at index d) = target

abbrev pub wire_target : Ident → Option Driver → Option Ident
wire_target name None = None
wire_target name (Some d) = Some name

abbrev pub item_target : tree_item.Item → Option Ident
item_target (item.Wire at range name d) = wire_target name d
item_target (item.Reg at range name cells) = None
item_target (item.Assign at target d) = Some target
item_target (item.Always at s) = Some (stmt_target s)

abbrev pub targets : List tree_item.Item → List Ident
targets [] = []
targets (i ∷ is) = put (item_target i) (targets is)

abbrev pub texts_of : List Ident → List (List ℕ)
texts_of [] = []
texts_of (i ∷ is) = i.text ∷ texts_of is

abbrev pub driven_again : (seen : List (List ℕ)) → List Ident → Refusals
driven_again seen [] = []
driven_again seen (i ∷ is) = put_if (is_among i.text seen) (DriverTwice i.at) (driven_again (i.text ∷ seen) is)

abbrev pub drivers_twice : Tree → Refusals
drivers_twice t = driven_again [] (targets t.items)

abbrev pub wants_driver : Class → Bool
wants_driver Input = false
wants_driver Output = true
wants_driver (Wired inline) = true
wants_driver Register = true
wants_driver (Array cells) = true

abbrev pub undriven : (driven : List (List ℕ)) → List Declaration → Refusals
undriven driven [] = []
undriven driven (d ∷ ds) = put_if (wants_driver d.class && not (is_among d.name.text driven)) (DriverMissing d.name.at) (undriven driven ds)

abbrev pub drivers_missing : Tree → Refusals
drivers_missing t = undriven (texts_of (targets t.items)) (declarations t)
