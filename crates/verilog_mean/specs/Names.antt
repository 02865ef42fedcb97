-- Names are declared once, and before they are used (IEEE 1364-2005, 3.7, 4.3, 4.5, 4.11;
-- the standard also has wires without a declaration, which this subset has not).
use Rattle.std.specs.Prelude.{ℕ, Bool, false, not, eqb, leb, List, [], ◌∷◌, ◌++◌, ◌&&◌, ◌||◌, Option, Some, None, codes}
use Rattle.core_words.specs.Names.{same_name}
use Rattle.verilog_tree.specs.declared.expr.Ident.{Ident}
use Rattle.verilog_tree.specs.declared.expr.Pair.{Pair}
use Rattle.verilog_tree.specs.declared.expr.Expr as tree
use Rattle.verilog_tree.specs.declared.expr.Expr.{Cell', Paren', Not', Join', Binary', Choice', Row_of-Expr, end_of-Expr, more_of-Expr}
use Rattle.verilog_tree.specs.declared.tree.Driver.{Driver}
use Rattle.verilog_tree.specs.declared.tree.PortDecl.{PortDecl}
use Rattle.verilog_tree.specs.declared.tree.Stmt as tree_stmt
use Rattle.verilog_tree.specs.declared.tree.Stmt.TheVariants as stmt
use Rattle.verilog_tree.specs.declared.tree.Item as tree_item
use Rattle.verilog_tree.specs.declared.tree.Item.TheVariants as item
use Rattle.verilog_tree.specs.declared.tree.Tree.{Tree}
use Rattle.verilog_mean.specs.declared.refusal.MeanRefusal.{MeanRefusal}
use Rattle.verilog_mean.specs.declared.refusal.MeanRefusal.TheVariants.{NameTwice, BadSize, NameUnknown}
use Rattle.verilog_mean.specs.Look.{put_if}
use Rattle.verilog_mean.specs.Erase.{range_width}
use Rattle.verilog_mean.specs.declared.class.Class.{Class}
use Rattle.verilog_mean.specs.Declarations.{Declaration, declarations, item_declaration, index_width}
use Rattle.verilog_mean.specs.declared.class.Class.TheVariants.{Input, Output, Wired, Register, Array}

abbrev pub Refusals : Type 0
Refusals = List MeanRefusal

abbrev pub is_among : List ℕ → List (List ℕ) → Bool
is_among x [] = false
is_among x (y ∷ ys) = same_name y x || is_among x ys

-- ---- first rule: no name is declared again

abbrev pub repeated : (seen : List (List ℕ)) → List Declaration → Refusals
repeated seen [] = []
repeated seen (d ∷ ds) = put_if (is_among d.name.text seen) (NameTwice d.name.at) (repeated (d.name.text ∷ seen) ds)

abbrev pub names_twice : Tree → Refusals
names_twice t = repeated [] (declarations t)

-- ---- second rule: a range is [h:0] with h at most 63, and cells are [0:l] with l + 1 a power of 2 from 2 ^ 1 to 2 ^ 16

abbrev pub bad_range : Option Pair → Refusals → Refusals
bad_range None rest = rest
bad_range (Some p) rest = put_if (not (leb p.first.value 63)) (BadSize p.first.at p.first.value) (put_if (not (eqb p.second.value 0)) (BadSize p.second.at p.second.value) rest)

abbrev pub bad_cells : Class → Refusals → Refusals
bad_cells (Array p) rest = put_if (not (eqb p.first.value 0)) (BadSize p.first.at p.first.value) (put_if (eqb (index_width p.second.value) 0) (BadSize p.second.at p.second.value) rest)
bad_cells Input rest = rest
bad_cells Output rest = rest
bad_cells (Wired inline) rest = rest
bad_cells Register rest = rest

abbrev pub bad_sizes_in : List Declaration → Refusals
bad_sizes_in [] = []
bad_sizes_in (d ∷ ds) = bad_range d.range (bad_cells d.class (bad_sizes_in ds))

abbrev pub bad_sizes : Tree → Refusals
bad_sizes t = bad_sizes_in (declarations t)

-- ---- third rule: a name that is used is declared before; `clk` and `reset` are inputs of one bit

-- the names of an expression that are not known, in the order of the text
abbrev pub unknown_name : (known : List (List ℕ)) → Ident → Refusals → Refusals
unknown_name known i rest = put_if (not (is_among i.text known)) (NameUnknown i.at) rest

abbrev mutual
  pub unknown_in : (known : List (List ℕ)) → tree.Expr → Refusals
  unknown_in known (tree.Literal l) = []
  unknown_in known (tree.Named i) = unknown_name known i []
  unknown_in known (tree.Select i bits) = unknown_name known i []
  unknown_in known (Cell' i at s (more_of-Expr index end_of-Expr)) = unknown_name known i (unknown_in known index)
  unknown_in known (Paren' at s (more_of-Expr inner end_of-Expr)) = unknown_in known inner
  unknown_in known (Not' at s (more_of-Expr inner end_of-Expr)) = unknown_in known inner
  unknown_in known (Join' at s parts) = unknown_in_parts known parts
  unknown_in known (Binary' sign at s (more_of-Expr left end_of-Expr) s' (more_of-Expr right end_of-Expr)) = unknown_in known left ++ unknown_in known right
  unknown_in known (Choice' at at' s (more_of-Expr test end_of-Expr) s' (more_of-Expr first end_of-Expr) s'' (more_of-Expr second end_of-Expr)) =
      unknown_in known test ++ (unknown_in known first ++ unknown_in known second)

  pub unknown_in_parts : {n : _} → (known : List (List ℕ)) → Row_of-Expr n → Refusals
  unknown_in_parts known end_of-Expr = []
  unknown_in_parts known (more_of-Expr e rest) = unknown_in known e ++ unknown_in_parts known rest

abbrev pub unknown_in_driver : (known : List (List ℕ)) → Option Driver → Refusals
unknown_in_driver known None = []
unknown_in_driver known (Some d) = unknown_in known d.value

abbrev pub unknown_in_stmt : (known : List (List ℕ)) → tree_stmt.Stmt → Refusals
unknown_in_stmt known (stmt.Next target d) = unknown_name known target (unknown_in known d.value)
unknown_in_stmt known (stmt.Reset at first first_sign_at start target d) = unknown_name known first (unknown_name known target (unknown_in known d.value))
unknown_in_stmt known (stmt.Write at paren_at enable target bracket_at index d) =
    unknown_in known enable ++ unknown_name known target (unknown_in known index ++ unknown_in known d.value)

-- a wire is known in its own driver
abbrev pub unknown_in_item : (known : List (List ℕ)) → tree_item.Item → Refusals
unknown_in_item known (item.Wire at range name d) = unknown_in_driver (name.text ∷ known) d
unknown_in_item known (item.Reg at range name cells) = []
unknown_in_item known (item.Assign at target d) = unknown_name known target (unknown_in known d.value)
unknown_in_item known (item.Always at s) = unknown_in_stmt known s

abbrev pub known_after : (known : List (List ℕ)) → Option Declaration → List (List ℕ)
known_after known None = known
known_after known (Some d) = d.name.text ∷ known

abbrev pub unknown_in_items : (known : List (List ℕ)) → List tree_item.Item → Refusals
unknown_in_items known [] = []
unknown_in_items known (i ∷ is) = unknown_in_item known i ++ unknown_in_items (known_after known (item_declaration i)) is

abbrev pub port_names : List PortDecl → List (List ℕ)
port_names [] = []
port_names (p ∷ ps) = p.name.text ∷ port_names ps

abbrev pub is_bit_input : List PortDecl → List ℕ → Bool
is_bit_input [] x = false
is_bit_input (p ∷ ps) x = (p.input && (same_name p.name.text x && eqb (range_width p.range) 1)) || is_bit_input ps x

abbrev pub names_unknown : Tree → Refusals
names_unknown t = put_if (not (is_bit_input t.ports (codes "clk") && is_bit_input t.ports (codes "reset"))) (NameUnknown t.name.at) (unknown_in_items (port_names t.ports) t.items)
