-- What a module declares, in the order of the text: its ports, then its wires, registers and arrays.
use Rattle.std.specs.Prelude.{ℕ, zero, suc, ◌+◌, ◌^◌, Bool, true, false, eqb, List, [], ◌∷◌, Option, Some, None}
use Rattle.verilog_tree.specs.declared.expr.Ident.{Ident}
use Rattle.verilog_tree.specs.declared.expr.Pair.{Pair}
use Rattle.verilog_tree.specs.declared.tree.Driver.{Driver}
use Rattle.verilog_tree.specs.declared.tree.PortDecl.{PortDecl}
use Rattle.verilog_tree.specs.declared.tree.Item as tree_item
use Rattle.verilog_tree.specs.declared.tree.Item.TheVariants as item
use Rattle.verilog_tree.specs.declared.tree.Tree.{Tree}
use Rattle.verilog_mean.specs.declared.class.Class.{Class}
use Rattle.verilog_mean.specs.declared.class.Class.TheVariants.{Input, Output, Wired, Register, Array}
use Rattle.verilog_mean.specs.Look.{look, put}
use Rattle.verilog_mean.specs.Erase.{range_width}

pub record Declaration : Type 0 where
  pub name : Ident
  pub range : Option Pair
  pub class : Class

abbrev pub port_class : (input : Bool) → Class
port_class true = Input
port_class false = Output

abbrev pub port_declaration : PortDecl → Declaration
port_declaration p = record { name = p.name; range = p.range; class = port_class p.input }

abbrev pub is_inline : Option Driver → Bool
is_inline None = false
is_inline (Some d) = true

abbrev pub reg_class : Option Pair → Class
reg_class None = Register
reg_class (Some cells) = Array cells

abbrev pub item_declaration : tree_item.Item → Option Declaration
item_declaration (item.Wire at range name driver) = Some (record { name = name; range = range; class = Wired (is_inline driver) })
item_declaration (item.Reg at range name cells) = Some (record { name = name; range = range; class = reg_class cells })
item_declaration (item.Assign at target driver) = None
item_declaration (item.Always at stmt) = None

abbrev pub declared_items : List tree_item.Item → List Declaration
declared_items [] = []
declared_items (i ∷ is) = put (item_declaration i) (declared_items is)

abbrev pub declared_ports : List PortDecl → List Declaration → List Declaration
declared_ports [] rest = rest
declared_ports (p ∷ ps) rest = port_declaration p ∷ declared_ports ps rest

abbrev pub declarations : Tree → List Declaration
declarations t = declared_ports t.ports (declared_items t.items)

-- the first declaration of a name
abbrev pub by_name : Declaration → Option (List ℕ × Declaration)
by_name d = Some (d.name.text, d)

abbrev pub declaration_of : List Declaration → List ℕ → Option Declaration
declaration_of ds x = look by_name ds x

-- the declared width of a name, 0 where there is none
abbrev pub declared_width : Option Declaration → ℕ
declared_width None = 0
declared_width (Some d) = range_width d.range

abbrev pub width_among : List Declaration → List ℕ → ℕ
width_among ds x = declared_width (declaration_of ds x)

-- the number of bits of an array's index: k where the last index plus 1 is 2 ^ k, for k from 1 to 16; else 0
abbrev pub index_width_from : (tries k last : ℕ) → ℕ
index_width_from zero k last = 0
index_width_from (suc tries) k last = elim (eqb (last + 1) (2 ^ k)) [ true ↦ k | false ↦ index_width_from tries (suc k) last ]

abbrev pub index_width : (last : ℕ) → ℕ
index_width last = index_width_from 16 1 last

abbrev pub class_index_width : Class → ℕ
class_index_width (Array cells) = index_width cells.second.value
class_index_width Input = 0
class_index_width Output = 0
class_index_width (Wired inline) = 0
class_index_width Register = 0

abbrev pub declared_index_width : Option Declaration → ℕ
declared_index_width None = 0
declared_index_width (Some d) = class_index_width d.class
