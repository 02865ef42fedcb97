-- The number of the item that gives a name its value. It is the first with a source for it, where no input has the name.
use Rattle.std.specs.Prelude.{ℕ, suc, List, [], ◌∷◌, Option, Some, None}
use Rattle.std.specs.HashMap.{get_by}
use Rattle.core_words.specs.Names.{same_name}
use Rattle.verilog_tree.specs.declared.expr.Ident.{Ident}
use Rattle.verilog_tree.specs.declared.expr.Pair.{Pair}
use Rattle.verilog_tree.specs.declared.tree.Driver.{Driver}
use Rattle.verilog_tree.specs.declared.tree.Item as tree_item
use Rattle.verilog_tree.specs.declared.tree.Item.TheVariants as item
use Rattle.verilog_mean.specs.Look.{look, pick}
use Rattle.verilog_mean.specs.Plain.{Item, Port, Plain}
use Rattle.verilog_mean.specs.Cycle.{Source, item_source, port_source}
use Rattle.verilog_rules.specs.declared.sources.Sources.{Sources}

-- ---- in the module

abbrev pub with_giver : Option (List ℕ × Source) → (giver : Option ℕ) → Option (List ℕ × Option ℕ)
with_giver None giver = None
with_giver (Some p) giver = Some (p.0, giver)

-- an input has no number
abbrev pub port_giver : Port → Option (List ℕ × Option ℕ)
port_giver p = with_giver (port_source p) None

-- among the items, counted from a number on
abbrev pub giver_from : (at : ℕ) → List Item → List ℕ → Option (Option ℕ)
giver_from at [] x = None
giver_from at (i ∷ is) x = pick (with_giver (item_source i) (Some at)) x (giver_from (suc at) is x)

abbrev pub or_next : {A : Type 0} → Option A → Option A → Option A
or_next None next = next
or_next (Some a) next = Some a

abbrev pub giver : Plain → List ℕ → Option (Option ℕ)
giver m x = or_next (look port_giver m.ports x) (giver_from 0 m.items x)

abbrev pub number_of : Option (Option ℕ) → Option ℕ
number_of None = None
number_of (Some n) = n

abbrev pub item_number : Plain → List ℕ → Option ℕ
item_number m x = number_of (giver m x)

-- ---- in a table

abbrev pub givers : Sources → List ℕ → Option (Option ℕ)
givers s x = get_by (λ k. same_name x k.now) s.by_name

abbrev pub number_in : Sources → List ℕ → Option ℕ
number_in s x = number_of (givers s x)

-- ---- in the tree

abbrev pub wire_source : Ident → Option Driver → Option Ident
wire_source name None = None
wire_source name (Some d) = Some name

abbrev pub reg_source : Ident → Option Pair → Option Ident
reg_source name None = Some name
reg_source name (Some cells) = None

-- the name that an item gives a value in each cycle
abbrev pub source_ident : tree_item.Item → Option Ident
source_ident (item.Wire at range name d) = wire_source name d
source_ident (item.Reg at range name cells) = reg_source name cells
source_ident (item.Assign at target d) = Some target
source_ident (item.Always at s) = None
