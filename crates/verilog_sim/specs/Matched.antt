-- A circuit in which each name of a tree has its place.
use Rattle.std.specs.Prelude.{◌≡◌, ℕ, List, map}
use Rattle.verilog_tree.specs.declared.tree.Tree.{Tree}
use Rattle.verilog_mean.specs.Cycle.{State}
use Rattle.verilog_mean.specs.Declarations.{declarations}
use Rattle.verilog_mean.specs.Erase.{plain_tree}
use Rattle.verilog_mean.specs.Run.{PortsFit}
use Rattle.verilog_flat.specs.declared.node.Node.{Node}
use Rattle.verilog_resolve.specs.declared.names.Place.{Place}
use Rattle.verilog_resolve.specs.declared.names.Place.TheVariants.{Absent, Net, Array}
use Rattle.verilog_resolve.specs.Wires.{AllMatch}
use Rattle.verilog_sim.specs.Simulates.{Shows}
use Rattle.verilog_sim.specs.Layouts.{layout_of}
use Rattle.verilog_sim.specs.Targets.{target}

abbrev pub IsPlace : Place → Type 0
IsPlace Absent = ⊥
IsPlace (Net node width) = Unit {0}
IsPlace (Array base size width) = Unit {0}

-- the kind and the width of each declared name are known
abbrev pub Knows : Tree → (List ℕ → Place) → Type 0
Knows t k = (y : List ℕ) → IsPlace (target (declarations t) y) → k y ≡ target (declarations t) y

-- whatever is held, and for all inputs, within their widths, each name has its value
abbrev pub MatchesAll : Tree → List Node → (List ℕ → Place) → Type 0
MatchesAll t ns p = (s : State) (inputs : List ℕ → ℕ) (regs cells : List ℕ) → Shows (plain_tree t) (layout_of (plain_tree t)) s regs cells → PortsFit (plain_tree t).ports inputs
    → AllMatch (plain_tree t) s inputs regs cells (map inputs (layout_of (plain_tree t)).ins) ns p
