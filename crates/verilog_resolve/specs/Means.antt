-- What it is that nodes have the values of names and of expressions.
use Rattle.std.specs.Prelude.{◌≡◌, ℕ, ◌+◌, ◌^◌, ◌<◌, ◌≤◌, cond, ltb, List, length, get_or}
use Rattle.verilog_flat.specs.declared.node.Node.{Node}
use Rattle.verilog_flat.specs.Flat.{values}
use Rattle.verilog_mean.specs.Plain.{Expr}
use Rattle.verilog_mean.specs.Cycle.{eval, width_of}
use Rattle.verilog_resolve.specs.declared.names.Place.{Place}
use Rattle.verilog_resolve.specs.declared.names.Place.TheVariants.{Absent, Net, Array}
use Rattle.verilog_resolve.specs.Flat.{Grown}

-- Beside what the circuit holds and its inputs: w gives each name's width, arrays each array's cells, val each name's value.
module _ (regs cells ins : List ℕ) (w : List ℕ → ℕ) (arrays : List ℕ → List ℕ) (val : List ℕ → ℕ) where
  -- a place has the value of its name
  abbrev pub Matches : List Node → List ℕ → Place → Type 0
  Matches ns x Absent = Unit {0}
  Matches ns x (Net node width) =
      (node < length ns) × (width ≡ w x) × (width ≤ 64) × (get_or (values regs cells ins ns) node 0 ≡ val x) × (val x < 2 ^ width)
  Matches ns x (Array base size width) = (width ≡ w x) × (width ≤ 64)
      × ((i : ℕ) → cond (ltb i size) (get_or cells (base + i) 0) 0 ≡ get_or (arrays x) i 0) × ((i : ℕ) → get_or (arrays x) i 0 < 2 ^ width)

  -- the nodes of g, which are ns and others behind them, have a number v of so many bits
  pub record Holds (ns : List Node) (v bits : ℕ) (g : Grown) : Type 0 where
    pub longer : length ns ≤ length g.nodes
    pub within : g.at < length g.nodes
    pub width : g.width ≡ bits
    pub narrow : g.width ≤ 64
    pub is : get_or (values regs cells ins g.nodes) g.at 0 ≡ v
    pub bound : v < 2 ^ g.width
    pub keeps : (j : ℕ) → j < length ns → get_or (values regs cells ins g.nodes) j 0 ≡ get_or (values regs cells ins ns) j 0

  -- they have the value of an expression
  abbrev pub Means : List Node → Expr → Grown → Type 0
  Means ns e g = Holds ns (eval w arrays val e) (width_of w e) g
