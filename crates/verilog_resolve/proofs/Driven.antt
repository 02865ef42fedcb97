-- A sweep over the nodes of a module's drivers gives each name its value in the module's cycle.
use Rattle.std.proofs.Common.{◌≡◌, ℕ, List, ◌∷◌}
use Rattle.verilog_mean.specs.Cycle.{width_in, width_of, eval, value}
use Rattle.verilog_mean.specs.Erase.{plain}
use Rattle.verilog_mean.proofs.Driven.{value_driven}
use Rattle.verilog_flat.specs.declared.node.Node.{Node}
use Rattle.verilog_resolve.specs.declared.driver.WireDriver.{WireDriver}
use Rattle.verilog_resolve.specs.declared.names.Place.{Place}
use Rattle.verilog_resolve.specs.Means.{Matches}
use Rattle.verilog_resolve.specs.Wires.{Binds}

pub binds_one : (drivers rest : List WireDriver) (d : WireDriver) (ns ms os : List Node) (p q r : List ℕ → Place)
    → Binds drivers (d ∷ rest) ns ms p q
    → ((regs cells ins : List ℕ) (w : List ℕ → ℕ) (arrays : List ℕ → List ℕ) (val : List ℕ → ℕ)
    → w d.name.now ≡ width_of w (plain d.value.now) → val d.name.now ≡ eval w arrays val (plain d.value.now)
    → ((x : List ℕ) → Matches regs cells ins w arrays val ms x (q x)) → (x : List ℕ) → Matches regs cells ins w arrays val os x (r x))
    → Binds drivers rest ns os p r
binds_one drivers rest d ns ms os p q r before means m rank ranked driven s ins regs cells inputs match_ =
    let b = before m rank ranked driven s ins regs cells inputs match_ in (
      b.0.1.1,
      means regs cells inputs (width_in m) s.cells (value m s ins) b.0.1.0
          (value_driven m rank ranked s ins d.name.now (plain d.value.now) b.0.0) b.1,
    )
