-- The texts of a module.
use Rattle.std.specs.Prelude.{◌≡◌, ℕ, Bool, List}
use Rattle.hw_pool.specs.declared.node.Node.{Node}
use Rattle.hw_module.specs.Reached.{AreMarks}
use Rattle.hw_module.specs.Rows.{ModuleValue}
use Rattle.verilog_netlist.specs.Text.{text_of}
use Rattle.module_netlist.specs.Lines.{netlist_of}

-- the text of a module over the nodes that it reaches
pub record IsTextOf (m : ModuleValue) (nodes : List Node) (text : List ℕ) : Type 0 where
  pub marks : List Bool
  pub reached : AreMarks m nodes marks
  pub bytes : text ≡ text_of (netlist_of m nodes marks)
