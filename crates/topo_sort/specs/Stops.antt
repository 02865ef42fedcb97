-- Why there is no order.
use Rattle.std.specs.Prelude.{ℕ, List}
use Rattle.topo_sort.specs.Graph.{Leads}
use Rattle.topo_sort.specs.declared.step.Stop.{Stop}
use Rattle.topo_sort.specs.declared.step.Stop.TheVariants.{Loop, NoMemory}

abbrev pub IsStop : List (List ℕ) → Stop → Type 0
IsStop edges (Loop node) = Leads edges node node
IsStop edges NoMemory = Unit {0}
