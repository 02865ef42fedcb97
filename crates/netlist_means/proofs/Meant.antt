-- The netlist of a module means the module.
use Rattle.std.proofs.Common.{Bool, List}
use Rattle.hw_pool.specs.Nodes.{PoolValue}
use Rattle.hw_module.specs.Rows.{ModuleValue}
use Rattle.hw_module.specs.Reached.{AreMarks}
use Rattle.verilog_netlist.specs.Meaning.{plain_of}
use Rattle.module_netlist.specs.Lines.{netlist_of}
use Rattle.module_netlist.specs.Means.{Means}
use Rattle.module_netlist.specs.Written.{IsWritten}
use Rattle.netlist_means.proofs.Values.{wire_is, out_is, reg_is, array_is}
use Rattle.netlist_means.proofs.Contents.{starts, zeroes}

pub netlist_means : (m : ModuleValue) (pool : PoolValue) (marks : List Bool) → IsWritten m pool → AreMarks m pool.nodes marks
    → Means m pool.nodes (plain_of (netlist_of m pool.nodes marks))
netlist_means m pool marks is are = record {
  wires = wire_is m pool marks is are;
  outs = out_is m pool marks is are;
  regs = reg_is m pool marks is are;
  cells = array_is m pool marks is are;
  start = λ s. starts s m pool.nodes marks;
  zeros = λ s. zeroes s m pool.nodes marks;
}
