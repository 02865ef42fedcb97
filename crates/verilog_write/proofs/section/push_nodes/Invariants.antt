use Rattle.std.proofs.Common.{◌≡◌, ◌++◌}
use Rattle.module_netlist.specs.Lines.{node_line}
use Rattle.verilog_write.specs.Sections.{section}
use Rattle.verilog_write.proofs.section.push_nodes.Given as goal

abbrev pub invariant-loop-number : goal.invariant-loop-number
invariant-loop-number l = l.out.items ≡ l.initial.out.items ++ section (node_line l.m l.pool.nodes l.marks) l.number
