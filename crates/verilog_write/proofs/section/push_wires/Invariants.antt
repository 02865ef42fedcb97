use Rattle.std.proofs.Common.{◌≡◌, ◌++◌}
use Rattle.module_netlist.specs.Lines.{wire_line}
use Rattle.verilog_write.specs.Sections.{section}
use Rattle.verilog_write.proofs.section.push_wires.Given as goal

abbrev pub invariant-loop-wire : goal.invariant-loop-wire
invariant-loop-wire l = l.out.items ≡ l.initial.out.items ++ section (wire_line l.m) l.wire
