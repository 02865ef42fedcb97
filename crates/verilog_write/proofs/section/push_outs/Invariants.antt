use Rattle.std.proofs.Common.{◌≡◌, ◌++◌}
use Rattle.module_netlist.specs.Lines.{out_line}
use Rattle.verilog_write.specs.Sections.{section}
use Rattle.verilog_write.proofs.section.push_outs.Given as goal

abbrev pub invariant-loop-port : goal.invariant-loop-port
invariant-loop-port l = l.out.items ≡ l.initial.out.items ++ section (out_line l.m) l.port
