use Rattle.std.proofs.Common.{◌≡◌, ◌++◌}
use Rattle.module_netlist.specs.Lines.{drive_line}
use Rattle.verilog_write.specs.Sections.{section}
use Rattle.verilog_write.proofs.section.push_drives.Given as goal

abbrev pub invariant-loop-wire : goal.invariant-loop-wire
invariant-loop-wire l = l.out.items ≡ l.initial.out.items ++ section (drive_line l.m) l.wire
