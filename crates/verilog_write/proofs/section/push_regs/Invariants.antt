use Rattle.std.proofs.Common.{◌≡◌, ◌++◌}
use Rattle.module_netlist.specs.Lines.{reg_line}
use Rattle.verilog_write.specs.Sections.{section}
use Rattle.verilog_write.proofs.section.push_regs.Given as goal

abbrev pub invariant-loop-reg : goal.invariant-loop-reg
invariant-loop-reg l = l.out.items ≡ l.initial.out.items ++ section (reg_line l.m) l.reg
