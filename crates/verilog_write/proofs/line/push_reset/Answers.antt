use Rattle.std.proofs.Common.{◌++◌, Some, codes, decimal, false}
use Rattle.std.specs.Fmt.{digits}
use Rattle.std.proofs.lemmas.Result.{IfOk-equal}
use Rattle.verilog_netlist.specs.Netlist.Line.{Reset}
use Rattle.module_netlist.specs.Names.{node_name, reg_name}
use Rattle.verilog_write.specs.Sections.{line_text}
use Rattle.verilog_write.proofs.Chains.{five}
use Rattle.verilog_write.proofs.line.push_reset.Goals as goal

pub returns : goal.returns
unfolding line_text
returns c =
    IfOk-equal c.push_text.result c.push_text.new.out.items (c.push_node.new.out.items ++ codes ";")
    (c.args.out.now.items ++ line_text (Some (Reset (reg_name c.args.m.now c.args.reg) c.args.width c.args.start (node_name c.args.node.0)))) c.push_text.ensures
    (five c.args.out.now.items _ _ _ _ (codes "\n  always @(posedge clk) if (reset) " ++ reg_name c.args.m.now c.args.reg)
    (codes " <= " ++ (decimal c.args.width ++ (codes "'h" ++ digits 16 false c.args.start)))
    (codes "; else " ++ reg_name c.args.m.now c.args.reg) (codes " <= " ++ node_name c.args.node.0) (codes ";")
    c.in_ok-push_reg.ensures c.in_ok-push_literal.ensures c.in_ok-push_reg-2.ensures c.in_ok-push_node.ensures)
