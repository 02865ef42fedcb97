use Rattle.std.proofs.Common.{◌++◌, Some, codes}
use Rattle.std.proofs.lemmas.Result.{IfOk-equal}
use Rattle.verilog_netlist.specs.Netlist.Line.{Next}
use Rattle.module_netlist.specs.Names.{node_name, reg_name}
use Rattle.verilog_write.specs.Sections.{line_text}
use Rattle.verilog_write.proofs.Chains.{three}
use Rattle.verilog_write.proofs.line.push_next.Goals as goal

pub returns : goal.returns
unfolding line_text
returns c =
    IfOk-equal c.push_text.result c.push_text.new.out.items (c.push_node.new.out.items ++ codes ";")
    (c.args.out.now.items ++ line_text (Some (Next (reg_name c.args.m.now c.args.reg) (node_name c.args.node.0)))) c.push_text.ensures
    (three c.args.out.now.items _ _ (codes "\n  always @(posedge clk) " ++ reg_name c.args.m.now c.args.reg) (codes " <= " ++ node_name c.args.node.0) (codes ";")
    c.in_ok-push_reg.ensures c.in_ok-push_node.ensures)
