use Rattle.std.proofs.Common.{◌++◌, Some, codes}
use Rattle.std.proofs.lemmas.Result.{IfOk-equal}
use Rattle.module_netlist.specs.Lines.{written}
use Rattle.module_netlist.specs.Names.{array_name, node_name}
use Rattle.verilog_write.specs.Sections.{line_text}
use Rattle.verilog_write.proofs.Chains.{five}
use Rattle.verilog_write.proofs.line.push_write.Goals as goal

pub returns : goal.returns
unfolding line_text
returns c =
    IfOk-equal c.push_text.result c.push_text.new.out.items (c.push_node-3.new.out.items ++ codes ";")
    (c.args.out.now.items ++ line_text (written (array_name c.args.m.now c.args.array) (Some c.args.write))) c.push_text.ensures
    (five c.args.out.now.items _ _ _ _ (codes "\n  always @(posedge clk) if (" ++ node_name c.args.write.enable.id.0)
    (codes ") " ++ array_name c.args.m.now c.args.array) (codes "[" ++ node_name c.args.write.addr.id.0) (codes "] <= " ++ node_name c.args.write.value.id.0) (codes ";")
    c.in_ok-push_node.ensures c.in_ok-push_array.ensures c.in_ok-push_node-2.ensures c.in_ok-push_node-3.ensures)
