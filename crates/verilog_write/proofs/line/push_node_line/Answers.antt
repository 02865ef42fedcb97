use Rattle.std.proofs.Common.{◌++◌, [], Some, ap, ◌∙◌, codes}
use Rattle.std.proofs.lemmas.Result.{IfOk-equal}
use Rattle.hw_pool.specs.declared.node.Node.{Node}
use Rattle.verilog_netlist.specs.Netlist.Line.{Net}
use Rattle.verilog_netlist.specs.Text.{joined, range_pieces, value_pieces}
use Rattle.module_netlist.specs.Names.{node_name}
use Rattle.module_netlist.specs.Lines.{node_value}
use Rattle.verilog_write.specs.Sections.{line_text, net_line}
use Rattle.verilog_write.proofs.Chains.{five}
use Rattle.verilog_write.proofs.Joins.{net_text}
use Rattle.verilog_write.proofs.line.push_node_line.Goals as goal

pub returns : goal.returns
returns c =
    let n = c.node_row-node.result in
    let m = c.args.m.now in
    IfOk-equal c.push_text-2.result c.push_text-2.new.out.items (c.push_value.new.out.items ++ codes ";")
    (c.args.out.now.items ++ line_text (Some (net_line m c.args.pool.now.nodes c.args.number))) c.push_text-2.ensures
    (five c.args.out.now.items _ _ _ _ (codes "\n  wire" ++ joined (range_pieces n.width []) []) (codes " " ++ node_name c.args.number) (codes " =")
    (joined (value_pieces (node_value m n.width n.op) []) []) (codes ";")
    c.in_ok-push_range.ensures c.in_ok-push_node.ensures c.in_ok-push_text.ensures c.in_ok-push_value.ensures
    ∙ ap (λ l. c.args.out.now.items ++ l) (net_text c.args.number n.width (node_value m n.width n.op)
    ∙ ap (λ (x : Node). line_text (Some (Net x.width (node_name c.args.number) (node_value m x.width x.op)))) c.node_row-node.ensures.node))
