use Rattle.verilog_write.proofs.Whole.{written_whole}
use Rattle.verilog_write.proofs.netlist.write_netlist.Goals as goal

pub returns : goal.returns
returns c =
    written_whole c.args.m.now c.args.pool.now.nodes c.args.marks.now _ _ _ _ _ _ c.new-out.ensures.items
    c.in_ok-push_text.ensures c.in_ok-push_made.ensures c.in_ok-push_nodes.ensures c.in_ok-push_driven.ensures c.in_ok-push_text-2.ensures
