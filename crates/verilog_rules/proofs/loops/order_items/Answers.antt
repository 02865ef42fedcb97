use Rattle.std.proofs.Common.{◌∙◌}
use Rattle.verilog_mean.specs.Erase.{plain_tree}
use Rattle.verilog_mean.proofs.NoLoop.{ranked_no_loop}
use Rattle.verilog_rules.proofs.LoopPlaces.{graph_within, graph_few, graph_order}
use Rattle.verilog_rules.proofs.loops.order_items.Goals as goal

pub sort-requires-clause-within : goal.sort-requires-clause-within
sort-requires-clause-within c = graph_within c.args.tree.now c.as_slice.result.now (c.as_slice.ensures.value ∙ c.in-Ok-graph_of.ensures)

pub sort-requires-clause-few : goal.sort-requires-clause-few
sort-requires-clause-few c = graph_few c.args.tree.now c.as_slice.result.now (c.as_slice.ensures.value ∙ c.in-Ok-graph_of.ensures) c.requires.few

pub returns-in-Ok-sort-clause-order : goal.returns-in-Ok-sort-clause-order
returns-in-Ok-sort-clause-order c =
    graph_order c.args.tree.now c.as_slice.result.now c.in-Ok-sort.order.items (c.as_slice.ensures.value ∙ c.in-Ok-graph_of.ensures) c.in-Ok-sort.ensures.order

pub returns-in-Ok-sort-clause-no_loop : goal.returns-in-Ok-sort-clause-no_loop
returns-in-Ok-sort-clause-no_loop c =
    let o = graph_order c.args.tree.now c.as_slice.result.now c.in-Ok-sort.order.items (c.as_slice.ensures.value ∙ c.in-Ok-graph_of.ensures) c.in-Ok-sort.ensures.order in
    ranked_no_loop (plain_tree c.args.tree.now) o.rank o.ranked

pub loop_of-requires-clause-few : goal.loop_of-requires-clause-few
loop_of-requires-clause-few c = graph_few c.args.tree.now c.as_slice-in-Err-Loop.result.now (c.as_slice-in-Err-Loop.ensures.value ∙ c.in-Ok-graph_of.ensures) c.requires.few
