use Rattle.std.proofs.Common.{◌≡◌, ◌∙◌}
use Rattle.std.proofs.lemmas.Result.{IfOk-weaker}
use Rattle.verilog_mean.specs.Erase.{plain_items, plain_tree}
use Rattle.verilog_rules.specs.Edges.{IsGraph, edges_in}
use Rattle.verilog_rules.specs.Sources.{item_number, number_in}
use Rattle.verilog_rules.proofs.loops.graph_of.Goals as goal

pub returns : goal.returns
returns c =
    let same : c.as_slice.result.now ≡ c.args.tree.now.items = c.as_slice.ensures.value ∙ c.items.ensures in
    let numbers : number_in c.args.sources.now ≡ item_number (plain_tree c.args.tree.now) = λ i x. c.requires x i in
    IfOk-weaker c.edges_of.result (λ edges. edges.items ≡ edges_in (number_in c.args.sources.now) (plain_items c.as_slice.result.now)) (λ edges. IsGraph c.args.tree.now edges.items)
    (λ edges h. h ∙ (λ i. edges_in (numbers i) (plain_items (same i)))) c.edges_of.ensures
