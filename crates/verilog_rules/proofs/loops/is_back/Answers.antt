use Rattle.std.proofs.Common.{◌≡◌, true, false, Some, None, ◌∙◌, sym}
use Rattle.std.proofs.lemmas.Result.{IfOk-weaker}
use Rattle.topo_sort.specs.Graph.{Leads}
use Rattle.verilog_mean.specs.Erase.{plain_tree}
use Rattle.verilog_mean.specs.Loops.{Depends}
use Rattle.verilog_rules.specs.Sources.{item_number}
use Rattle.verilog_rules.proofs.LoopPlaces.{graph_within, number_node, back_depends, back_leads, no_number}
use Rattle.verilog_rules.proofs.loops.is_back.Goals as goal

pub leads_back-requires-clause-within : goal.leads_back-requires-clause-within
leads_back-requires-clause-within c = graph_within c.args.tree.now c.args.edges.now c.requires.graph

pub leads_back-requires-clause-node : goal.leads_back-requires-clause-node
leads_back-requires-clause-node c =
    let k : item_number (plain_tree c.args.tree.now) c.args.name.now.text ≡ Some c.in-Some.number = sym (c.requires.numbers c.args.name.now.text) ∙ sym c.in-Some.ensures in
    number_node c.args.tree.now c.args.edges.now c.args.name.now.text c.in-Some.number c.requires.graph k

pub returns-in-Some-clause-back : goal.returns-in-Some-clause-back
returns-in-Some-clause-back c =
    let m = plain_tree c.args.tree.now in
    let x = c.args.name.now.text in
    let n = c.in-Some.number in
    let k : item_number m x ≡ Some n = sym (c.requires.numbers x) ∙ sym c.in-Some.ensures in
    IfOk-weaker c.leads_back.result (λ b. b ≡ true → Leads c.args.edges.now n n) (λ b. b ≡ true → Depends m x x)
    (λ b h e. back_depends c.args.tree.now c.args.edges.now c.requires.graph x n k (h e)) c.leads_back.ensures.leads

pub returns-in-Some-clause-other : goal.returns-in-Some-clause-other
returns-in-Some-clause-other c =
    let m = plain_tree c.args.tree.now in
    let x = c.args.name.now.text in
    let n = c.in-Some.number in
    let k : item_number m x ≡ Some n = sym (c.requires.numbers x) ∙ sym c.in-Some.ensures in
    IfOk-weaker c.leads_back.result (λ b. b ≡ false → Leads c.args.edges.now n n → ⊥) (λ b. b ≡ false → Depends m x x → ⊥)
    (λ b h e d. h e (back_leads c.args.tree.now c.args.edges.now c.requires.graph x n k d)) c.leads_back.ensures.other

pub returns-in-None-clause-other : goal.returns-in-None-clause-other
returns-in-None-clause-other c = λ e d.
    let k : item_number (plain_tree c.args.tree.now) c.args.name.now.text ≡ None = sym (c.requires.numbers c.args.name.now.text) ∙ sym c.in-None.ensures in
    no_number c.args.tree.now c.args.edges.now c.requires.graph c.args.name.now.text k d
