use Rattle.std.proofs.Common.{◌≡◌, ◌<◌, true, false, length, get_or, sym, ◌∙◌, subst, arith}
use Rattle.std.proofs.lemmas.List.{get_or_read}
use Rattle.topo_sort.proofs.Found.{next_within, come_last, found_within}
use Rattle.topo_sort.proofs.reach.is_reached.Goals as goal

pub take_needs-requires-in-loop-at-clause-node : goal.take_needs-requires-in-loop-at-clause-node
take_needs-requires-in-loop-at-clause-node c =
    let r = c.loop-at.reached in
    let l : c.loop-at.at < length r.found.items = (let t = c.loop-at-test.true in let n = c.len.ensures in let o = r.found.ok.0 in omega (arith, t, n, o)) in
    let e : c.index-next.result.now ≡ get_or r.found.items c.loop-at.at 0 = get_or_read r.found.items _ _ l c.index-next.ensures 0 in
    subst (λ x. x < length c.args.edges.now) (sym e) (next_within c.args.edges.now c.args.node c.loop-at.at r r c.loop-at.invariant l)

pub returns-clause-other : goal.returns-clause-other
returns-clause-other c = λ none leads.
    let r = c.loop-at.reached in
    let f : get_or r.seen.items c.args.node false ≡ true = come_last c.args.edges.now c.args.node c.loop-at.at r c.loop-at.invariant (let t = c.loop-at-test.false in let n = c.len.ensures in let o = r.found.ok.0 in omega (arith, t, n, o)) c.args.node leads in
    let e : c.index.result.now ≡ get_or r.seen.items c.args.node false = get_or_read r.seen.items _ _ (found_within r.seen.items c.args.node f) c.index.ensures false in
    let q : true ≡ false = sym f ∙ sym e ∙ none in
    cc
