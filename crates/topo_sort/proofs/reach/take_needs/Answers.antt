use Rattle.std.proofs.Common.{◌≡◌, ◌<◌, length, get_or, ap, subst, sym, arith}
use Rattle.topo_sort.specs.Graph.{needs, need}
use Rattle.topo_sort.specs.Reach.{Takes}
use Rattle.topo_sort.proofs.Found.{one_more}
use Rattle.topo_sort.proofs.reach.take_needs.Goals as goal

pub loop-i-preserved : goal.loop-i-preserved
loop-i-preserved c =
    let edges = c.args.edges.now in
    let node = c.args.node in
    let i = c.loop-i.i in
    let e = c.needs_of-needs.ensures in
    let n : length c.needs_of-needs.result.now ≡ length (needs edges node) = ap length e in
    let l : i < length (needs edges node) = (let t = c.loop-i-test.true in omega (arith, t, n)) in
    let q : get_or c.needs_of-needs.result.now i 0 ≡ need edges node i = ap (λ ns. get_or ns i 0) e in
    let t = subst (Takes c.loop-i.reached c.take.new.reached) q c.in_ok-take.ensures in
    let w : need edges node i < length c.loop-i.reached.seen.items =
    (let a = c.requires.within node i l in let b = c.requires.size in let d = c.loop-i.invariant.0.size in let f = c.args.reached.now.seen.ok.0 in omega (arith, a, b, d, f)) in
    one_more edges node c.args.reached.now c.loop-i.reached c.take.new.reached i c.loop-i.invariant t w l
