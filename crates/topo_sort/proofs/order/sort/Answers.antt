use Rattle.std.proofs.Common.{List, ℕ, arith, subst}
use Rattle.topo_sort.specs.Ranks.{ranks}
use Rattle.topo_sort.specs.Search.{Inv}
use Rattle.topo_sort.proofs.Orders.{is_order}
use Rattle.topo_sort.proofs.order.sort.Goals as goal

pub returns-clause-order : goal.returns-clause-order
returns-clause-order c =
    let t = c.loop-root-test.false in
    let i = subst (λ (p : List ℕ). Inv c.args.edges.now (ranks c.loop-root.search) c.loop-root.search.done.items p c.loop-root.search.order.items) c.loop-root.invariant.1 c.loop-root.invariant.0 in
    is_order c.args.edges.now (ranks c.loop-root.search) c.loop-root.search.done.items c.loop-root.search.order.items i (λ x l. c.loop-root.invariant.2 x (omega (arith, l, t)))
