use Rattle.std.proofs.Common.{◌≡◌, ◌∙◌, get_or, subst}
use Rattle.topo_sort.specs.Falls.{AreBelow}
use Rattle.topo_sort.proofs.Falling.{not_back}
use Rattle.topo_sort.proofs.reach.leads_back.Goals as goal

pub returns-then-are_below-clause-other : goal.returns-then-are_below-clause-other
returns-then-are_below-clause-other c =
    let edges = c.args.edges.now in
    let ranks = c.args.ranks.now in
    let node = c.args.node in
    let same : c.from.result ≡ get_or ranks node 0 = c.from.ensures ∙ c.rank_in.ensures in
    λ e. not_back edges ranks node c.requires.ranks (subst (AreBelow edges ranks node) same (c.are_below.ensures c.if-are_below.true))
