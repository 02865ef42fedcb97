use Rattle.std.proofs.Common.{sym}
use Rattle.topo_sort.proofs.Moved.{enter_root}
use Rattle.topo_sort.proofs.order.visit.Goals as goal

pub follow-requires-clause-search : goal.follow-requires-clause-search
follow-requires-clause-search c = let m = enter_root c.args.edges.now c.args.search.now c.enter.new.self c.args.root c.requires.search c.requires.path c.requires.root (sym c.in-New.ensures) c.in-Ok.ensures in m.search
