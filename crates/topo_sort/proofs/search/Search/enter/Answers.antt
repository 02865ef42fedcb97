use Rattle.std.proofs.Common.{refl}
use Rattle.std.proofs.lemmas.List.{map-set}
use Rattle.topo_sort.specs.Ranks.{rank_of}
use Rattle.topo_sort.specs.declared.mark.Mark.TheVariants.{Open}
use Rattle.topo_sort.proofs.search.Search.enter.Goals as goal

pub returns : goal.returns
returns c = record {
  ranks_set = map-set rank_of c.args.self.now.marks.items c.args.node Open;
  done_same = refl;
  path_more = c.in_ok-push.ensures.items;
  order_same = refl;
}
