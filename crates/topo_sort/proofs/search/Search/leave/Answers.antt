use Rattle.std.proofs.Common.{◌∙◌, ap, refl, set, ◌+◌}
use Rattle.std.proofs.lemmas.List.{map-set}
use Rattle.topo_sort.specs.Ranks.{rank_of, ranks}
use Rattle.topo_sort.specs.declared.mark.Mark.TheVariants.{Placed}
use Rattle.topo_sort.proofs.Popped.{popped}
use Rattle.topo_sort.proofs.search.Search.leave.Goals as goal

pub returns : goal.returns
returns c = record {
  ranks_set = map-set rank_of c.args.self.now.marks.items c.args.top (Placed c.len-place.result)
      ∙ ap (λ n. set (ranks c.args.self.now) c.args.top (n + 2)) (c.len-place.ensures ∙ c.args.self.now.order.ok.0);
  done_same = refl;
  path_less = popped c.args.self.now.path.items c.pop.new.self.items c.args.top _ c.pop.ensures.rest c.args.self.now.path.ok.0 c.requires.top;
  order_more = c.in_ok-push.ensures.items;
}
