use Rattle.std.proofs.Common.{◌≡◌, ◌∙◌, ◌<◌, length, get_or, arith, refl}
use Rattle.std.proofs.lemmas.List.{get_or_default}
use Rattle.plug_api.specs.Picks.{no_entry}
use Rattle.plug_api.proofs.Known.{pick_is_known}
use Rattle.plug_api.proofs.picks.pick_all.Goals as goal

pub returns-in-None-clause-refused : goal.returns-in-None-clause-refused
returns-in-None-clause-refused g c = λ not_memory.
    let h : c.loop-entry.entry < length c.args.entries.now.items = omega arith in
    let e : c.index.result.now ≡ get_or c.args.entries.now.items c.loop-entry.entry no_entry =
    c.index.ensures ∙ get_or_default c.args.entries.now.items c.loop-entry.entry c.index.result.now no_entry h in (
      c.loop-entry.entry,
      refl,
      record {
        there = h;
        unknown = rw e at c.in-None.ensures;
        first = λ i l u. pick_is_known _ _ _ _ (c.loop-entry.invariant.each i l) u;
      },
    )
