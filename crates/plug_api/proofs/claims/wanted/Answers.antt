use Rattle.std.proofs.Common.{◌≡◌, ◌∙◌, ◌<◌, length, get_or, arith, sym}
use Rattle.std.proofs.lemmas.List.{get_or_default}
use Rattle.plug_api.specs.Spec.{no_spec}
use Rattle.plug_api.proofs.claims.wanted.Goals as goal

pub cost_at-wanted-requires-clause-spec : goal.cost_at-wanted-requires-clause-spec
cost_at-wanted-requires-clause-spec c =
    let h : c.loop-entry.entry < length c.args.specs.now.items = omega arith in
    let e : get_or c.args.specs.now.items c.loop-entry.entry no_spec ≡ c.index.result.now =
    get_or_default c.args.specs.now.items c.loop-entry.entry no_spec c.index.result.now h ∙ sym c.index.ensures in
    rw e at (c.requires.specs c.loop-entry.entry h)
