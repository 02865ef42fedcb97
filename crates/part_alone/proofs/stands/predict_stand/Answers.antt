use Rattle.std.proofs.Common.{◌∙◌, sym}
use Rattle.part_alone.specs.Built.{world_in}
use Rattle.part_alone.proofs.Seen.{predict_in}
use Rattle.part_alone.proofs.stands.predict_stand.Goals as goal

pub make_stand-requires-clause-nets : goal.make_stand-requires-clause-nets
make_stand-requires-clause-nets c = predict_in (world_in c.args.part) c.requires c.in-Some.p (sym c.predict.ensures ∙ c.in-Some.is)
