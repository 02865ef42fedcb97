use Rattle.std.proofs.Common.{◌∙◌, sym}
use Rattle.part_alone.specs.Built.{world_in}
use Rattle.part_alone.proofs.Seen.{decoder_in}
use Rattle.part_alone.proofs.stands.decoder_stand.Goals as goal

pub make_stand-requires-clause-nets : goal.make_stand-requires-clause-nets
make_stand-requires-clause-nets c = decoder_in (world_in c.args.part) c.requires c.in-Some.p (sym c.decoder.ensures ∙ c.in-Some.is)
