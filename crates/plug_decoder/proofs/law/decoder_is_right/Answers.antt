use Rattle.plug_decoder.proofs.Decodes.{decodes}
use Rattle.plug_decoder.proofs.law.decoder_is_right.Goals as goal

pub returns : goal.returns
returns c = record { decoded = decodes }
