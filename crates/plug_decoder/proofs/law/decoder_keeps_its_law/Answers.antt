use Rattle.plug_decoder.proofs.Keeps.{keeps_law}
use Rattle.plug_decoder.proofs.law.decoder_keeps_its_law.Goals as goal

pub returns : goal.returns
returns c = record { law = keeps_law }
