use Rattle.law_witness.proofs.Streams.{meets_stream}
use Rattle.law_witness.proofs.whole_core_has_a_stream.Goals as goal

pub returns : goal.returns
returns c = record { stream = meets_stream }
