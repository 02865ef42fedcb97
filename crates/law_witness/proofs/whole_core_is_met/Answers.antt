use Rattle.law_witness.proofs.All.{met}
use Rattle.law_witness.proofs.whole_core_is_met.Goals as goal

pub returns : goal.returns
returns c = record { met = met }
