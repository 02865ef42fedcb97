use Rattle.law_witness.proofs.SmallLaws.{small_met}
use Rattle.law_witness.proofs.small_core_is_met.Goals as goal

pub returns : goal.returns
returns c = record { met = small_met }
