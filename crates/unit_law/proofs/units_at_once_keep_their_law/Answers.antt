use Rattle.unit_law.proofs.AtOnce.{keeps_law}
use Rattle.unit_law.proofs.units_at_once_keep_their_law.Goals as goal

pub returns : goal.returns
returns c = record { law = keeps_law }
