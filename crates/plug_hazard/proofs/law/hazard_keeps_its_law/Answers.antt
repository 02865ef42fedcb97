use Rattle.plug_hazard.proofs.Keeps.{keeps_law}
use Rattle.plug_hazard.proofs.law.hazard_keeps_its_law.Goals as goal

pub returns : goal.returns
returns c = record { law = keeps_law }
