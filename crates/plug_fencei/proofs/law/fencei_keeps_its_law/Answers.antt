use Rattle.plug_fencei.proofs.Keeps.{keeps_law}
use Rattle.plug_fencei.proofs.law.fencei_keeps_its_law.Goals as goal

pub returns : goal.returns
returns c = record { law = keeps_law }
