use Rattle.plug_fencei.proofs.Parts.{parts_meet_laws}
use Rattle.plug_fencei.proofs.law.fencei_parts_meet_their_laws.Goals as goal

pub returns : goal.returns
returns c = record { law = parts_meet_laws }
