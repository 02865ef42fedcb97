use Rattle.plug_hazard.proofs.Parts.{parts_meet_laws, parts_bypass}
use Rattle.plug_hazard.proofs.law.hazard_parts_meet_their_laws.Goals as goal

pub returns : goal.returns
returns c = record { laws = parts_meet_laws; bypassed = parts_bypass }
