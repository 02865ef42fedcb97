use Rattle.unit_steps.proofs.Parts.{parts_meet_laws}
use Rattle.unit_steps.proofs.law.working_parts_meet_their_laws.Goals as goal

pub returns : goal.returns
returns c = record { law = parts_meet_laws }
