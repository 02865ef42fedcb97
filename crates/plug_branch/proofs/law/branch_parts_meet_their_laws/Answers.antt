use Rattle.plug_branch.proofs.Parts.{parts_meet_laws}
use Rattle.plug_branch.proofs.law.branch_parts_meet_their_laws.Goals as goal

pub returns : goal.returns
returns c = record { law = parts_meet_laws }
