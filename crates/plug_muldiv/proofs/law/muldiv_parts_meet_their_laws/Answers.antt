use Rattle.plug_muldiv.proofs.Parts.{meets_laws}
use Rattle.plug_muldiv.proofs.law.muldiv_parts_meet_their_laws.Goals as goal

pub returns : goal.returns
returns c = record { law = meets_laws }
