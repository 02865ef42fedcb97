use Rattle.plug_csr.proofs.Parts.{parts_meet_laws}
use Rattle.plug_csr.proofs.law.csr_parts_meet_their_laws.Goals as goal

pub returns : goal.returns
returns c = record { laws = parts_meet_laws }
