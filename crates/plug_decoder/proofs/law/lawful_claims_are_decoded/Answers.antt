use Rattle.plug_decoder.proofs.Plans.{lawful_are_claims, lawful_parts_meet_laws}
use Rattle.plug_decoder.proofs.law.lawful_claims_are_decoded.Goals as goal

pub returns : goal.returns
returns c = record { claims = lawful_are_claims; parts = lawful_parts_meet_laws }
