use Rattle.unit_parts.proofs.Parts.{units_begin}
use Rattle.unit_parts.proofs.law.computing_units_begin.Goals as goal

pub returns : goal.returns
returns c = record { begun = units_begin }
