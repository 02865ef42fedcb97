use Rattle.unit_parts.proofs.Units.{units_meet_laws, unit_is_done}
use Rattle.unit_parts.proofs.law.units_meet_their_laws.Goals as goal

pub returns-clause-law : goal.returns-clause-law
returns-clause-law c = units_meet_laws

pub returns-clause-done : goal.returns-clause-done
returns-clause-done c = unit_is_done
