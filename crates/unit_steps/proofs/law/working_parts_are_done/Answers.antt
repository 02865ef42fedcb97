use Rattle.unit_steps.proofs.Parts.{part_is_done}
use Rattle.unit_steps.proofs.law.working_parts_are_done.Goals as goal

pub returns : goal.returns
returns c = record { done = part_is_done }
