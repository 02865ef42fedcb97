use Rattle.hw_cycle.proofs.States.{is_held}
use Rattle.hw_cycle.proofs.law.holds.Goals as goal

pub returns : goal.returns
returns c = is_held
