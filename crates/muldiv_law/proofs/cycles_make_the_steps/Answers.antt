use Rattle.muldiv_law.proofs.Rounds.{begins, goes_on}
use Rattle.muldiv_law.proofs.cycles_make_the_steps.Goals as goal

pub returns : goal.returns
returns c = record { begins = begins; goes_on = goes_on }
