use Rattle.bus_law.proofs.InTimeByCycle.{within_is_prompt, soon_is_prompt}
use Rattle.bus_law.proofs.laws.within_is_by_cycle.Goals as goal

pub returns : goal.returns
returns c = record { within = within_is_prompt; soon = soon_is_prompt }
