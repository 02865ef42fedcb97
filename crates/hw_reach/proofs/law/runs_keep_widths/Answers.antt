use Rattle.hw_reach.proofs.Bounds.{within, wires_within, held_fits}
use Rattle.hw_reach.proofs.law.runs_keep_widths.Goals as goal

pub returns-clause-within : goal.returns-clause-within
returns-clause-within c = within

pub returns-clause-wires_within : goal.returns-clause-wires_within
returns-clause-wires_within c = wires_within

pub returns-clause-held_fits : goal.returns-clause-held_fits
returns-clause-held_fits c = held_fits
