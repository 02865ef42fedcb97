use Rattle.cache_nets.proofs.Tied.{runs_are_cells}
use Rattle.cache_nets.proofs.runs_are_cells.Goals as goal

pub returns : goal.returns
returns c = record { cells = runs_are_cells }
