use Rattle.cache_law.proofs.Runs.{has_runs}
use Rattle.cache_law.proofs.cache_has_runs.Goals as goal

pub returns : goal.returns
returns c = record { runs = has_runs }
