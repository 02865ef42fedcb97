use Rattle.cached_law.proofs.Modules.{cached_modules, cached_trees}
use Rattle.cached_law.proofs.Runs.{cached_runs}
use Rattle.cached_law.proofs.cached_cores.Goals as goal

pub returns : goal.returns
returns c = record { runs = cached_runs; modules = cached_modules; trees = cached_trees }
