use Rattle.plug_fetch.proofs.Has.{has_runs}
use Rattle.plug_fetch.proofs.fetch_has_runs.Goals as goal

pub returns : goal.returns
returns c = record { runs = has_runs }
