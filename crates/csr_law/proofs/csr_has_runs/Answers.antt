use Rattle.csr_law.proofs.Runs.{has_runs}
use Rattle.csr_law.proofs.csr_has_runs.Goals as goal

pub returns : goal.returns
returns c = record { runs = has_runs }
