use Rattle.unit_law.proofs.Computing.{keeps_computing}
use Rattle.unit_law.proofs.computing_units_keep_their_law.Goals as goal

pub returns : goal.returns
returns c = record { law = keeps_computing }
