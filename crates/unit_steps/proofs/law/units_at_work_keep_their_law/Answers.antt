use Rattle.unit_steps.proofs.Working.{keeps_working}
use Rattle.unit_steps.proofs.law.units_at_work_keep_their_law.Goals as goal

pub returns : goal.returns
returns c = record { law = keeps_working }
