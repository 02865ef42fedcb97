use Rattle.pipe_steps.proofs.Module.{takes_steps}
use Rattle.pipe_steps.proofs.pipelines_step.Goals as goal

pub returns : goal.returns
returns c = record { steps = takes_steps }
