use Rattle.pipe_steps.proofs.Fit.{is_pipeline, tail_is_long}
use Rattle.pipe_steps.proofs.numbers_are_things.Goals as goal

pub returns : goal.returns
returns c = record { pipeline = is_pipeline; long = tail_is_long }
