use Rattle.std.proofs.Common.{arith}
use Rattle.std.specs.Prelude.{bit_and}
use Rattle.hw_gates.proofs.Steps.{◌▸◌}
use Rattle.hw_module.specs.Scope.{scope_of}
use Rattle.pipe_steps.specs.Equations.{we_of}
use Rattle.core_words.specs.Values.{not_of}
use Rattle.pipe_build.specs.Bears.{Bears}
use Rattle.pipe_build.proofs.Bears.{bears_not, bears_on, bears_two}
use Rattle.pipe_build.proofs.tail.enable_net.Goals as goal

pub returns-clause-bears : goal.returns-clause-bears
unfolding we_of
returns-clause-bears c = λ f bears.
    let s = scope_of c.args.m.now in
    let x_runs : Bears s c.not-runs.new.pool 1 0 (λ env. not_of 1 (env.inputs 1)) c.not-runs.result = bears_not (omega arith) c.read_reset-reset.ensures.bears c.not-runs.ensures.net c.not-runs.ensures.width c.not-runs.ensures.level c.not-runs.ensures.scope c.not-runs.ensures.value in
    bears_two bit_and (omega arith) (omega arith) x_runs (bears_on (c.read_reset-reset.ensures.step ▸ c.not-runs.ensures.step) bears) c.and.ensures.net c.and.ensures.width c.and.ensures.level c.and.ensures.scope c.and.ensures.value

pub returns-clause-step : goal.returns-clause-step
returns-clause-step c = c.read_reset-reset.ensures.step ▸ c.not-runs.ensures.step ▸ c.and.ensures.step
