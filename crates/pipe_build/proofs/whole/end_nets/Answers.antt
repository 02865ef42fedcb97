use Rattle.std.proofs.Common.{arith}
use Rattle.hw_gates.proofs.Steps.{◌▸◌}
use Rattle.pipe_build.proofs.Bears.{bears_as, bears_lit, bears_on}
use Rattle.pipe_build.proofs.whole.end_nets.Goals as goal

pub read_wire-take-requires-clause-there : goal.read_wire-take-requires-clause-there
read_wire-take-requires-clause-there c = c.requires.take.there

pub returns-clause-ends : goal.returns-clause-ends
returns-clause-ends c = λ p. record {
  take_is = bears_on (c.lit-bit.ensures.step ▸ c.lit-mask.ensures.step ▸ c.lit-word.ensures.step)
      (bears_as c.requires.take.wide (omega (arith, c.requires.take.level_is)) c.read_wire-take.ensures.bears);
  bit = bears_on (c.lit-mask.ensures.step ▸ c.lit-word.ensures.step)
      (bears_lit 0 c.lit-bit.ensures.net c.lit-bit.ensures.width c.lit-bit.ensures.level c.lit-bit.ensures.scope c.lit-bit.ensures.value);
  mask = bears_on c.lit-word.ensures.step (bears_lit 0 c.lit-mask.ensures.net c.lit-mask.ensures.width c.lit-mask.ensures.level c.lit-mask.ensures.scope c.lit-mask.ensures.value);
  word = bears_lit 0 c.lit-word.ensures.net c.lit-word.ensures.width c.lit-word.ensures.level c.lit-word.ensures.scope c.lit-word.ensures.value;
}

pub returns-clause-step : goal.returns-clause-step
returns-clause-step c = c.read_wire-take.ensures.step ▸ c.lit-bit.ensures.step ▸ c.lit-mask.ensures.step ▸ c.lit-word.ensures.step
