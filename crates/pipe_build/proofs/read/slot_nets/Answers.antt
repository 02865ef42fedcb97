use Rattle.std.proofs.Common.{arith}
use Rattle.hw_gates.proofs.Steps.{◌▸◌}
use Rattle.pipe_build.proofs.Bears.{bears_as, bears_on}
use Rattle.pipe_build.proofs.read.slot_nets.Goals as goal

pub read_reg-pc-requires-clause-there : goal.read_reg-pc-requires-clause-there
read_reg-pc-requires-clause-there c = c.requires.rows.pc.there

pub read_reg-word-requires-clause-there : goal.read_reg-word-requires-clause-there
read_reg-word-requires-clause-there c = c.requires.rows.word.there

pub read_reg-error-requires-clause-there : goal.read_reg-error-requires-clause-there
read_reg-error-requires-clause-there c = c.requires.rows.error.there

pub read_reg-legal-requires-clause-there : goal.read_reg-legal-requires-clause-there
read_reg-legal-requires-clause-there c = c.requires.rows.legal.there

pub read_reg-row-requires-clause-there : goal.read_reg-row-requires-clause-there
read_reg-row-requires-clause-there c = c.requires.rows.row.there

pub read_reg-except-requires-clause-there : goal.read_reg-except-requires-clause-there
read_reg-except-requires-clause-there c = c.requires.rows.except.there

pub read_reg-writes-requires-clause-there : goal.read_reg-writes-requires-clause-there
read_reg-writes-requires-clause-there c = c.requires.rows.writes.there

pub read_reg-left-requires-clause-there : goal.read_reg-left-requires-clause-there
read_reg-left-requires-clause-there c = c.requires.rows.a.there

pub read_reg-right-requires-clause-there : goal.read_reg-right-requires-clause-there
read_reg-right-requires-clause-there c = c.requires.rows.b.there

pub returns-clause-slot : goal.returns-clause-slot
returns-clause-slot c = λ nodes execs x sh wire. record {
  pc = bears_on (c.read_reg-word.ensures.step ▸ c.read_reg-error.ensures.step ▸ c.read_reg-legal.ensures.step ▸ c.read_reg-row.ensures.step ▸ c.read_reg-except.ensures.step ▸ c.read_reg-writes.ensures.step ▸ c.read_reg-left.ensures.step ▸ c.read_reg-right.ensures.step) (bears_as c.requires.rows.pc.wide (omega (arith)) c.read_reg-pc.ensures.bears);
  word = bears_on (c.read_reg-error.ensures.step ▸ c.read_reg-legal.ensures.step ▸ c.read_reg-row.ensures.step ▸ c.read_reg-except.ensures.step ▸ c.read_reg-writes.ensures.step ▸ c.read_reg-left.ensures.step ▸ c.read_reg-right.ensures.step) (bears_as c.requires.rows.word.wide (omega (arith)) c.read_reg-word.ensures.bears);
  error = bears_on (c.read_reg-legal.ensures.step ▸ c.read_reg-row.ensures.step ▸ c.read_reg-except.ensures.step ▸ c.read_reg-writes.ensures.step ▸ c.read_reg-left.ensures.step ▸ c.read_reg-right.ensures.step) (bears_as c.requires.rows.error.wide (omega (arith)) c.read_reg-error.ensures.bears);
  legal = bears_on (c.read_reg-row.ensures.step ▸ c.read_reg-except.ensures.step ▸ c.read_reg-writes.ensures.step ▸ c.read_reg-left.ensures.step ▸ c.read_reg-right.ensures.step) (bears_as c.requires.rows.legal.wide (omega (arith)) c.read_reg-legal.ensures.bears);
  row = bears_on (c.read_reg-except.ensures.step ▸ c.read_reg-writes.ensures.step ▸ c.read_reg-left.ensures.step ▸ c.read_reg-right.ensures.step) (bears_as c.requires.rows.row.wide (omega (arith)) c.read_reg-row.ensures.bears);
  except = bears_on (c.read_reg-writes.ensures.step ▸ c.read_reg-left.ensures.step ▸ c.read_reg-right.ensures.step) (bears_as c.requires.rows.except.wide (omega (arith)) c.read_reg-except.ensures.bears);
  writes = bears_on (c.read_reg-left.ensures.step ▸ c.read_reg-right.ensures.step) (bears_as c.requires.rows.writes.wide (omega (arith)) c.read_reg-writes.ensures.bears);
  a = bears_on c.read_reg-right.ensures.step (bears_as c.requires.rows.a.wide (omega (arith)) c.read_reg-left.ensures.bears);
  b = bears_as c.requires.rows.b.wide (omega (arith)) c.read_reg-right.ensures.bears;
}

pub returns-clause-step : goal.returns-clause-step
returns-clause-step c = c.read_reg-pc.ensures.step ▸ c.read_reg-word.ensures.step ▸ c.read_reg-error.ensures.step ▸ c.read_reg-legal.ensures.step ▸ c.read_reg-row.ensures.step ▸ c.read_reg-except.ensures.step ▸ c.read_reg-writes.ensures.step ▸ c.read_reg-left.ensures.step ▸ c.read_reg-right.ensures.step
