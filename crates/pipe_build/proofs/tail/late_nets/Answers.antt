use Rattle.std.proofs.Common.{arith}
use Rattle.hw_gates.proofs.Steps.{◌▸◌}
use Rattle.pipe_build.proofs.Bears.{bears_as, bears_on}
use Rattle.pipe_build.proofs.tail.late_nets.Goals as goal

pub read_reg-writes-requires-clause-there : goal.read_reg-writes-requires-clause-there
read_reg-writes-requires-clause-there c = c.requires.row.writes.there

pub read_reg-rd-requires-clause-there : goal.read_reg-rd-requires-clause-there
read_reg-rd-requires-clause-there c = c.requires.row.rd.there

pub read_reg-value-requires-clause-there : goal.read_reg-value-requires-clause-there
read_reg-value-requires-clause-there c = c.requires.row.value.there

pub returns-clause-late : goal.returns-clause-late
returns-clause-late c = record {
  writes = bears_on (c.read_reg-rd.ensures.step ▸ c.read_reg-value.ensures.step) (bears_as c.requires.row.writes.wide (omega arith) c.read_reg-writes.ensures.bears);
  rd = bears_on c.read_reg-value.ensures.step (bears_as c.requires.row.rd.wide (omega arith) c.read_reg-rd.ensures.bears);
  value = bears_as c.requires.row.value.wide (omega arith) c.read_reg-value.ensures.bears;
}

pub returns-clause-step : goal.returns-clause-step
returns-clause-step c = c.read_reg-writes.ensures.step ▸ c.read_reg-rd.ensures.step ▸ c.read_reg-value.ensures.step
