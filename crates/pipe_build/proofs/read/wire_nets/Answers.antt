use Rattle.std.proofs.Common.{arith}
use Rattle.hw_gates.proofs.Steps.{◌▸◌}
use Rattle.pipe_build.proofs.Bears.{bears_as, bears_on}
use Rattle.pipe_build.proofs.read.wire_nets.Goals as goal

pub read_wire-kill-requires-clause-there : goal.read_wire-kill-requires-clause-there
read_wire-kill-requires-clause-there c = c.requires.rows.kill.there

pub read_wire-irq-requires-clause-there : goal.read_wire-irq-requires-clause-there
read_wire-irq-requires-clause-there c = c.requires.rows.irq.there

pub read_wire-run-requires-clause-there : goal.read_wire-run-requires-clause-there
read_wire-run-requires-clause-there c = c.requires.rows.run.there

pub read_wire-ends-requires-clause-there : goal.read_wire-ends-requires-clause-there
read_wire-ends-requires-clause-there c = c.requires.rows.ends.there

pub read_wire-retires-requires-clause-there : goal.read_wire-retires-requires-clause-there
read_wire-retires-requires-clause-there c = c.requires.rows.retires.there

pub read_wire-traps-requires-clause-there : goal.read_wire-traps-requires-clause-there
read_wire-traps-requires-clause-there c = c.requires.rows.traps.there

pub read_wire-writes-requires-clause-there : goal.read_wire-writes-requires-clause-there
read_wire-writes-requires-clause-there c = c.requires.rows.writes.there

pub read_wire-enters-requires-clause-there : goal.read_wire-enters-requires-clause-there
read_wire-enters-requires-clause-there c = c.requires.rows.enters.there

pub returns-clause-wires : goal.returns-clause-wires
returns-clause-wires c = λ nodes execs x sh reg. record {
  kill = bears_on (c.read_wire-irq.ensures.step ▸ c.read_wire-run.ensures.step ▸ c.read_wire-ends.ensures.step ▸ c.read_wire-retires.ensures.step ▸ c.read_wire-traps.ensures.step ▸ c.read_wire-writes.ensures.step ▸ c.read_wire-enters.ensures.step) (bears_as c.requires.rows.kill.wide (omega (arith, c.requires.rows.kill.level_is)) c.read_wire-kill.ensures.bears);
  irq = bears_on (c.read_wire-run.ensures.step ▸ c.read_wire-ends.ensures.step ▸ c.read_wire-retires.ensures.step ▸ c.read_wire-traps.ensures.step ▸ c.read_wire-writes.ensures.step ▸ c.read_wire-enters.ensures.step) (bears_as c.requires.rows.irq.wide (omega (arith, c.requires.rows.irq.level_is)) c.read_wire-irq.ensures.bears);
  run = bears_on (c.read_wire-ends.ensures.step ▸ c.read_wire-retires.ensures.step ▸ c.read_wire-traps.ensures.step ▸ c.read_wire-writes.ensures.step ▸ c.read_wire-enters.ensures.step) (bears_as c.requires.rows.run.wide (omega (arith, c.requires.rows.run.level_is)) c.read_wire-run.ensures.bears);
  ends = bears_on (c.read_wire-retires.ensures.step ▸ c.read_wire-traps.ensures.step ▸ c.read_wire-writes.ensures.step ▸ c.read_wire-enters.ensures.step) (bears_as c.requires.rows.ends.wide (omega (arith, c.requires.rows.ends.level_is)) c.read_wire-ends.ensures.bears);
  retires = bears_on (c.read_wire-traps.ensures.step ▸ c.read_wire-writes.ensures.step ▸ c.read_wire-enters.ensures.step) (bears_as c.requires.rows.retires.wide (omega (arith, c.requires.rows.retires.level_is)) c.read_wire-retires.ensures.bears);
  traps = bears_on (c.read_wire-writes.ensures.step ▸ c.read_wire-enters.ensures.step) (bears_as c.requires.rows.traps.wide (omega (arith, c.requires.rows.traps.level_is)) c.read_wire-traps.ensures.bears);
  writes = bears_on c.read_wire-enters.ensures.step (bears_as c.requires.rows.writes.wide (omega (arith, c.requires.rows.writes.level_is)) c.read_wire-writes.ensures.bears);
  enters = bears_as c.requires.rows.enters.wide (omega (arith, c.requires.rows.enters.level_is)) c.read_wire-enters.ensures.bears;
}

pub returns-clause-step : goal.returns-clause-step
returns-clause-step c = c.read_wire-kill.ensures.step ▸ c.read_wire-irq.ensures.step ▸ c.read_wire-run.ensures.step ▸ c.read_wire-ends.ensures.step ▸ c.read_wire-retires.ensures.step ▸ c.read_wire-traps.ensures.step ▸ c.read_wire-writes.ensures.step ▸ c.read_wire-enters.ensures.step
