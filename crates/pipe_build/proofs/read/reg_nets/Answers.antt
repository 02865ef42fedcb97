use Rattle.std.proofs.Common.{arith}
use Rattle.hw_gates.proofs.Steps.{◌▸◌}
use Rattle.pipe_build.proofs.Bears.{bears_as, bears_on}
use Rattle.pipe_build.proofs.read.reg_nets.Goals as goal

pub read_reg-apc-requires-clause-there : goal.read_reg-apc-requires-clause-there
read_reg-apc-requires-clause-there c = c.requires.rows.apc.there

pub read_reg-flush-requires-clause-there : goal.read_reg-flush-requires-clause-there
read_reg-flush-requires-clause-there c = c.requires.rows.flush.there

pub read_reg-flush_fence-requires-clause-there : goal.read_reg-flush_fence-requires-clause-there
read_reg-flush_fence-requires-clause-there c = c.requires.rows.flush_fence.there

pub read_reg-started-requires-clause-there : goal.read_reg-started-requires-clause-there
read_reg-started-requires-clause-there c = c.requires.rows.started.there

pub read_reg-stopped-requires-clause-there : goal.read_reg-stopped-requires-clause-there
read_reg-stopped-requires-clause-there c = c.requires.rows.stopped.there

pub read_reg-valid-requires-clause-there : goal.read_reg-valid-requires-clause-there
read_reg-valid-requires-clause-there c = c.requires.rows.valid.there

pub returns-clause-regs : goal.returns-clause-regs
returns-clause-regs c = λ nodes execs x sh wire. record {
  apc = bears_on (c.read_reg-flush.ensures.step ▸ c.read_reg-flush_fence.ensures.step ▸ c.read_reg-started.ensures.step ▸ c.read_reg-stopped.ensures.step ▸ c.read_reg-valid.ensures.step ▸ c.slot_nets-slot.ensures.step) (bears_as c.requires.rows.apc.wide (omega (arith)) c.read_reg-apc.ensures.bears);
  flush = bears_on (c.read_reg-flush_fence.ensures.step ▸ c.read_reg-started.ensures.step ▸ c.read_reg-stopped.ensures.step ▸ c.read_reg-valid.ensures.step ▸ c.slot_nets-slot.ensures.step) (bears_as c.requires.rows.flush.wide (omega (arith)) c.read_reg-flush.ensures.bears);
  flush_fence = bears_on (c.read_reg-started.ensures.step ▸ c.read_reg-stopped.ensures.step ▸ c.read_reg-valid.ensures.step ▸ c.slot_nets-slot.ensures.step) (bears_as c.requires.rows.flush_fence.wide (omega (arith)) c.read_reg-flush_fence.ensures.bears);
  started = bears_on (c.read_reg-stopped.ensures.step ▸ c.read_reg-valid.ensures.step ▸ c.slot_nets-slot.ensures.step) (bears_as c.requires.rows.started.wide (omega (arith)) c.read_reg-started.ensures.bears);
  stopped = bears_on (c.read_reg-valid.ensures.step ▸ c.slot_nets-slot.ensures.step) (bears_as c.requires.rows.stopped.wide (omega (arith)) c.read_reg-stopped.ensures.bears);
  valid = bears_on c.slot_nets-slot.ensures.step (bears_as c.requires.rows.valid.wide (omega (arith)) c.read_reg-valid.ensures.bears);
  slot = c.slot_nets-slot.ensures.slot nodes execs x sh wire;
}

pub returns-clause-step : goal.returns-clause-step
returns-clause-step c = c.read_reg-apc.ensures.step ▸ c.read_reg-flush.ensures.step ▸ c.read_reg-flush_fence.ensures.step ▸ c.read_reg-started.ensures.step ▸ c.read_reg-stopped.ensures.step ▸ c.read_reg-valid.ensures.step ▸ c.slot_nets-slot.ensures.step
