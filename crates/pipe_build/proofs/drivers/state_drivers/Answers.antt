use Rattle.hw_gates.specs.Places.{Step}
use Rattle.hw_gates.proofs.Steps.{◌▸◌}
use Rattle.pipe_build.specs.Bears.{Bears}
use Rattle.pipe_build.proofs.Bears.{bears_2, bears_3, bears_4, bears_6, bears_on}
use Rattle.pipe_nets.specs.After.{pc_after_of, flush_after_of, started_after_of, valid_after_of}
use Rattle.pipe_steps.specs.Values.{apc_next, flush_next, started_next, stopped_next, valid_next}
use Rattle.pipe_build.proofs.drivers.state_drivers.Goals as goal

pub returns-clause-drivers : goal.returns-clause-drivers
returns-clause-drivers c = λ s p known mids.
    let to_apc : Step c.args.pool.now c.stopped_driver-stopped.new.pool 1 = c.stopped_driver-stopped.ensures.step in
    let to_flush : Step c.args.pool.now c.pc_after-apc.new.pool 4 = to_apc ▸ c.pc_after-apc.ensures.step in
    let to_started : Step c.args.pool.now c.flush_after-flush.new.pool 6 = to_flush ▸ c.flush_after-flush.ensures.step in
    let to_valid : Step c.args.pool.now c.started_after-started.new.pool 8 = to_started ▸ c.started_after-started.ensures.step in
    let x_stopped : Bears s c.stopped_driver-stopped.new.pool 1 6 (λ env. stopped_next p env) c.stopped_driver-stopped.result = c.stopped_driver-stopped.ensures.bears s p known in
    let x_apc : Bears s c.pc_after-apc.new.pool 32 5 (λ env. apc_next p env) c.pc_after-apc.result = bears_6 pc_after_of (bears_on to_apc mids.event) (bears_on to_apc mids.asked) (bears_on to_apc mids.faulty) (bears_on to_apc known.system.base) (bears_on to_apc known.units.next_pc) (bears_on to_apc known.regs.apc) c.pc_after-apc.ensures.net c.pc_after-apc.ensures.scope c.pc_after-apc.ensures.value_is in
    let x_flush : Bears s c.flush_after-flush.new.pool 1 6 (λ env. flush_next p env) c.flush_after-flush.result = bears_3 flush_after_of (bears_on to_flush known.wires.irq) (bears_on to_flush known.wires.traps) (bears_on to_flush mids.fences) c.flush_after-flush.ensures.net c.flush_after-flush.ensures.scope c.flush_after-flush.ensures.value_is in
    let x_started : Bears s c.started_after-started.new.pool 1 5 (λ env. started_next p env) c.started_after-started.result = bears_2 started_after_of (bears_on to_started known.wires.run) (bears_on to_started known.wires.ends) c.started_after-started.ensures.net c.started_after-started.ensures.scope c.started_after-started.ensures.value_is in
    let x_valid : Bears s c.valid_after-valid.new.pool 1 8 (λ env. valid_next p env) c.valid_after-valid.result = bears_4 valid_after_of (bears_on to_valid known.wires.kill) (bears_on to_valid known.wires.irq) (bears_on to_valid mids.takes) (bears_on to_valid known.wires.enters) c.valid_after-valid.ensures.net c.valid_after-valid.ensures.scope c.valid_after-valid.ensures.value_is in
    record { apc = bears_on (c.flush_after-flush.ensures.step ▸ c.started_after-started.ensures.step ▸ c.valid_after-valid.ensures.step) x_apc; flush = bears_on (c.started_after-started.ensures.step ▸ c.valid_after-valid.ensures.step) x_flush; started = bears_on c.valid_after-valid.ensures.step x_started; stopped = bears_on (c.pc_after-apc.ensures.step ▸ c.flush_after-flush.ensures.step ▸ c.started_after-started.ensures.step ▸ c.valid_after-valid.ensures.step) x_stopped; valid = x_valid }

pub returns-clause-step : goal.returns-clause-step
returns-clause-step c = c.stopped_driver-stopped.ensures.step ▸ c.pc_after-apc.ensures.step ▸ c.flush_after-flush.ensures.step ▸ c.started_after-started.ensures.step ▸ c.valid_after-valid.ensures.step
