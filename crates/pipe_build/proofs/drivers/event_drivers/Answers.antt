use Rattle.hw_gates.specs.Places.{Step}
use Rattle.hw_gates.proofs.Steps.{◌▸◌}
use Rattle.pipe_build.specs.Bears.{Bears}
use Rattle.pipe_build.proofs.Bears.{bears_2, bears_3, bears_on}
use Rattle.pipe_nets.specs.Told.{kind_of, sys_cause_of, sys_value_of}
use Rattle.pipe_steps.specs.Values.{asked_in, faulty_in, trap_cause_in, trap_value_in, system_out}
use Rattle.pipe_build.proofs.drivers.event_drivers.Goals as goal

pub returns-clause-drivers : goal.returns-clause-drivers
returns-clause-drivers c = λ s p known mids.
    let to_cause : Step c.args.pool.now c.kind-kind.new.pool 3 = c.kind-kind.ensures.step in
    let to_tval : Step c.args.pool.now c.sys_cause-cause.new.pool 4 = to_cause ▸ c.sys_cause-cause.ensures.step in
    let x_kind : Bears s c.kind-kind.new.pool 2 4 (λ env. kind_of (asked_in p env) (faulty_in p env)) c.kind-kind.result = bears_2 kind_of mids.asked mids.faulty c.kind-kind.ensures.net c.kind-kind.ensures.scope c.kind-kind.ensures.value_is in
    let x_cause : Bears s c.sys_cause-cause.new.pool 32 4 (λ env. sys_cause_of (asked_in p env) (system_out p env 1) (trap_cause_in p env)) c.sys_cause-cause.result = bears_3 sys_cause_of (bears_on to_cause mids.asked) (bears_on to_cause known.system.irq_cause) (bears_on to_cause mids.cause) c.sys_cause-cause.ensures.net c.sys_cause-cause.ensures.scope c.sys_cause-cause.ensures.value_is in
    let x_tval : Bears s c.sys_value-tval.new.pool 32 4 (λ env. sys_value_of (asked_in p env) (trap_value_in p env)) c.sys_value-tval.result = bears_2 sys_value_of (bears_on to_tval mids.asked) (bears_on to_tval mids.tval) c.sys_value-tval.ensures.net c.sys_value-tval.ensures.scope c.sys_value-tval.ensures.value_is in
    record { kind = bears_on (c.sys_cause-cause.ensures.step ▸ c.sys_value-tval.ensures.step) x_kind; cause = bears_on c.sys_value-tval.ensures.step x_cause; tval = x_tval }

pub returns-clause-step : goal.returns-clause-step
returns-clause-step c = c.kind-kind.ensures.step ▸ c.sys_cause-cause.ensures.step ▸ c.sys_value-tval.ensures.step
