use Rattle.hw_gates.specs.Places.{Step}
use Rattle.hw_gates.proofs.Steps.{◌▸◌}
use Rattle.pipe_build.specs.Bears.{Bears}
use Rattle.pipe_build.proofs.Bears.{bears_2, bears_4, bears_on}
use Rattle.pipe_nets.specs.Told.{told_word_of, tells_of, told_rd_of, told_value_of, told_cause_of}
use Rattle.pipe_steps.specs.Values.{asked_in, faulty_in, tells_in, told_kind_in, trap_cause_in, system_out, unit_out}
use Rattle.pipe_build.proofs.drivers.told_drivers.Goals as goal

pub returns-clause-drivers : goal.returns-clause-drivers
returns-clause-drivers c = λ s p known mids.
    let to_word : Step c.args.pool.now c.kind_driver-kind.new.pool 3 = c.kind_driver-kind.ensures.step in
    let to_tells : Step c.args.pool.now c.told_word-word.new.pool 5 = to_word ▸ c.told_word-word.ensures.step in
    let to_rd : Step c.args.pool.now c.tells-tells.new.pool 7 = to_tells ▸ c.tells-tells.ensures.step in
    let to_value : Step c.args.pool.now c.told_rd-rd.new.pool 10 = to_rd ▸ c.told_rd-rd.ensures.step in
    let to_cause : Step c.args.pool.now c.told_value-value.new.pool 12 = to_value ▸ c.told_value-value.ensures.step in
    let x_kind : Bears s c.kind_driver-kind.new.pool 2 4 (λ env. told_kind_in p env) c.kind_driver-kind.result = c.kind_driver-kind.ensures.bears s p known mids in
    let x_word : Bears s c.told_word-word.new.pool 32 0 (λ env. told_word_of (asked_in p env) (env.regs p.own.word)) c.told_word-word.result = bears_2 told_word_of (bears_on to_word mids.asked) (bears_on to_word known.regs.slot.word) c.told_word-word.ensures.net c.told_word-word.ensures.scope c.told_word-word.ensures.value_is in
    let x_tells : Bears s c.tells-tells.new.pool 1 4 (λ env. tells_in p env) c.tells-tells.result = bears_2 tells_of (bears_on to_tells mids.wins) (bears_on to_tells mids.asked) c.tells-tells.ensures.net c.tells-tells.ensures.scope c.tells-tells.ensures.value_is in
    let x_rd : Bears s c.told_rd-rd.new.pool 5 4 (λ env. told_rd_of (tells_in p env) (env.regs p.own.word)) c.told_rd-rd.result = bears_2 told_rd_of x_tells (bears_on to_rd known.regs.slot.word) c.told_rd-rd.ensures.net c.told_rd-rd.ensures.scope c.told_rd-rd.ensures.value_is in
    let x_value : Bears s c.told_value-value.new.pool 32 4 (λ env. told_value_of (tells_in p env) (unit_out p env 1)) c.told_value-value.result = bears_2 told_value_of (bears_on c.told_rd-rd.ensures.step x_tells) (bears_on to_value known.units.value) c.told_value-value.ensures.net c.told_value-value.ensures.scope c.told_value-value.ensures.value_is in
    let x_cause : Bears s c.told_cause-cause.new.pool 32 4 (λ env. told_cause_of (asked_in p env) (system_out p env 1) (faulty_in p env) (trap_cause_in p env)) c.told_cause-cause.result = bears_4 told_cause_of (bears_on to_cause mids.asked) (bears_on to_cause known.system.irq_cause) (bears_on to_cause mids.faulty) (bears_on to_cause mids.cause) c.told_cause-cause.ensures.net c.told_cause-cause.ensures.scope c.told_cause-cause.ensures.value_is in
    record { kind = bears_on (c.told_word-word.ensures.step ▸ c.tells-tells.ensures.step ▸ c.told_rd-rd.ensures.step ▸ c.told_value-value.ensures.step ▸ c.told_cause-cause.ensures.step) x_kind; word = bears_on (c.tells-tells.ensures.step ▸ c.told_rd-rd.ensures.step ▸ c.told_value-value.ensures.step ▸ c.told_cause-cause.ensures.step) x_word; rd = bears_on (c.told_value-value.ensures.step ▸ c.told_cause-cause.ensures.step) x_rd; value = bears_on c.told_cause-cause.ensures.step x_value; cause = x_cause }

pub returns-clause-step : goal.returns-clause-step
returns-clause-step c = c.kind_driver-kind.ensures.step ▸ c.told_word-word.ensures.step ▸ c.tells-tells.ensures.step ▸ c.told_rd-rd.ensures.step ▸ c.told_value-value.ensures.step ▸ c.told_cause-cause.ensures.step
