use Rattle.std.proofs.Common.{arith}
use Rattle.hw_gates.specs.Places.{Step}
use Rattle.hw_gates.proofs.Steps.{◌▸◌}
use Rattle.pipe_build.specs.Bears.{Bears}
use Rattle.pipe_build.proofs.Bears.{bears_2, bears_3, bears_4, bears_5, bears_on}
use Rattle.pipe_nets.specs.Path.{asked_of}
use Rattle.pipe_nets.specs.Finish.{through_of, faulty_of, wins_of}
use Rattle.pipe_nets.specs.Causes.{except_cause_of, except_value_of, of_trap}
use Rattle.pipe_nets.specs.Entry.{fresh_except_of, takes_of}
use Rattle.pipe_nets.specs.After.{event_of, fences_of}
use Rattle.pipe_steps.specs.Values.{asked_in, through_in, faulty_in, wins_in, trap_cause_in, trap_value_in, event_in, fences_in, fresh_except_in, takes_in}
use Rattle.pipe_build.proofs.mids.mid_nets.Goals as goal

pub fences-fences-requires-clause-spare : goal.fences-fences-requires-clause-spare
fences-fences-requires-clause-spare c = omega (arith, c.requires.spare, c.asks-asked.ensures.step.spare, c.through-through.ensures.step.spare, c.faulty-faulty.ensures.step.spare, c.wins-wins.ensures.step.spare, c.except_cause-own_cause.ensures.step.spare, c.of_trap-cause.ensures.step.spare, c.except_value-own_tval.ensures.step.spare, c.of_trap-tval.ensures.step.spare, c.event-event.ensures.step.spare)

pub fresh_except-fresh_except-requires-clause-spare : goal.fresh_except-fresh_except-requires-clause-spare
fresh_except-fresh_except-requires-clause-spare c = omega (arith, c.requires.spare, c.asks-asked.ensures.step.spare, c.through-through.ensures.step.spare, c.faulty-faulty.ensures.step.spare, c.wins-wins.ensures.step.spare, c.except_cause-own_cause.ensures.step.spare, c.of_trap-cause.ensures.step.spare, c.except_value-own_tval.ensures.step.spare, c.of_trap-tval.ensures.step.spare, c.event-event.ensures.step.spare, c.fences-fences.ensures.step.spare)

pub takes-takes-requires-clause-spare : goal.takes-takes-requires-clause-spare
takes-takes-requires-clause-spare c = omega (arith, c.requires.spare, c.asks-asked.ensures.step.spare, c.through-through.ensures.step.spare, c.faulty-faulty.ensures.step.spare, c.wins-wins.ensures.step.spare, c.except_cause-own_cause.ensures.step.spare, c.of_trap-cause.ensures.step.spare, c.except_value-own_tval.ensures.step.spare, c.of_trap-tval.ensures.step.spare, c.event-event.ensures.step.spare, c.fences-fences.ensures.step.spare, c.fresh_except-fresh_except.ensures.step.spare)

pub returns-clause-mids : goal.returns-clause-mids
returns-clause-mids c = λ s p known.
    let to_through : Step c.args.pool.now c.asks-asked.new.pool 2 = c.asks-asked.ensures.step in
    let to_faulty : Step c.args.pool.now c.through-through.new.pool 3 = to_through ▸ c.through-through.ensures.step in
    let to_wins : Step c.args.pool.now c.faulty-faulty.new.pool 4 = to_faulty ▸ c.faulty-faulty.ensures.step in
    let to_own_cause : Step c.args.pool.now c.wins-wins.new.pool 6 = to_wins ▸ c.wins-wins.ensures.step in
    let to_cause : Step c.args.pool.now c.except_cause-own_cause.new.pool 14 = to_own_cause ▸ c.except_cause-own_cause.ensures.step in
    let to_own_tval : Step c.args.pool.now c.of_trap-cause.new.pool 15 = to_cause ▸ c.of_trap-cause.ensures.step in
    let to_tval : Step c.args.pool.now c.except_value-own_tval.new.pool 18 = to_own_tval ▸ c.except_value-own_tval.ensures.step in
    let to_event : Step c.args.pool.now c.of_trap-tval.new.pool 19 = to_tval ▸ c.of_trap-tval.ensures.step in
    let to_fences : Step c.args.pool.now c.event-event.new.pool 20 = to_event ▸ c.event-event.ensures.step in
    let to_fresh_except : Step c.args.pool.now c.fences-fences.new.pool 21 = to_fences ▸ c.fences-fences.ensures.step in
    let to_takes : Step c.args.pool.now c.fresh_except-fresh_except.new.pool 29 = to_fresh_except ▸ c.fresh_except-fresh_except.ensures.step in
    let x_asked : Bears s c.asks-asked.new.pool 1 0 (λ env. asked_in p env) c.asks-asked.result = bears_2 asked_of known.system.take_irq known.regs.started c.asks-asked.ensures.net c.asks-asked.ensures.scope c.asks-asked.ensures.value_is in
    let x_through : Bears s c.through-through.new.pool 1 4 (λ env. through_in p env) c.through-through.result = bears_2 through_of (bears_on to_through known.regs.slot.except) (bears_on to_through known.units.done) c.through-through.ensures.net c.through-through.ensures.scope c.through-through.ensures.value_is in
    let x_faulty : Bears s c.faulty-faulty.new.pool 1 4 (λ env. faulty_in p env) c.faulty-faulty.result = bears_2 faulty_of (bears_on to_faulty known.regs.slot.except) (bears_on to_faulty known.units.trap) c.faulty-faulty.ensures.net c.faulty-faulty.ensures.scope c.faulty-faulty.ensures.value_is in
    let x_wins : Bears s c.wins-wins.new.pool 1 4 (λ env. wins_in p env) c.wins-wins.result = bears_2 wins_of (bears_on to_wins known.regs.slot.writes) (bears_on to_wins known.units.trap) c.wins-wins.ensures.net c.wins-wins.ensures.scope c.wins-wins.ensures.value_is in
    let x_own_cause : Bears s c.except_cause-own_cause.new.pool 32 0 (λ env. except_cause_of (env.regs p.own.error) (env.regs p.own.legal) (env.regs p.own.word)) c.except_cause-own_cause.result = bears_3 except_cause_of (bears_on to_own_cause known.regs.slot.error) (bears_on to_own_cause known.regs.slot.legal) (bears_on to_own_cause known.regs.slot.word) c.except_cause-own_cause.ensures.net c.except_cause-own_cause.ensures.scope c.except_cause-own_cause.ensures.value_is in
    let x_cause : Bears s c.of_trap-cause.new.pool 32 4 (λ env. trap_cause_in p env) c.of_trap-cause.result = bears_3 of_trap (bears_on to_cause known.regs.slot.except) x_own_cause (bears_on to_cause known.units.cause) c.of_trap-cause.ensures.net c.of_trap-cause.ensures.scope c.of_trap-cause.ensures.value_is in
    let x_own_tval : Bears s c.except_value-own_tval.new.pool 32 0 (λ env. except_value_of (env.regs p.own.error) (env.regs p.own.legal) (env.regs p.own.pc) (env.regs p.own.word)) c.except_value-own_tval.result = bears_4 except_value_of (bears_on to_own_tval known.regs.slot.error) (bears_on to_own_tval known.regs.slot.legal) (bears_on to_own_tval known.regs.slot.pc) (bears_on to_own_tval known.regs.slot.word) c.except_value-own_tval.ensures.net c.except_value-own_tval.ensures.scope c.except_value-own_tval.ensures.value_is in
    let x_tval : Bears s c.of_trap-tval.new.pool 32 4 (λ env. trap_value_in p env) c.of_trap-tval.result = bears_3 of_trap (bears_on to_tval known.regs.slot.except) x_own_tval (bears_on to_tval known.units.tval) c.of_trap-tval.ensures.net c.of_trap-tval.ensures.scope c.of_trap-tval.ensures.value_is in
    let x_event : Bears s c.event-event.new.pool 1 5 (λ env. event_in p env) c.event-event.result = bears_2 event_of (bears_on to_event known.wires.ends) (bears_on to_event known.wires.irq) c.event-event.ensures.net c.event-event.ensures.scope c.event-event.ensures.value_is in
    let x_fences : Bears s c.fences-fences.new.pool 1 6 (λ env. fences_in p env) c.fences-fences.result = bears_2 fences_of (bears_on to_fences known.wires.retires) (bears_on to_fences known.units.fence) c.fences-fences.ensures.net c.fences-fences.ensures.scope c.fences-fences.ensures.value_is in
    let x_fresh_except : Bears s c.fresh_except-fresh_except.new.pool 1 1 (λ env. fresh_except_in p env) c.fresh_except-fresh_except.result = bears_3 fresh_except_of (bears_on to_fresh_except known.fetch.error) (bears_on to_fresh_except known.decoder.legal) (bears_on to_fresh_except known.decoder.row) c.fresh_except-fresh_except.ensures.net c.fresh_except-fresh_except.ensures.scope c.fresh_except-fresh_except.ensures.value_is in
    let x_takes : Bears s c.takes-takes.new.pool 1 7 (λ env. takes_in p env) c.takes-takes.result = bears_5 takes_of (bears_on to_takes known.fetch.valid) (bears_on to_takes known.wires.enters) (bears_on to_takes known.hazard.hold) (bears_on to_takes known.wires.kill) (bears_on to_takes known.regs.stopped) c.takes-takes.ensures.net c.takes-takes.ensures.scope c.takes-takes.ensures.value_is in
    record { asked = bears_on (c.through-through.ensures.step ▸ c.faulty-faulty.ensures.step ▸ c.wins-wins.ensures.step ▸ c.except_cause-own_cause.ensures.step ▸ c.of_trap-cause.ensures.step ▸ c.except_value-own_tval.ensures.step ▸ c.of_trap-tval.ensures.step ▸ c.event-event.ensures.step ▸ c.fences-fences.ensures.step ▸ c.fresh_except-fresh_except.ensures.step ▸ c.takes-takes.ensures.step) x_asked; through = bears_on (c.faulty-faulty.ensures.step ▸ c.wins-wins.ensures.step ▸ c.except_cause-own_cause.ensures.step ▸ c.of_trap-cause.ensures.step ▸ c.except_value-own_tval.ensures.step ▸ c.of_trap-tval.ensures.step ▸ c.event-event.ensures.step ▸ c.fences-fences.ensures.step ▸ c.fresh_except-fresh_except.ensures.step ▸ c.takes-takes.ensures.step) x_through; faulty = bears_on (c.wins-wins.ensures.step ▸ c.except_cause-own_cause.ensures.step ▸ c.of_trap-cause.ensures.step ▸ c.except_value-own_tval.ensures.step ▸ c.of_trap-tval.ensures.step ▸ c.event-event.ensures.step ▸ c.fences-fences.ensures.step ▸ c.fresh_except-fresh_except.ensures.step ▸ c.takes-takes.ensures.step) x_faulty; wins = bears_on (c.except_cause-own_cause.ensures.step ▸ c.of_trap-cause.ensures.step ▸ c.except_value-own_tval.ensures.step ▸ c.of_trap-tval.ensures.step ▸ c.event-event.ensures.step ▸ c.fences-fences.ensures.step ▸ c.fresh_except-fresh_except.ensures.step ▸ c.takes-takes.ensures.step) x_wins; cause = bears_on (c.except_value-own_tval.ensures.step ▸ c.of_trap-tval.ensures.step ▸ c.event-event.ensures.step ▸ c.fences-fences.ensures.step ▸ c.fresh_except-fresh_except.ensures.step ▸ c.takes-takes.ensures.step) x_cause; tval = bears_on (c.event-event.ensures.step ▸ c.fences-fences.ensures.step ▸ c.fresh_except-fresh_except.ensures.step ▸ c.takes-takes.ensures.step) x_tval; event = bears_on (c.fences-fences.ensures.step ▸ c.fresh_except-fresh_except.ensures.step ▸ c.takes-takes.ensures.step) x_event; fences = bears_on (c.fresh_except-fresh_except.ensures.step ▸ c.takes-takes.ensures.step) x_fences; fresh_except = bears_on c.takes-takes.ensures.step x_fresh_except; takes = x_takes }

pub returns-clause-step : goal.returns-clause-step
returns-clause-step c = c.asks-asked.ensures.step ▸ c.through-through.ensures.step ▸ c.faulty-faulty.ensures.step ▸ c.wins-wins.ensures.step ▸ c.except_cause-own_cause.ensures.step ▸ c.of_trap-cause.ensures.step ▸ c.except_value-own_tval.ensures.step ▸ c.of_trap-tval.ensures.step ▸ c.event-event.ensures.step ▸ c.fences-fences.ensures.step ▸ c.fresh_except-fresh_except.ensures.step ▸ c.takes-takes.ensures.step
