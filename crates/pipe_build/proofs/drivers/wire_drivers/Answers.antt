use Rattle.std.proofs.Common.{arith}
use Rattle.hw_gates.specs.Places.{Step}
use Rattle.hw_gates.proofs.Steps.{◌▸◌}
use Rattle.pipe_build.specs.Bears.{Bears}
use Rattle.pipe_build.proofs.Bears.{bears_2, bears_3, bears_6, bears_on}
use Rattle.pipe_nets.specs.Path.{kill_of, irq_of, run_of}
use Rattle.pipe_nets.specs.Finish.{ends_of, retires_of, traps_of, writes_of, enters_of}
use Rattle.pipe_steps.specs.Values.{kill_in, irq_in, run_in, ends_in, retires_in, traps_in, writes_in, enters_in}
use Rattle.pipe_build.proofs.drivers.wire_drivers.Goals as goal

pub enters-enters-requires-clause-spare : goal.enters-enters-requires-clause-spare
enters-enters-requires-clause-spare c = omega (arith, c.requires.spare, c.kill-kill.ensures.step.spare, c.interrupt-irq.ensures.step.spare, c.runs-run.ensures.step.spare, c.ends-ends.ensures.step.spare, c.retires-retires.ensures.step.spare, c.traps-traps.ensures.step.spare, c.writes-writes.ensures.step.spare)

pub returns-clause-drivers : goal.returns-clause-drivers
returns-clause-drivers c = λ s p known mids.
    let to_irq : Step c.args.pool.now c.kill-kill.new.pool 7 = c.kill-kill.ensures.step in
    let to_run : Step c.args.pool.now c.interrupt-irq.new.pool 9 = to_irq ▸ c.interrupt-irq.ensures.step in
    let to_ends : Step c.args.pool.now c.runs-run.new.pool 16 = to_run ▸ c.runs-run.ensures.step in
    let to_retires : Step c.args.pool.now c.ends-ends.new.pool 17 = to_ends ▸ c.ends-ends.ensures.step in
    let to_traps : Step c.args.pool.now c.retires-retires.new.pool 21 = to_retires ▸ c.retires-retires.ensures.step in
    let to_writes : Step c.args.pool.now c.traps-traps.new.pool 22 = to_traps ▸ c.traps-traps.ensures.step in
    let to_enters : Step c.args.pool.now c.writes-writes.new.pool 23 = to_writes ▸ c.writes-writes.ensures.step in
    let x_kill : Bears s c.kill-kill.new.pool 1 0 (λ env. kill_in p env) c.kill-kill.result = bears_6 kill_of known.regs.flush known.regs.valid known.regs.slot.pc known.fetch.valid known.fetch.pc known.regs.apc c.kill-kill.ensures.net c.kill-kill.ensures.scope c.kill-kill.ensures.value_is in
    let x_irq : Bears s c.interrupt-irq.new.pool 1 1 (λ env. irq_in p env) c.interrupt-irq.result = bears_2 irq_of (bears_on to_irq mids.asked) (bears_on to_irq known.wires.kill) c.interrupt-irq.ensures.net c.interrupt-irq.ensures.scope c.interrupt-irq.ensures.value_is in
    let x_run : Bears s c.runs-run.new.pool 1 0 (λ env. run_in p env) c.runs-run.result = bears_6 run_of (bears_on to_run known.regs.valid) (bears_on to_run known.regs.started) (bears_on to_run known.regs.flush) (bears_on to_run known.regs.slot.pc) (bears_on to_run known.regs.apc) (bears_on to_run known.system.take_irq) c.runs-run.ensures.net c.runs-run.ensures.scope c.runs-run.ensures.value_is in
    let x_ends : Bears s c.ends-ends.new.pool 1 4 (λ env. ends_in p env) c.ends-ends.result = bears_2 ends_of (bears_on to_ends known.wires.run) (bears_on to_ends mids.through) c.ends-ends.ensures.net c.ends-ends.ensures.scope c.ends-ends.ensures.value_is in
    let x_retires : Bears s c.retires-retires.new.pool 1 5 (λ env. retires_in p env) c.retires-retires.result = bears_3 retires_of (bears_on to_retires known.wires.ends) (bears_on to_retires known.regs.slot.except) (bears_on to_retires known.units.trap) c.retires-retires.ensures.net c.retires-retires.ensures.scope c.retires-retires.ensures.value_is in
    let x_traps : Bears s c.traps-traps.new.pool 1 5 (λ env. traps_in p env) c.traps-traps.result = bears_2 traps_of (bears_on to_traps known.wires.ends) (bears_on to_traps mids.faulty) c.traps-traps.ensures.net c.traps-traps.ensures.scope c.traps-traps.ensures.value_is in
    let x_writes : Bears s c.writes-writes.new.pool 1 5 (λ env. writes_in p env) c.writes-writes.result = bears_2 writes_of (bears_on to_writes known.wires.ends) (bears_on to_writes mids.wins) c.writes-writes.ensures.net c.writes-writes.ensures.scope c.writes-writes.ensures.value_is in
    let x_enters : Bears s c.enters-enters.new.pool 1 4 (λ env. enters_in p env) c.enters-enters.result = bears_2 enters_of (bears_on to_enters known.regs.valid) (bears_on to_enters mids.through) c.enters-enters.ensures.net c.enters-enters.ensures.scope c.enters-enters.ensures.value_is in
    record { kill = bears_on (c.interrupt-irq.ensures.step ▸ c.runs-run.ensures.step ▸ c.ends-ends.ensures.step ▸ c.retires-retires.ensures.step ▸ c.traps-traps.ensures.step ▸ c.writes-writes.ensures.step ▸ c.enters-enters.ensures.step) x_kill; irq = bears_on (c.runs-run.ensures.step ▸ c.ends-ends.ensures.step ▸ c.retires-retires.ensures.step ▸ c.traps-traps.ensures.step ▸ c.writes-writes.ensures.step ▸ c.enters-enters.ensures.step) x_irq; run = bears_on (c.ends-ends.ensures.step ▸ c.retires-retires.ensures.step ▸ c.traps-traps.ensures.step ▸ c.writes-writes.ensures.step ▸ c.enters-enters.ensures.step) x_run; ends = bears_on (c.retires-retires.ensures.step ▸ c.traps-traps.ensures.step ▸ c.writes-writes.ensures.step ▸ c.enters-enters.ensures.step) x_ends; retires = bears_on (c.traps-traps.ensures.step ▸ c.writes-writes.ensures.step ▸ c.enters-enters.ensures.step) x_retires; traps = bears_on (c.writes-writes.ensures.step ▸ c.enters-enters.ensures.step) x_traps; writes = bears_on c.enters-enters.ensures.step x_writes; enters = x_enters }

pub returns-clause-step : goal.returns-clause-step
returns-clause-step c = c.kill-kill.ensures.step ▸ c.interrupt-irq.ensures.step ▸ c.runs-run.ensures.step ▸ c.ends-ends.ensures.step ▸ c.retires-retires.ensures.step ▸ c.traps-traps.ensures.step ▸ c.writes-writes.ensures.step ▸ c.enters-enters.ensures.step
