use Rattle.std.proofs.Common.{arith, refl}
use Rattle.hw_gates.specs.Places.{Step}
use Rattle.hw_gates.proofs.Steps.{◌▸◌}
use Rattle.pipe_build.specs.Bears.{Bears}
use Rattle.pipe_build.proofs.Bears.{bears_on, bears_slice, bears_two}
use Rattle.std.specs.Prelude.{bit_and}
use Rattle.core_words.specs.Fields.{rd_of, rs1_of, rs2_of}
use Rattle.pipe_steps.specs.Equations.{fetch_fence_of, front_writes_of}
use Rattle.pipe_steps.specs.Values.{fetch_out}
use Rattle.pipe_build.proofs.drivers.front_drivers.Goals as goal

pub returns-clause-drivers : goal.returns-clause-drivers
unfolding fetch_fence_of front_writes_of
returns-clause-drivers c = λ s p known.
    let to_left : Step c.args.pool.now c.and-fence.new.pool 1 = c.and-fence.ensures.step in
    let to_right : Step c.args.pool.now c.slice-left.new.pool 2 = to_left ▸ c.slice-left.ensures.step in
    let to_rd : Step c.args.pool.now c.slice-right.new.pool 3 = to_right ▸ c.slice-right.ensures.step in
    let to_writes : Step c.args.pool.now c.slice-rd.new.pool 4 = to_rd ▸ c.slice-rd.ensures.step in
    let x_fence : Bears s c.and-fence.new.pool 1 1 (λ env. fetch_fence_of (env.wires p.wires.kill) (env.regs p.own.flush_fence)) c.and-fence.result = bears_two bit_and (omega arith) (omega arith) known.wires.kill known.regs.flush_fence c.and-fence.ensures.net c.and-fence.ensures.width c.and-fence.ensures.level c.and-fence.ensures.scope c.and-fence.ensures.value in
    let x_left : Bears s c.slice-left.new.pool 5 0 (λ env. rs1_of (fetch_out p env 2)) c.slice-left.result = bears_slice 19 15 (omega arith) (bears_on to_left known.fetch.word) refl c.slice-left.ensures.net c.slice-left.ensures.width c.slice-left.ensures.level c.slice-left.ensures.scope c.slice-left.ensures.value in
    let x_right : Bears s c.slice-right.new.pool 5 0 (λ env. rs2_of (fetch_out p env 2)) c.slice-right.result = bears_slice 24 20 (omega arith) (bears_on to_right known.fetch.word) refl c.slice-right.ensures.net c.slice-right.ensures.width c.slice-right.ensures.level c.slice-right.ensures.scope c.slice-right.ensures.value in
    let x_rd : Bears s c.slice-rd.new.pool 5 0 (λ env. rd_of (env.regs p.own.word)) c.slice-rd.result = bears_slice 11 7 (omega arith) (bears_on to_rd known.regs.slot.word) refl c.slice-rd.ensures.net c.slice-rd.ensures.width c.slice-rd.ensures.level c.slice-rd.ensures.scope c.slice-rd.ensures.value in
    let x_writes : Bears s c.and-writes.new.pool 1 0 (λ env. front_writes_of (env.regs p.own.valid) (env.regs p.own.writes)) c.and-writes.result = bears_two bit_and (omega arith) (omega arith) (bears_on to_writes known.regs.valid) (bears_on to_writes known.regs.slot.writes) c.and-writes.ensures.net c.and-writes.ensures.width c.and-writes.ensures.level c.and-writes.ensures.scope c.and-writes.ensures.value in
    record { fence = bears_on (c.slice-left.ensures.step ▸ c.slice-right.ensures.step ▸ c.slice-rd.ensures.step ▸ c.and-writes.ensures.step) x_fence; ra = bears_on (c.slice-right.ensures.step ▸ c.slice-rd.ensures.step ▸ c.and-writes.ensures.step) x_left; rb = bears_on (c.slice-rd.ensures.step ▸ c.and-writes.ensures.step) x_right; rd = bears_on c.and-writes.ensures.step x_rd; writes = x_writes }

pub returns-clause-step : goal.returns-clause-step
returns-clause-step c = c.and-fence.ensures.step ▸ c.slice-left.ensures.step ▸ c.slice-right.ensures.step ▸ c.slice-rd.ensures.step ▸ c.and-writes.ensures.step
