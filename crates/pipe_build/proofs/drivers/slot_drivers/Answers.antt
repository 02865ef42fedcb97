use Rattle.std.proofs.Common.{arith}
use Rattle.hw_gates.specs.Places.{Step}
use Rattle.hw_gates.proofs.Steps.{◌▸◌}
use Rattle.pipe_build.specs.Bears.{Bears}
use Rattle.pipe_build.proofs.Bears.{bears_2, bears_3, bears_mux, bears_on}
use Rattle.pipe_nets.specs.Entry.{fresh_word_of, fresh_writes_of}
use Rattle.pipe_steps.specs.Equations.{slot_after_of}
use Rattle.pipe_steps.specs.Values.{slot_next, fetch_out, decode_out, hazard_out, fresh_except_in}
use Rattle.pipe_build.proofs.drivers.slot_drivers.Goals as goal

pub mux-writes-requires-clause-spare : goal.mux-writes-requires-clause-spare
mux-writes-requires-clause-spare c = omega (arith, c.requires.spare, c.fresh_word-new_word.ensures.step.spare, c.fresh_writes-new_writes.ensures.step.spare, c.mux-pc.ensures.step.spare, c.mux-word.ensures.step.spare, c.mux-error.ensures.step.spare, c.mux-legal.ensures.step.spare, c.mux-row.ensures.step.spare, c.mux-except.ensures.step.spare)

pub mux-left-requires-clause-spare : goal.mux-left-requires-clause-spare
mux-left-requires-clause-spare c = omega (arith, c.requires.spare, c.fresh_word-new_word.ensures.step.spare, c.fresh_writes-new_writes.ensures.step.spare, c.mux-pc.ensures.step.spare, c.mux-word.ensures.step.spare, c.mux-error.ensures.step.spare, c.mux-legal.ensures.step.spare, c.mux-row.ensures.step.spare, c.mux-except.ensures.step.spare, c.mux-writes.ensures.step.spare)

pub mux-right-requires-clause-spare : goal.mux-right-requires-clause-spare
mux-right-requires-clause-spare c = omega (arith, c.requires.spare, c.fresh_word-new_word.ensures.step.spare, c.fresh_writes-new_writes.ensures.step.spare, c.mux-pc.ensures.step.spare, c.mux-word.ensures.step.spare, c.mux-error.ensures.step.spare, c.mux-legal.ensures.step.spare, c.mux-row.ensures.step.spare, c.mux-except.ensures.step.spare, c.mux-writes.ensures.step.spare, c.mux-left.ensures.step.spare)

pub mux-right-requires-clause-b : goal.mux-right-requires-clause-b
mux-right-requires-clause-b c = (bears_on (c.fresh_word-new_word.ensures.step ▸ c.fresh_writes-new_writes.ensures.step ▸ c.mux-pc.ensures.step ▸ c.mux-word.ensures.step ▸ c.mux-error.ensures.step ▸ c.mux-legal.ensures.step ▸ c.mux-row.ensures.step ▸ c.mux-except.ensures.step ▸ c.mux-writes.ensures.step ▸ c.mux-left.ensures.step) c.requires.known.2.regs.slot.b).is.0

pub returns-clause-drivers : goal.returns-clause-drivers
unfolding slot_after_of
returns-clause-drivers c = λ s p known mids.
    let to_new_writes : Step c.args.pool.now c.fresh_word-new_word.new.pool 2 = c.fresh_word-new_word.ensures.step in
    let to_pc : Step c.args.pool.now c.fresh_writes-new_writes.new.pool 5 = to_new_writes ▸ c.fresh_writes-new_writes.ensures.step in
    let to_word : Step c.args.pool.now c.mux-pc.new.pool 6 = to_pc ▸ c.mux-pc.ensures.step in
    let to_error : Step c.args.pool.now c.mux-word.new.pool 7 = to_word ▸ c.mux-word.ensures.step in
    let to_legal : Step c.args.pool.now c.mux-error.new.pool 8 = to_error ▸ c.mux-error.ensures.step in
    let to_row : Step c.args.pool.now c.mux-legal.new.pool 9 = to_legal ▸ c.mux-legal.ensures.step in
    let to_except : Step c.args.pool.now c.mux-row.new.pool 10 = to_row ▸ c.mux-row.ensures.step in
    let to_writes : Step c.args.pool.now c.mux-except.new.pool 11 = to_except ▸ c.mux-except.ensures.step in
    let to_left : Step c.args.pool.now c.mux-writes.new.pool 12 = to_writes ▸ c.mux-writes.ensures.step in
    let to_right : Step c.args.pool.now c.mux-left.new.pool 13 = to_left ▸ c.mux-left.ensures.step in
    let x_new_word : Bears s c.fresh_word-new_word.new.pool 32 0 (λ env. fresh_word_of (fetch_out p env 3) (fetch_out p env 2)) c.fresh_word-new_word.result = bears_2 fresh_word_of known.fetch.error known.fetch.word c.fresh_word-new_word.ensures.net c.fresh_word-new_word.ensures.scope c.fresh_word-new_word.ensures.value_is in
    let x_new_writes : Bears s c.fresh_writes-new_writes.new.pool 1 1 (λ env. fresh_writes_of (decode_out p env 5) (decode_out p env 0) (fetch_out p env 3)) c.fresh_writes-new_writes.result = bears_3 fresh_writes_of (bears_on to_new_writes known.decoder.writes) (bears_on to_new_writes known.decoder.legal) (bears_on to_new_writes known.fetch.error) c.fresh_writes-new_writes.ensures.net c.fresh_writes-new_writes.ensures.scope c.fresh_writes-new_writes.ensures.value_is in
    let x_pc : Bears s c.mux-pc.new.pool 32 7 (λ env. slot_next p env p.own.pc (fetch_out p env 1)) c.mux-pc.result = bears_mux (omega arith) (omega arith) (omega arith) (bears_on to_pc known.wires.enters) (bears_on to_pc known.fetch.pc) (bears_on to_pc known.regs.slot.pc) c.mux-pc.ensures.net c.mux-pc.ensures.width c.mux-pc.ensures.level c.mux-pc.ensures.scope c.mux-pc.ensures.value in
    let x_word : Bears s c.mux-word.new.pool 32 7 (λ env. slot_next p env p.own.word (fresh_word_of (fetch_out p env 3) (fetch_out p env 2))) c.mux-word.result = bears_mux (omega arith) (omega arith) (omega arith) (bears_on to_word known.wires.enters) (bears_on (c.fresh_writes-new_writes.ensures.step ▸ c.mux-pc.ensures.step) x_new_word) (bears_on to_word known.regs.slot.word) c.mux-word.ensures.net c.mux-word.ensures.width c.mux-word.ensures.level c.mux-word.ensures.scope c.mux-word.ensures.value in
    let x_error : Bears s c.mux-error.new.pool 1 7 (λ env. slot_next p env p.own.error (fetch_out p env 3)) c.mux-error.result = bears_mux (omega arith) (omega arith) (omega arith) (bears_on to_error known.wires.enters) (bears_on to_error known.fetch.error) (bears_on to_error known.regs.slot.error) c.mux-error.ensures.net c.mux-error.ensures.width c.mux-error.ensures.level c.mux-error.ensures.scope c.mux-error.ensures.value in
    let x_legal : Bears s c.mux-legal.new.pool 1 7 (λ env. slot_next p env p.own.legal (decode_out p env 0)) c.mux-legal.result = bears_mux (omega arith) (omega arith) (omega arith) (bears_on to_legal known.wires.enters) (bears_on to_legal known.decoder.legal) (bears_on to_legal known.regs.slot.legal) c.mux-legal.ensures.net c.mux-legal.ensures.width c.mux-legal.ensures.level c.mux-legal.ensures.scope c.mux-legal.ensures.value in
    let x_row : Bears s c.mux-row.new.pool 7 7 (λ env. slot_next p env p.own.row (decode_out p env 1)) c.mux-row.result = bears_mux (omega arith) (omega arith) (omega arith) (bears_on to_row known.wires.enters) (bears_on to_row known.decoder.row) (bears_on to_row known.regs.slot.row) c.mux-row.ensures.net c.mux-row.ensures.width c.mux-row.ensures.level c.mux-row.ensures.scope c.mux-row.ensures.value in
    let x_except : Bears s c.mux-except.new.pool 1 7 (λ env. slot_next p env p.own.except (fresh_except_in p env)) c.mux-except.result = bears_mux (omega arith) (omega arith) (omega arith) (bears_on to_except known.wires.enters) (bears_on to_except mids.fresh_except) (bears_on to_except known.regs.slot.except) c.mux-except.ensures.net c.mux-except.ensures.width c.mux-except.ensures.level c.mux-except.ensures.scope c.mux-except.ensures.value in
    let x_writes : Bears s c.mux-writes.new.pool 1 7 (λ env. slot_next p env p.own.writes (fresh_writes_of (decode_out p env 5) (decode_out p env 0) (fetch_out p env 3))) c.mux-writes.result = bears_mux (omega arith) (omega arith) (omega arith) (bears_on to_writes known.wires.enters) (bears_on (c.mux-pc.ensures.step ▸ c.mux-word.ensures.step ▸ c.mux-error.ensures.step ▸ c.mux-legal.ensures.step ▸ c.mux-row.ensures.step ▸ c.mux-except.ensures.step) x_new_writes) (bears_on to_writes known.regs.slot.writes) c.mux-writes.ensures.net c.mux-writes.ensures.width c.mux-writes.ensures.level c.mux-writes.ensures.scope c.mux-writes.ensures.value in
    let x_left : Bears s c.mux-left.new.pool 32 7 (λ env. slot_next p env p.own.a (hazard_out p env 1)) c.mux-left.result = bears_mux (omega arith) (omega arith) (omega arith) (bears_on to_left known.wires.enters) (bears_on to_left known.hazard.a) (bears_on to_left known.regs.slot.a) c.mux-left.ensures.net c.mux-left.ensures.width c.mux-left.ensures.level c.mux-left.ensures.scope c.mux-left.ensures.value in
    let x_right : Bears s c.mux-right.new.pool 32 7 (λ env. slot_next p env p.own.b (hazard_out p env 2)) c.mux-right.result = bears_mux (omega arith) (omega arith) (omega arith) (bears_on to_right known.wires.enters) (bears_on to_right known.hazard.b) (bears_on to_right known.regs.slot.b) c.mux-right.ensures.net c.mux-right.ensures.width c.mux-right.ensures.level c.mux-right.ensures.scope c.mux-right.ensures.value in
    record { pc = bears_on (c.mux-word.ensures.step ▸ c.mux-error.ensures.step ▸ c.mux-legal.ensures.step ▸ c.mux-row.ensures.step ▸ c.mux-except.ensures.step ▸ c.mux-writes.ensures.step ▸ c.mux-left.ensures.step ▸ c.mux-right.ensures.step) x_pc; word = bears_on (c.mux-error.ensures.step ▸ c.mux-legal.ensures.step ▸ c.mux-row.ensures.step ▸ c.mux-except.ensures.step ▸ c.mux-writes.ensures.step ▸ c.mux-left.ensures.step ▸ c.mux-right.ensures.step) x_word; error = bears_on (c.mux-legal.ensures.step ▸ c.mux-row.ensures.step ▸ c.mux-except.ensures.step ▸ c.mux-writes.ensures.step ▸ c.mux-left.ensures.step ▸ c.mux-right.ensures.step) x_error; legal = bears_on (c.mux-row.ensures.step ▸ c.mux-except.ensures.step ▸ c.mux-writes.ensures.step ▸ c.mux-left.ensures.step ▸ c.mux-right.ensures.step) x_legal; row = bears_on (c.mux-except.ensures.step ▸ c.mux-writes.ensures.step ▸ c.mux-left.ensures.step ▸ c.mux-right.ensures.step) x_row; except = bears_on (c.mux-writes.ensures.step ▸ c.mux-left.ensures.step ▸ c.mux-right.ensures.step) x_except; writes = bears_on (c.mux-left.ensures.step ▸ c.mux-right.ensures.step) x_writes; a = bears_on c.mux-right.ensures.step x_left; b = x_right }

pub returns-clause-step : goal.returns-clause-step
returns-clause-step c = c.fresh_word-new_word.ensures.step ▸ c.fresh_writes-new_writes.ensures.step ▸ c.mux-pc.ensures.step ▸ c.mux-word.ensures.step ▸ c.mux-error.ensures.step ▸ c.mux-legal.ensures.step ▸ c.mux-row.ensures.step ▸ c.mux-except.ensures.step ▸ c.mux-writes.ensures.step ▸ c.mux-left.ensures.step ▸ c.mux-right.ensures.step
