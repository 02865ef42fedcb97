use Rattle.std.proofs.Common.{◌∙◌, eqb, arith, refl, sym}
use Rattle.std.specs.Prelude.{bit_and}
use Rattle.core_words.specs.Values.{not_of, one_if}
use Rattle.hw_gates.proofs.Steps.{◌▸◌}
use Rattle.hw_module.specs.Scope.{scope_of}
use Rattle.pipe_steps.specs.Equations.{fresh_chosen_of, slot_after_of}
use Rattle.pipe_steps.specs.Things.{PipeUnit}
use Rattle.pipe_steps.specs.Values.{decode_out, fresh_except_in}
use Rattle.pipe_build.specs.Bears.{Bears}
use Rattle.pipe_build.proofs.AllNets.{nets_on}
use Rattle.pipe_build.proofs.Bears.{bears_as, bears_eq, bears_lit, bears_mux, bears_not, bears_on, bears_two, later}
use Rattle.pipe_build.proofs.unit.unit_drivers.Goals as goal

pub go_driver-go-requires-clause-nets : goal.go_driver-go-requires-clause-nets
go_driver-go-requires-clause-nets c = (
  scope_of c.args.m.now,
  c.requires.nets.0,
  c.requires.nets.1,
  c.args.chosen,
  nets_on (later c.read_reg-own.ensures.step) c.requires.nets.2,
  bears_as c.requires.row.wide (omega arith) c.read_reg-own.ensures.bears,
)

pub clear_driver-clear-requires-clause-nets : goal.clear_driver-clear-requires-clause-nets
clear_driver-clear-requires-clause-nets c = (scope_of c.args.m.now, c.requires.nets.0, c.requires.nets.1, nets_on (later (c.read_reg-own.ensures.step ▸ c.go_driver-go.ensures.step)) c.requires.nets.2)

pub eq-same-requires-clause-a : goal.eq-same-requires-clause-a
eq-same-requires-clause-a c = (bears_on (c.read_reg-own.ensures.step ▸ c.go_driver-go.ensures.step ▸ c.clear_driver-clear.ensures.step ▸ c.lit-entry.ensures.step) c.requires.nets.2.known.decoder.unit).is.0

pub eq-same-requires-clause-equal : goal.eq-same-requires-clause-equal
eq-same-requires-clause-equal c = c.lit-entry.ensures.width ∙ sym c.requires.nets.2.known.decoder.unit.is.1

pub mux-next-requires-clause-c : goal.mux-next-requires-clause-c
mux-next-requires-clause-c c = (bears_on (c.read_reg-own.ensures.step ▸ c.go_driver-go.ensures.step ▸ c.clear_driver-clear.ensures.step ▸ c.lit-entry.ensures.step ▸ c.eq-same.ensures.step ▸ c.not-here.ensures.step ▸ c.and-fresh.ensures.step) c.requires.nets.2.known.wires.enters).is.0

pub returns-clause-drivers : goal.returns-clause-drivers
unfolding fresh_chosen_of slot_after_of
returns-clause-drivers c = λ p take ports commits nets.
    let s = scope_of c.args.m.now in
    let u : PipeUnit = record { entry = c.args.by; chosen = c.args.chosen; ports = ports } in
    let own : Bears s c.read_reg-own.new.pool 1 0 (λ env. env.regs c.args.chosen) c.read_reg-own.result = bears_as c.requires.row.wide (omega arith) c.read_reg-own.ensures.bears in
    let go = c.go_driver-go.ensures.bears s p take u commits (nets_on (later c.read_reg-own.ensures.step) nets) own in
    let clear = c.clear_driver-clear.ensures.bears s p take u commits (nets_on (later (c.read_reg-own.ensures.step ▸ c.go_driver-go.ensures.step)) nets) in
    let entry : Bears s c.lit-entry.new.pool 5 1 (λ env. c.args.by) c.lit-entry.result = bears_lit c.args.by c.lit-entry.ensures.net c.lit-entry.ensures.width c.lit-entry.ensures.level c.lit-entry.ensures.scope c.lit-entry.ensures.value in
    let same : Bears s c.eq-same.new.pool 1 1 (λ env. one_if (eqb (decode_out p env 2) c.args.by)) c.eq-same.result =
    bears_eq (omega arith) (omega arith) (bears_on (c.read_reg-own.ensures.step ▸ c.go_driver-go.ensures.step ▸ c.clear_driver-clear.ensures.step ▸ c.lit-entry.ensures.step) nets.known.decoder.unit) entry c.eq-same.ensures.net c.eq-same.ensures.width refl c.eq-same.ensures.level c.eq-same.ensures.scope c.eq-same.ensures.value in
    let here : Bears s c.not-here.new.pool 1 1 (λ env. not_of 1 (fresh_except_in p env)) c.not-here.result = bears_not (omega arith) (bears_on (c.read_reg-own.ensures.step ▸ c.go_driver-go.ensures.step ▸ c.clear_driver-clear.ensures.step ▸ c.lit-entry.ensures.step ▸ c.eq-same.ensures.step) nets.mids.fresh_except) c.not-here.ensures.net c.not-here.ensures.width c.not-here.ensures.level c.not-here.ensures.scope c.not-here.ensures.value in
    let fresh : Bears s c.and-fresh.new.pool 1 1 (λ env. bit_and (one_if (eqb (decode_out p env 2) c.args.by)) (not_of 1 (fresh_except_in p env))) c.and-fresh.result =
    bears_two bit_and (omega arith) (omega arith) (bears_on c.not-here.ensures.step same) here c.and-fresh.ensures.net c.and-fresh.ensures.width c.and-fresh.ensures.level c.and-fresh.ensures.scope c.and-fresh.ensures.value in
    let next = bears_mux (omega arith) (omega arith) (omega arith) (bears_on (c.read_reg-own.ensures.step ▸ c.go_driver-go.ensures.step ▸ c.clear_driver-clear.ensures.step ▸ c.lit-entry.ensures.step ▸ c.eq-same.ensures.step ▸ c.not-here.ensures.step ▸ c.and-fresh.ensures.step) nets.known.wires.enters) fresh (bears_on (c.go_driver-go.ensures.step ▸ c.clear_driver-clear.ensures.step ▸ c.lit-entry.ensures.step ▸ c.eq-same.ensures.step ▸ c.not-here.ensures.step ▸ c.and-fresh.ensures.step) own) c.mux-next.ensures.net c.mux-next.ensures.width c.mux-next.ensures.level c.mux-next.ensures.scope c.mux-next.ensures.value in
    record { go = bears_on (c.clear_driver-clear.ensures.step ▸ c.lit-entry.ensures.step ▸ c.eq-same.ensures.step ▸ c.not-here.ensures.step ▸ c.and-fresh.ensures.step ▸ c.mux-next.ensures.step) go; clear = bears_on (c.lit-entry.ensures.step ▸ c.eq-same.ensures.step ▸ c.not-here.ensures.step ▸ c.and-fresh.ensures.step ▸ c.mux-next.ensures.step) clear; next = next }

pub returns-clause-step : goal.returns-clause-step
returns-clause-step c = c.read_reg-own.ensures.step ▸ c.go_driver-go.ensures.step ▸ c.clear_driver-clear.ensures.step ▸ c.lit-entry.ensures.step ▸ c.eq-same.ensures.step ▸ c.not-here.ensures.step ▸ c.and-fresh.ensures.step ▸ c.mux-next.ensures.step
