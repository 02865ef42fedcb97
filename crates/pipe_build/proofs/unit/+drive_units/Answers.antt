use Rattle.std.proofs.Common.{◌≡◌, ◌+◌, ◌-◌, ◌*◌, List, ◌∷◌, length, get_or, arith, rules, subst, sym}
use Rattle.std.specs.Prelude.{All, drop, take}
use Rattle.std.proofs.lemmas.List.Elements.{All-cons, All-nil}
use Rattle.hw_gates.proofs.Steps.{◌▸◌, adds_of, step_as}
use Rattle.service_ports.specs.declared.ports.ExecOffer.{ExecOffer}
use Rattle.service_ports.specs.Ports.{exec_ports}
use Rattle.plug_part.specs.Owned.{is_among}
use Rattle.pipe_drive.specs.Rights.{is_exec_input}
use Rattle.pipe_steps.specs.Drives.{DrivesUnit}
use Rattle.pipe_steps.specs.Numbers.{units_of}
use Rattle.pipe_steps.specs.Things.{PipeUnit}
use Rattle.pipe_build.specs.Undriven.{AreUndriven, UnitsOnly, unit_of}
use Rattle.pipe_build.proofs.AllNets.{nets_on}
use Rattle.pipe_build.proofs.Bears.{later}
use Rattle.pipe_build.proofs.Has.{later_grown}
use Rattle.pipe_build.proofs.Later.{unit_later}
use Rattle.pipe_build.proofs.Undriven.{undriven_on, units_then}
use Rattle.pipe_build.proofs.UnitOuts.{front_and_rest, no_exec, none_left, rest_long}
use Rattle.pipe_build.proofs.unit.«+drive_units».Goals as goal

pub drive_unit-requires-clause-nets : goal.drive_unit-requires-clause-nets
drive_unit-requires-clause-nets t c =
    let split = front_and_rest no_exec c.args.execs.now c.in-len1-up.len_at_least in
    let undriven = subst (AreUndriven c.args.m.now c.args.chosen) split c.requires.ready in
    (c.requires.nets.0, c.requires.nets.1, c.requires.nets.2 _ undriven.0.few, c.requires.nets.3)

pub drive_units-requires : goal.drive_units-requires
drive_units-requires t c =
    let os = c.args.execs.now in
    let there = c.in-len1-up.len_at_least in
    let long = rest_long os there in
    let rest : List ExecOffer = take (length os - 1) (drop 1 os) in
    let split = front_and_rest no_exec os there in
    let undriven = subst (AreUndriven c.args.m.now c.args.chosen) split c.requires.ready in
    let only = c.drive_unit.ensures.only in
    let grows = only.grows in
    let step = c.drive_unit.ensures.step in (
      search rules,
      (
        omega (arith, long, grows.room),
        (
          omega (arith, long, step.spare),
          (
            omega (arith, long),
            (
              c.requires.commits,
              (
                undriven_on c.args.m.now c.drive_unit.new.m _ c.args.chosen only (c.args.chosen + 1) (omega arith) rest undriven.1 undriven.2,
                (
                  c.drive_unit.ensures.drivers c.requires.drivers,
                  (
                    c.requires.nets.0,
                    c.requires.nets.1,
                    c.requires.nets.2,
                    nets_on (later_grown c.args.m.now c.drive_unit.new.m (8 * 1) c.drive_unit.new.pool grows) (nets_on (later step) c.requires.nets.3),
                  ),
                ),
              ),
            ),
          ),
        ),
      ),
    )

pub returns-in-empty-clause-units : goal.returns-in-empty-clause-units
returns-in-empty-clause-units t c = λ nodes p take commits nets.
    let none = none_left c.args.execs.now c.in-empty.len_below in
    let P : PipeUnit → Type 0 = DrivesUnit c.args.m.now c.args.pool.now.nodes p in
    subst (λ (os : List ExecOffer). All P (units_of nodes c.args.chosen os)) (sym none) (All-nil P)

pub returns-in-len1-up-clause-units : goal.returns-in-len1-up-clause-units
returns-in-len1-up-clause-units t c = λ nodes p at commits nets.
    let os = c.args.execs.now in
    let m = c.args.m.now in
    let mid = c.drive_unit.new.m in
    let first : ExecOffer = get_or os 0 no_exec in
    let rest : List ExecOffer = take (length os - 1) (drop 1 os) in
    let split : os ≡ first ∷ rest = front_and_rest no_exec os c.in-len1-up.len_at_least in
    let undriven = subst (AreUndriven m c.args.chosen) split c.requires.ready in
    let only = c.drive_unit.ensures.only in
    let head = c.drive_unit.ensures.unit nodes p at (commits first.by undriven.0.few) nets in
    let on = nets_on (later_grown m mid (8 * 1) c.drive_unit.new.pool only.grows) (nets_on (later c.drive_unit.ensures.step) nets) in
    let tail = c.drive_units.ensures.units nodes p at commits on in
    let P : PipeUnit → Type 0 = DrivesUnit c.drive_units.new.m c.drive_units.new.pool.nodes p in
    let kept = unit_later (c.drive_unit.ensures.drivers c.requires.drivers) c.drive_units.ensures.only.grows (adds_of _ _ _ c.drive_units.ensures.step) head in
    subst (λ (xs : List ExecOffer). All P (units_of nodes c.args.chosen xs)) (sym split) (All-cons P (unit_of nodes c.args.chosen first) (units_of nodes (c.args.chosen + 1) rest) kept tail)

pub returns-in-len1-up-clause-only : goal.returns-in-len1-up-clause-only
returns-in-len1-up-clause-only t c =
    let os = c.args.execs.now in
    let first : ExecOffer = get_or os 0 no_exec in
    let rest : List ExecOffer = take (length os - 1) (drop 1 os) in
    let split : os ≡ first ∷ rest = front_and_rest no_exec os c.in-len1-up.len_at_least in
    let long = rest_long os c.in-len1-up.len_at_least in
    subst (λ (xs : List ExecOffer). UnitsOnly (is_exec_input xs) c.args.chosen (length os) c.args.m.now c.drive_units.new.m) (sym split)
    (units_then (λ k. is_among k (exec_ports first.ports).inputs) (is_exec_input rest) c.args.chosen (length rest) (length os) c.args.m.now c.drive_unit.new.m c.drive_units.new.m
    c.drive_unit.ensures.only c.drive_units.ensures.only (omega (arith, long)))

pub returns-in-len1-up-clause-step : goal.returns-in-len1-up-clause-step
returns-in-len1-up-clause-step t c =
    let long = rest_long c.args.execs.now c.in-len1-up.len_at_least in
    step_as _ _ _ _ (omega (arith, long)) (c.drive_unit.ensures.step ▸ c.drive_units.ensures.step)
