use Rattle.std.proofs.Common.{◌≤◌, length, arith, None}
use Rattle.plug_api.specs.Spec.{no_spec}
use Rattle.plug_api.proofs.Accepts.{err_is, faulty_refused, faulty_left, known_of, rest_refused, rest_left, left_short, all_accepted}
use Rattle.plug_api.proofs.acceptance.accept.Goals as goal

pub returns-in-Err-take_all-clause-refused : goal.returns-in-Err-take_all-clause-refused
returns-in-Err-take_all-clause-refused g c = λ r e n.
    let s = err_is e in
    rw (← s) (faulty_refused _ _ _ _ _ _ _ c.args.cfg.now _ _ (rw c.items-entries.ensures at c.in-Ok.ensures.ok)
    (rw c.items-entries.ensures at (c.in-Err-take_all.ensures.refused (λ m. n (rw s at m)))))

pub returns-in-Err-take_all-clause-left : goal.returns-in-Err-take_all-clause-left
returns-in-Err-take_all-clause-left g c = λ r e n.
    let s = err_is e in
    rw (← s) (faulty_left _ _ _ _ _ _ _ c.args.cfg.now _ _ (rw c.items-entries.ensures at c.in-Ok.ensures.ok)
    (rw c.items-entries.ensures at (c.in-Err-take_all.ensures.refused (λ m. n (rw s at m)))))

pub returns-in-Err-check_specs-clause-refused : goal.returns-in-Err-check_specs-clause-refused
returns-in-Err-check_specs-clause-refused g c = λ r e n.
    let s = err_is e in
    rw (← s) (rest_refused _ (λ b. None) (λ b. no_spec) _ _ _ _ _ _ _
    (known_of _ (λ b. None) (λ b. no_spec) _ _ _ _ _ _ (rw c.items-entries.ensures at c.in-Ok.ensures.ok)
    (rw c.items-entries.ensures at c.in-Ok-take_all.ensures.faultless) (rw c.items-entries.ensures at c.in-Ok-take_all.ensures.taken))
    (c.in-Err-check_specs.ensures.refused (λ m. n (rw s at m))))

pub returns-in-Err-check_specs-clause-left : goal.returns-in-Err-check_specs-clause-left
returns-in-Err-check_specs-clause-left g c = λ r e n.
    let s = err_is e in
    rw (← s) (rest_left _ _ _ _ _ _ _ c.args.cfg.now _ c.in-Ok-take_all.specs.items _ (rw c.items-entries.ensures at c.in-Ok.ensures.ok)
    (rw c.items-entries.ensures at c.in-Ok-take_all.ensures.configured)
    (c.in-Err-check_specs.ensures.refused (λ m. n (rw s at m))))

pub returns-in-Ok-plan_of-clause-accepted : goal.returns-in-Ok-plan_of-clause-accepted
returns-in-Ok-plan_of-clause-accepted g c =
    all_accepted _ (λ b. None) (λ b. no_spec) _ _ _ _ _ _ _
    (known_of _ (λ b. None) (λ b. no_spec) _ _ _ _ _ _ (rw c.items-entries.ensures at c.in-Ok.ensures.ok)
    (rw c.items-entries.ensures at c.in-Ok-take_all.ensures.faultless) (rw c.items-entries.ensures at c.in-Ok-take_all.ensures.taken))
    c.in-Ok-check_specs.ensures.ok.0
    (c.in-Ok-plan_of.ensures c.in-Ok-take_all.specs.items c.in-Ok-check_specs.ensures.ok.1)

pub returns-in-Ok-plan_of-clause-took : goal.returns-in-Ok-plan_of-clause-took
returns-in-Ok-plan_of-clause-took g c =
    let is = c.in-Ok-plan_of.ensures c.in-Ok-take_all.specs.items c.in-Ok-check_specs.ensures.ok.1 in
    rw is.picks_are (rw c.items-entries.ensures at c.in-Ok-take_all.ensures.configured)

pub returns-in-Ok-plan_of-clause-begun : goal.returns-in-Ok-plan_of-clause-begun
returns-in-Ok-plan_of-clause-begun g c =
    let is = c.in-Ok-plan_of.ensures c.in-Ok-take_all.specs.items c.in-Ok-check_specs.ensures.ok.1 in
    rw is.picks_are (rw c.items-entries.ensures at c.in-Ok-take_all.ensures.begun)

pub returns-in-Ok-plan_of-clause-builds : goal.returns-in-Ok-plan_of-clause-builds
returns-in-Ok-plan_of-clause-builds g c =
    let is = c.in-Ok-plan_of.ensures c.in-Ok-take_all.specs.items c.in-Ok-check_specs.ensures.ok.1 in
    rw is.picks_are (rw c.items-entries.ensures at c.in-Ok-take_all.ensures.builds)

pub returns-in-Err-take_all-clause-short : goal.returns-in-Err-take_all-clause-short
returns-in-Err-take_all-clause-short g c = λ e.
    left_short _ _ _ _ _ _ _ c.args.cfg.now _ (rw c.items-entries.ensures at c.in-Ok.ensures.ok) (rw c.items-entries.ensures at c.in-Err-take_all.ensures.stopped)

pub returns-in-Err-check_specs-clause-short : goal.returns-in-Err-check_specs-clause-short
returns-in-Err-check_specs-clause-short g c = λ e.
    let all : length c.args.cfg.now.entries ≤ length c.args.cfg.now.entries = omega arith in
    left_short _ _ _ _ _ _ _ c.args.cfg.now _ (rw c.items-entries.ensures at c.in-Ok.ensures.ok)
    (length c.args.cfg.now.entries, all, rw c.items-entries.ensures at c.in-Ok-take_all.ensures.configured)

pub returns-clause-short : goal.returns-clause-short
returns-clause-short g c = λ e.
    let all : length c.args.cfg.now.entries ≤ length c.args.cfg.now.entries = omega arith in
    left_short _ _ _ _ _ _ _ c.args.cfg.now _ (rw c.items-entries.ensures at c.in-Ok.ensures.ok)
    (length c.args.cfg.now.entries, all, rw c.items-entries.ensures at c.in-Ok-take_all.ensures.configured)
