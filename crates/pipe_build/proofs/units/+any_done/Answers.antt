use Rattle.std.proofs.Common.{◌≡◌, ◌∙◌, ◌-◌, List, [], ◌∷◌, length, map, slice_index_or, arith, subst, sym}
use Rattle.std.specs.Prelude.{bit_or, drop, take}
use Rattle.service_ports.specs.declared.ports.ExecOffer.{ExecOffer}
use Rattle.pipe_steps.specs.Equations.{any_of}
use Rattle.pipe_steps.specs.Numbers.{units_of}
use Rattle.pipe_steps.specs.Things.{PipeUnit}
use Rattle.pipe_steps.specs.Values.{out_of}
use Rattle.pipe_build.specs.Bears.{Bears}
use Rattle.pipe_build.specs.UnitOuts.{AreExecs}
use Rattle.pipe_build.proofs.Bears.{bears_lit, bears_on, bears_two}
use Rattle.pipe_build.proofs.UnitOuts.{front_and_rest, no_exec, none_left}
use Rattle.pipe_build.proofs.units.«+any_done».Goals as goal

pub or-requires-clause-b : goal.or-requires-clause-b
or-requires-clause-b t c =
    let s = c.requires.execs.0 in
    let nodes = c.requires.execs.1 in
    let both = subst (AreExecs s c.args.pool.now nodes) (front_and_rest no_exec c.args.execs.now c.in-len1-up.len_at_least) c.requires.execs.2 in
    (c.any_done-others.ensures.bears s nodes both.1).is.0

pub or-requires-clause-equal : goal.or-requires-clause-equal
or-requires-clause-equal t c =
    let s = c.requires.execs.0 in
    let nodes = c.requires.execs.1 in
    let both = subst (AreExecs s c.args.pool.now nodes) (front_and_rest no_exec c.args.execs.now c.in-len1-up.len_at_least) c.requires.execs.2 in
    (c.any_done-others.ensures.bears s nodes both.1).is.1 ∙ sym both.0.done.is.1

pub returns-in-empty-clause-bears : goal.returns-in-empty-clause-bears
unfolding any_of
returns-in-empty-clause-bears t c = λ s nodes are.
    let none : c.args.execs.now ≡ [] = none_left c.args.execs.now c.in-empty.len_below in
    let zero : Bears s c.lit.new.pool 1 4 (λ env. 0) c.lit.result = bears_lit 0 c.lit.ensures.net c.lit.ensures.width c.lit.ensures.level c.lit.ensures.scope c.lit.ensures.value in
    subst (λ (os : List ExecOffer). Bears s c.lit.new.pool 1 4 (λ env. any_of (map (λ (u : PipeUnit). out_of env u.ports 0) (units_of nodes c.args.chosen os))) c.lit.result) (sym none) zero

pub returns-in-len1-up-clause-bears : goal.returns-in-len1-up-clause-bears
unfolding any_of
returns-in-len1-up-clause-bears t c = λ s nodes are.
    let os = c.args.execs.now in
    let split : os ≡ slice_index_or os 0 no_exec ∷ take (length os - 1) (drop 1 os) = front_and_rest no_exec os c.in-len1-up.len_at_least in
    let both = subst (AreExecs s c.args.pool.now nodes) split are in
    let x_or = bears_two bit_or (omega arith) (omega arith) (bears_on c.any_done-others.ensures.step both.0.done) (c.any_done-others.ensures.bears s nodes both.1)
    c.or.ensures.net c.or.ensures.width c.or.ensures.level c.or.ensures.scope c.or.ensures.value in
    subst (λ (xs : List ExecOffer). Bears s c.or.new.pool 1 4 (λ env. any_of (map (λ (u : PipeUnit). out_of env u.ports 0) (units_of nodes c.args.chosen xs))) c.or.result) (sym split) x_or
