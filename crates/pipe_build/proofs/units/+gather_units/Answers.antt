use Rattle.std.proofs.Common.{◌≡◌, ◌∙◌, ◌-◌, List, [], ◌∷◌, length, map, slice_index_or, ap, arith, rules, subst, sym}
use Rattle.std.specs.Prelude.{bit_or, drop, take}
use Rattle.core_words.specs.Values.{choose}
use Rattle.hw_expr.specs.declared.net.Net.{Net}
use Rattle.hw_gates.proofs.Steps.{◌▸◌}
use Rattle.hw_module.specs.Scope.{scope_of}
use Rattle.service_ports.specs.declared.ports.ExecOffer.{ExecOffer}
use Rattle.service_ports.specs.Ports.{exec_ports}
use Rattle.plug_part.specs.Named.{trees_of}
use Rattle.pipe_nets.specs.Picks.{gathered}
use Rattle.pipe_steps.specs.Numbers.{units_of}
use Rattle.pipe_steps.specs.Things.{PipeUnit}
use Rattle.pipe_steps.specs.Values.{out_of}
use Rattle.pipe_build.specs.Bears.{Bears}
use Rattle.pipe_build.specs.UnitOuts.{AreExecs, place_of, width_of}
use Rattle.pipe_build.proofs.Bears.{bears_as, bears_lit, bears_mux, bears_on, bears_two}
use Rattle.pipe_build.proofs.UnitOuts.{chosen_first, chosen_rest, front_and_rest, no_exec, none_left, output_bears, rest_long}
use Rattle.pipe_build.proofs.units.«+gather_units».Goals as goal

pub gather_units-others-requires : goal.gather_units-others-requires
gather_units-others-requires t c =
    let os = c.args.execs.now in
    let there = c.in-len1-up.len_at_least in
    let long = rest_long os there in
    let split : os ≡ slice_index_or os 0 no_exec ∷ take (length os - 1) (drop 1 os) = front_and_rest no_exec os there in (
      search rules,
      (
        omega (arith, long),
        (
          omega (arith, long),
          (
            λ k l. chosen_rest c.args.m.now c.args.chosen (length os - 1)
                (λ j below. c.requires.rows j (omega (arith, below))) k (omega (arith, l, long)),
            (c.requires.execs.0, (subst (AreExecs (scope_of c.args.m.now) c.args.pool.now c.requires.execs.0) split c.requires.execs.1).1),
          ),
        ),
      ),
    )

pub read_reg-bit-requires-clause-there : goal.read_reg-bit-requires-clause-there
read_reg-bit-requires-clause-there t c = (chosen_first c.args.m.now c.args.chosen (length c.args.execs.now) c.requires.rows c.in-len1-up.len_at_least).there

pub or-requires-clause-b : goal.or-requires-clause-b
or-requires-clause-b t c =
    let s = scope_of c.args.m.now in
    let nodes = c.requires.execs.0 in
    let both = subst (AreExecs s c.args.pool.now nodes) (front_and_rest no_exec c.args.execs.now c.in-len1-up.len_at_least) c.requires.execs.1 in
    (bears_on (c.read_reg-bit.ensures.step ▸ c.lit-zero.ensures.step ▸ c.mux-own.ensures.step) (c.gather_units-others.ensures.bears nodes both.1)).is.0

pub or-requires-clause-equal : goal.or-requires-clause-equal
or-requires-clause-equal t c =
    let s = scope_of c.args.m.now in
    let nodes = c.requires.execs.0 in
    let both = subst (AreExecs s c.args.pool.now nodes) (front_and_rest no_exec c.args.execs.now c.in-len1-up.len_at_least) c.requires.execs.1 in
    let own = output_bears c.args.which both.0 in
    (c.gather_units-others.ensures.bears nodes both.1).is.1 ∙ sym (c.mux-own.ensures.width ∙ ap (λ (n : Net). n.width) c.output_of-output.ensures ∙ own.is.1)

pub returns-in-empty-clause-bears : goal.returns-in-empty-clause-bears
unfolding gathered
returns-in-empty-clause-bears t c = λ nodes are.
    let none : c.args.execs.now ≡ [] = none_left c.args.execs.now c.in-empty.len_below in
    let zero : Bears (scope_of c.args.m.now) c.lit.new.pool (width_of c.args.which) 4 (λ env. 0) c.lit.result =
    bears_lit 0 c.lit.ensures.net (c.lit.ensures.width ∙ c.width_of_output.ensures) c.lit.ensures.level c.lit.ensures.scope c.lit.ensures.value in
    subst (λ (os : List ExecOffer). Bears (scope_of c.args.m.now) c.lit.new.pool (width_of c.args.which) 4
    (λ env. gathered (map (λ (u : PipeUnit). (env.regs u.chosen, out_of env u.ports (place_of c.args.which))) (units_of nodes c.args.chosen os))) c.lit.result) (sym none) zero

pub returns-in-len1-up-clause-bears : goal.returns-in-len1-up-clause-bears
unfolding gathered
returns-in-len1-up-clause-bears t c = λ nodes are.
    let s = scope_of c.args.m.now in
    let os = c.args.execs.now in
    let which = c.args.which in
    let first : ExecOffer = slice_index_or os 0 no_exec in
    let rest : List ExecOffer = take (length os - 1) (drop 1 os) in
    let there = c.in-len1-up.len_at_least in
    let split : os ≡ first ∷ rest = front_and_rest no_exec os there in
    let both : AreExecs s c.args.pool.now nodes (first ∷ rest) = subst (AreExecs s c.args.pool.now nodes) split are in
    let x_others = c.gather_units-others.ensures.bears nodes both.1 in
    let x_bit : Bears s c.read_reg-bit.new.pool 1 0 (λ env. env.regs c.args.chosen) c.read_reg-bit.result =
    bears_as (chosen_first c.args.m.now c.args.chosen (length os) c.requires.rows there).wide (omega arith) c.read_reg-bit.ensures.bears in
    let x_zero : Bears s c.lit-zero.new.pool (width_of which) 4 (λ env. 0) c.lit-zero.result =
    bears_lit 0 c.lit-zero.ensures.net (c.lit-zero.ensures.width ∙ c.width_of_output-in-len1-up.ensures) c.lit-zero.ensures.level c.lit-zero.ensures.scope c.lit-zero.ensures.value in
    let x_out : Bears s c.args.pool.now (width_of which) 4 (λ env. out_of env (trees_of nodes (exec_ports first.ports)) (place_of which)) c.output_of-output.result =
    subst (λ (n : Net). Bears s c.args.pool.now (width_of which) 4 (λ env. out_of env (trees_of nodes (exec_ports first.ports)) (place_of which)) n) (sym c.output_of-output.ensures) (output_bears which both.0) in
    let x_own : Bears s c.mux-own.new.pool (width_of which) 4 (λ env. choose (env.regs c.args.chosen) (out_of env (trees_of nodes (exec_ports first.ports)) (place_of which)) 0) c.mux-own.result =
    bears_mux (omega arith) (omega arith) (omega arith) (bears_on c.lit-zero.ensures.step x_bit)
    (bears_on (c.gather_units-others.ensures.step ▸ c.read_reg-bit.ensures.step ▸ c.lit-zero.ensures.step) x_out) x_zero
    c.mux-own.ensures.net c.mux-own.ensures.width c.mux-own.ensures.level c.mux-own.ensures.scope c.mux-own.ensures.value in
    let x_or = bears_two bit_or (omega arith) (omega arith) x_own (bears_on (c.read_reg-bit.ensures.step ▸ c.lit-zero.ensures.step ▸ c.mux-own.ensures.step) x_others)
    c.or.ensures.net c.or.ensures.width c.or.ensures.level c.or.ensures.scope c.or.ensures.value in
    subst (λ (xs : List ExecOffer). Bears s c.or.new.pool (width_of which) 4
    (λ env. gathered (map (λ (u : PipeUnit). (env.regs u.chosen, out_of env u.ports (place_of which))) (units_of nodes c.args.chosen xs))) c.or.result) (sym split) x_or
