use Rattle.std.proofs.Common.{◌≡◌, ◌∙◌, ℕ, get_or, arith, sym, ap}
use Rattle.hw_pool.specs.Meaning.{Env}
use Rattle.hw_pool.proofs.Frames.{adds_then}
use Rattle.hw_gates.specs.Places.{IsIn}
use Rattle.hw_gates.proofs.Has.{has_of, is_in, in_scope, value_is}
use Rattle.hw_gates.proofs.Steps.{adds_of}
use Rattle.hw_module.specs.Scope.{scope_of}
use Rattle.plug_regfile.specs.Machine.{shown_of}
use Rattle.plug_regfile.proofs.circuit.read_cell.Goals as goal

pub shown-requires-clause-number : goal.shown-requires-clause-number
shown-requires-clause-number c =
    let i = c.requires.input in (
      has_of _ _ (c.read-cell.ensures.nets c.wire_net-number.result c.wire_net-number.ensures.net),
      c.wire_net-number.ensures.width ∙ i.width,
      (let e : c.wire_net-number.result.level ≡ 2 = c.wire_net-number.ensures.level ∙ i.level in omega arith),
    )

pub shown-requires-clause-cell : goal.shown-requires-clause-cell
shown-requires-clause-cell c =
    let i = c.requires.input in (
      has_of _ _ c.read-cell.ensures.net,
      c.read-cell.ensures.width ∙ c.requires.width,
      (let e : c.read-cell.result.level ≡ 2 = c.read-cell.ensures.level ∙ (c.wire_net-number.ensures.level ∙ i.level) in omega arith),
    )

pub returns-clause-net : goal.returns-clause-net
returns-clause-net c =
    let d = c.args.b.now.design in
    let pool = c.read-cell.new.pool in
    let n = c.wire_net-number.result in
    let number = λ (env : Env). value_is env pool n ∙ (c.read-cell.ensures.values env n c.wire_net-number.ensures.net ∙ c.wire_net-number.ensures.value env) in
    let cell = λ (env : Env). value_is env pool c.read-cell.result ∙ (c.read-cell.ensures.value env ∙ ap (λ (x : ℕ). get_or (env.cells c.args.array) x 0) (c.wire_net-number.ensures.value env)) in
    let scope : IsIn (scope_of d) c.shown.new.pool c.shown.result =
    c.shown.ensures.scope (scope_of d) (is_in _ _ _ (c.read-cell.ensures.kept (scope_of d) n c.wire_net-number.ensures.scope)) (is_in _ _ _ c.read-cell.ensures.scope) in
    record {
      scope = in_scope (scope_of d) c.shown.new.pool c.shown.result c.shown.ensures.net.0 scope;
      wide = c.shown.ensures.net.1;
      level = c.shown.ensures.net.2;
      value_is = λ env bounded. sym (value_is env c.shown.new.pool c.shown.result) ∙ (c.shown.ensures.value env ∙ (λ i. shown_of (number env i) (cell env i)));
    }

pub returns-clause-adds : goal.returns-clause-adds
returns-clause-adds c =
    adds_then _ _ _ 1 5 6 c.wire_net-number.ensures.adds (adds_then _ _ _ 1 4 5 c.read-cell.ensures.adds (adds_of _ _ 4 c.shown.ensures.step) (omega arith)) (omega arith)
