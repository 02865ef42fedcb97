use Rattle.std.proofs.Common.{◌∙◌, refl}
use Rattle.hw_gates.proofs.Has.{in_scope}
use Rattle.hw_module.specs.Scope.{scope_of}
use Rattle.plug_dbus.proofs.Chain.{outs_then}
use Rattle.plug_dbus.proofs.command.give_command.Goals as goal

pub output-requires-clause-scope : goal.output-requires-clause-scope
output-requires-clause-scope c = in_scope (scope_of c.args.b.now.design) c.args.pool.now c.args.r.given c.requires.nets.given.0 c.requires.scope.given

pub output-requires-2-clause-scope : goal.output-requires-2-clause-scope
output-requires-2-clause-scope c =
    c.output.ensures.kept c.args.pool.now c.args.r.writes (in_scope (scope_of c.args.b.now.design) c.args.pool.now c.args.r.writes c.requires.nets.writes.0 c.requires.scope.writes)

pub output-requires-3-clause-scope : goal.output-requires-3-clause-scope
output-requires-3-clause-scope c =
    let r = c.args.r.address in
    let p = c.args.pool.now in
    c.output-2.ensures.kept p r (c.output.ensures.kept p r (in_scope (scope_of c.args.b.now.design) p r c.requires.nets.address.0 c.requires.scope.address))

pub output-requires-4-clause-scope : goal.output-requires-4-clause-scope
output-requires-4-clause-scope c =
    let r = c.args.r.payload in
    let p = c.args.pool.now in
    c.output-3.ensures.kept p r (c.output-2.ensures.kept p r (c.output.ensures.kept p r (in_scope (scope_of c.args.b.now.design) p r c.requires.nets.payload.0 c.requires.scope.payload)))

pub output-requires-5-clause-scope : goal.output-requires-5-clause-scope
output-requires-5-clause-scope c =
    let r = c.args.r.mask in
    let p = c.args.pool.now in
    c.output-4.ensures.kept p r
    (c.output-3.ensures.kept p r (c.output-2.ensures.kept p r (c.output.ensures.kept p r (in_scope (scope_of c.args.b.now.design) p r c.requires.nets.mask.0 c.requires.scope.mask))))

pub returns-clause-makes : goal.returns-clause-makes
returns-clause-makes c = λ r may.
    let e1 = c.output.ensures.entry in
    let e2 = c.output-2.ensures.entry ∙ e1 in
    let e3 = c.output-3.ensures.entry ∙ e2 in
    let e4 = c.output-4.ensures.entry ∙ e3 in
    outs_then 4 1 5 r c.args.b.now c.output-4.new.self c.output-5.new.self
    (outs_then 3 1 4 r c.args.b.now c.output-3.new.self c.output-4.new.self
    (outs_then 2 1 3 r c.args.b.now c.output-2.new.self c.output-3.new.self
    (outs_then 1 1 2 r c.args.b.now c.output.new.self c.output-2.new.self (c.output.ensures.makes r (may 8 refl)) e1 (c.output-2.ensures.makes r (may 10 refl)) refl)
    e2 (c.output-3.ensures.makes r (may 11 refl)) refl)
    e3 (c.output-4.ensures.makes r (may 12 refl)) refl)
    e4 (c.output-5.ensures.makes r (may 13 refl)) refl
