use Rattle.std.proofs.Common.{◌≡◌, ◌∙◌, ◌+◌, ◌<◌, ap, arith, sym, subst, refl, length, Some}
use Rattle.std.specs.Option.{IsSome}
use Rattle.service_ports.specs.Registry.{ports_in}
use Rattle.plug_build.specs.World.{world_of}
use Rattle.plug_kit.proofs.Found.{some_if, at_some}
use Rattle.plug_kit.proofs.Rows.{some_eq}
use Rattle.hw_module.specs.declared.rows.WireRow.{WireRow}
use Rattle.plug_hazard.proofs.Found.{first_is, found, row_a, row_b, there_ports}
use Rattle.plug_hazard.proofs.find.find.Goals as goal

pub unwrap-wire_a-requires : goal.unwrap-wire_a-requires
unwrap-wire_a-requires c =
    let e = c.args.b.now.entry in
    let w = world_of c.args.pool.now c.args.b.now c.args.reg.now in
    let begun = c.requires.begun in
    let row = row_a begun.0 begun.1 e w begun.2 in
    some_if _ _ _ c.first_wire.ensures (λ none. none begun.2.wire_a row.0 (ap (λ (r : WireRow). r.owner) row.1))

pub unwrap-regs-requires : goal.unwrap-regs-requires
unwrap-regs-requires c =
    let q = there_ports c.args.reg.now.regfile c.requires.there in
    subst IsSome (sym (c.regfile.ensures ∙ ap ports_in q.1)) refl

pub prove-unreachable-requires : goal.prove-unreachable-requires
prove-unreachable-requires c =
    let e = c.args.b.now.entry in
    let w = world_of c.args.pool.now c.args.b.now c.args.reg.now in
    let begun = c.requires.begun in
    let h = at_some _ _ _ _ c.first_wire.ensures c.unwrap-wire_a.ensures in
    let same = first_is begun.0 begun.1 e w begun.2 _ h.1 h.2 in
    let next = begun.2.next in
    let there = (row_b begun.0 begun.1 e w begun.2).0 in
    let rows : length c.wires-rows.result.now.items ≡ length c.args.b.now.design.wires = ap length c.wires-rows.ensures.rows in
    grind (arith, same, next, there, rows, c.len.ensures, c.if-prove.true)

pub returns-clause-same : goal.returns-clause-same
returns-clause-same c = λ takes bypassed begun.
    let h = at_some _ _ _ _ c.first_wire.ensures c.unwrap-wire_a.ensures in
    let same = first_is takes bypassed c.args.b.now.entry (world_of c.args.pool.now c.args.b.now c.args.reg.now) begun _ h.1 h.2 in
    (same, begun.next ∙ ap (λ k. k + 1) same)

pub returns-clause-found : goal.returns-clause-found
returns-clause-found c =
    let begun = c.requires.begun in
    let h = at_some _ _ _ _ c.first_wire.ensures c.unwrap-wire_a.ensures in
    let same = first_is begun.0 begun.1 c.args.b.now.entry (world_of c.args.pool.now c.args.b.now c.args.reg.now) begun.2 _ h.1 h.2 in
    let q = there_ports c.args.reg.now.regfile c.requires.there in
    let regs = some_eq (sym c.unwrap-regs.ensures ∙ c.regfile.ensures ∙ ap ports_in q.1) in
    found begun.0 begun.1 c.args.b.now.entry (world_of c.args.pool.now c.args.b.now c.args.reg.now) begun.2 c.requires.fits _ q.0 q.1
    (ap (λ r. r.a) regs) (ap (λ r. r.b) regs) same (begun.2.next ∙ ap (λ k. k + 1) same)
