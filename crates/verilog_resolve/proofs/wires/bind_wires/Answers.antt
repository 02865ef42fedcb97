use Rattle.std.proofs.Common.{◌≡◌, ◌-◌, ◌∷◌, length, take, drop, ap, sym, ◌∙◌, subst}
use Rattle.verilog_resolve.specs.Names.{places}
use Rattle.verilog_resolve.specs.Wires.{AreOrdered, Binds, known, with_nets}
use Rattle.verilog_resolve.proofs.Split.{split_first}
use Rattle.verilog_resolve.proofs.wires.bind_wires.Goals as goal

pub bind_driver-requires-clause-fine : goal.bind_driver-requires-clause-fine
bind_driver-requires-clause-fine c =
    (subst (AreOrdered (known c.loop-rest.names)) (split_first c.loop-rest.rest.now c.driver-item.result c.in-len1-up.len_at_least c.driver-item.is) c.loop-rest.invariant.0).0

pub loop-rest-preserved : goal.loop-rest-preserved
loop-rest-preserved c =
    let rest = c.loop-rest.rest.now in
    let d = c.driver-item.result in
    let more = take (length rest - 1) (drop 1 rest) in
    let s : rest ≡ d ∷ more = split_first rest d c.in-len1-up.len_at_least c.driver-item.is in
    let e = c.in_ok-bind_driver.ensures in
    let i = c.loop-rest.invariant in (
      e.ordered more (subst (AreOrdered (known c.loop-rest.names)) s i.0),
      e.scope,
      (e.same.0 ∙ i.2.0, e.same.1 ∙ i.2.1, e.same.2 ∙ i.2.2),
      sym (e.nets more) ∙ ap (with_nets (known c.loop-rest.names)) (sym s) ∙ i.3,
      e.binds c.args.drivers.now more c.args.build.now.nodes.items (places c.args.names.now)
          (subst (λ z. Binds c.args.drivers.now z c.args.build.now.nodes.items c.loop-rest.build.nodes.items (places c.args.names.now) (places c.loop-rest.names)) s i.4),
    )

pub returns-clause-values : goal.returns-clause-values
returns-clause-values c = λ m rank r d s ins regs cells inputs a. (c.loop-rest.invariant.4 m rank r d s ins regs cells inputs a).1
