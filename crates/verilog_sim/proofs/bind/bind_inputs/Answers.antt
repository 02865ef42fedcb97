use Rattle.std.proofs.Common.{◌≡◌, ◌-◌, [], ◌∷◌, length, take, drop, ap, sym, ◌∙◌, subst, arith}
use Rattle.verilog_mean.specs.Erase.{plain_port, plain_ports, range_width}
use Rattle.verilog_resolve.specs.Names.{places}
use Rattle.verilog_resolve.specs.Wires.{known}
use Rattle.verilog_resolve.proofs.Split.{split_first}
use Rattle.verilog_sim.specs.Layouts.{input_names}
use Rattle.verilog_sim.specs.Bindings.{AreNarrowPorts, BindsPorts, with_ports}
use Rattle.verilog_sim.proofs.Bindings.{nothing, more_inputs}
use Rattle.verilog_sim.proofs.bind.bind_inputs.Goals as goal

pub loop-rest-preserved : goal.loop-rest-preserved
loop-rest-preserved c =
    let rest = c.loop-rest.rest.now in
    let port = c.port-item.result in
    let more = take (length rest - 1) (drop 1 rest) in
    let s : rest ≡ port ∷ more = split_first rest port c.in-len1-up.len_at_least c.port-item.is in
    let e = c.in_ok-at.ensures in
    let i = c.loop-rest.invariant in
    let ports = plain_ports c.args.ports.now in
    let ns = c.args.build.now.nodes.items in
    let p = places c.args.names.now in
    let a = e.at in
    let n = ap (λ z. length (input_names (plain_ports z))) s ∙ more_inputs (plain_port port.input (range_width port.range) port.name.text) (plain_ports more) in
    let t = i.1 in (
      (subst (λ z. AreNarrowPorts (plain_ports z)) s i.0).1,
      omega (arith, a, n, t),
      e.scope,
      (e.same.0 ∙ i.3.0, e.same.1 ∙ i.3.1, e.same.2 ∙ i.3.2),
      ap (λ k. with_ports k (plain_ports more)) e.known ∙ ap (λ z. with_ports (known c.loop-rest.names) (plain_ports z)) (sym s) ∙ i.4,
      e.binds ports (plain_ports more) ns p
          (subst (λ z. BindsPorts ports (plain_ports z) c.loop-rest.at ns c.loop-rest.build.nodes.items p (places c.loop-rest.names)) s i.5),
    )

pub returns-clause-binds : goal.returns-clause-binds
returns-clause-binds c =
    let ports = plain_ports c.args.ports.now in
    let ns = c.args.build.now.nodes.items in
    let p = places c.args.names.now in
    let i = c.loop-rest.invariant in
    let z = nothing c.loop-rest.rest.now c.in_default.len_below in
    let t = i.1 in
    let n = ap (λ z. length (input_names (plain_ports z))) z in
    let a : c.loop-rest.at ≡ length (input_names ports) = omega (arith, t, n) in
    subst (λ k. BindsPorts ports [] k ns c.loop-rest.build.nodes.items p (places c.loop-rest.names)) a
    (subst (λ z. BindsPorts ports (plain_ports z) c.loop-rest.at ns c.loop-rest.build.nodes.items p (places c.loop-rest.names)) z i.5)
