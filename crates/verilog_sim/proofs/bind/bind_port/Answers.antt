use Rattle.std.proofs.Common.{rules, ◌≡◌, true, false, sym, subst, ◌∷◌}
use Rattle.verilog_mean.specs.Erase.{plain_port, range_width}
use Rattle.verilog_resolve.specs.Names.{places}
use Rattle.verilog_sim.specs.Bindings.{BindsPorts}
use Rattle.verilog_sim.proofs.Bindings.{bind_in, bind_out}
use Rattle.verilog_sim.proofs.bind.bind_port.Goals as goal

pub returns-then-not-port-clause-binds : goal.returns-then-not-port-clause-binds
returns-then-not-port-clause-binds c = λ ports rest ns p b.
    let port = c.args.port.now in
    let e : port.input ≡ false = c.if-not-port.true in
    bind_out ports rest c.args.at (range_width port.range) port.name.text ns c.args.build.now.nodes.items p (places c.args.names.now)
    (subst (λ d. BindsPorts ports (plain_port d (range_width port.range) port.name.text ∷ rest) c.args.at ns c.args.build.now.nodes.items p (places c.args.names.now)) e b)

pub returns-clause-binds : goal.returns-clause-binds
returns-clause-binds c = λ ports rest ns p b.
    let port = c.args.port.now in
    let e : port.input ≡ true = c.if-not-port.false in
    let w : c.width_of-width.result ≡ range_width port.range = c.width_of-width.ensures in
    let x : c.deref.result.now ≡ port.name.text = search rules in
    let old = c.args.build.now.nodes.items in
    bind_in ports rest c.args.at c.width_of-width.result c.deref.result.now ns old c.bind_node.new.build.nodes.items p (places c.args.names.now) (places c.bind_node.new.names)
    c.in_ok-bind_node.ensures.values
    (subst (λ d. BindsPorts ports (plain_port d c.width_of-width.result c.deref.result.now ∷ rest) c.args.at ns old p (places c.args.names.now)) e
    (subst (λ v. BindsPorts ports (plain_port port.input v c.deref.result.now ∷ rest) c.args.at ns old p (places c.args.names.now)) (sym w)
    (subst (λ y. BindsPorts ports (plain_port port.input (range_width port.range) y ∷ rest) c.args.at ns old p (places c.args.names.now)) (sym x) b)))
