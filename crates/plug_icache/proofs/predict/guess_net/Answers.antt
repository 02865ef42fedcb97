use Rattle.std.proofs.Common.{◌∙◌, sym}
use Rattle.plug_icache.proofs.Asked.{answer_in, answer_is, answer_net, from_ports}
use Rattle.plug_icache.proofs.predict.guess_net.Goals as goal

pub returns-in-Some-clause-value : goal.returns-in-Some-clause-value
returns-in-Some-clause-value c = λ env.
    let o = from_ports c.args.reg.now.predict c.in-Some.q (sym c.predict.ensures ∙ c.in-Some.is) in
    answer_is c.args.b.now.design c.args.pool.now c.args.reg.now c.requires.offers o.0 c.in-Some.q o.1 env _

pub returns-in-Some-clause-net : goal.returns-in-Some-clause-net
returns-in-Some-clause-net c =
    let o = from_ports c.args.reg.now.predict c.in-Some.q (sym c.predict.ensures ∙ c.in-Some.is) in
    answer_net c.args.b.now.design c.args.pool.now c.args.reg.now c.requires.offers o.0 c.in-Some.q o.1

pub returns-in-Some-clause-scope : goal.returns-in-Some-clause-scope
returns-in-Some-clause-scope c =
    let o = from_ports c.args.reg.now.predict c.in-Some.q (sym c.predict.ensures ∙ c.in-Some.is) in
    answer_in c.args.b.now.design c.args.pool.now c.args.reg.now c.requires.offers o.0 c.in-Some.q o.1
