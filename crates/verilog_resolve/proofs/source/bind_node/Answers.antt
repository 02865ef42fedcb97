use Rattle.std.proofs.Common.{rules}
use Rattle.verilog_resolve.specs.Names.{places}
use Rattle.verilog_resolve.proofs.OwnNode.{source_means, known_net}
use Rattle.verilog_resolve.proofs.source.bind_node.Goals as goal

pub returns-clause-values : goal.returns-clause-values
returns-clause-values c = λ regs cells ins w arrays val wide value bound m.
    source_means regs cells ins w arrays val (places c.args.names.now) (places c.bind.new.self) c.args.build.now.nodes.items c.push.new.self.nodes.items
    c.args.node c.args.name.now c.in_ok-at.at c.args.width c.in_ok-at.ensures.pushed (search rules)
    c.in_ok-bind.ensures.bound c.in_ok-bind.ensures.others c.requires.narrow wide value bound m

pub returns-clause-known : goal.returns-clause-known
returns-clause-known c =
    known_net (places c.args.names.now) (places c.bind.new.self) c.args.name.now c.in_ok-at.at c.args.width c.in_ok-bind.ensures.bound c.in_ok-bind.ensures.others
