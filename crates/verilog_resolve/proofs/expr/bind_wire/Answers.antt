use Rattle.std.proofs.Common.{vec_len}
use Rattle.verilog_mean.specs.Erase.{plain}
use Rattle.verilog_resolve.specs.declared.names.Place.TheVariants.{Net}
use Rattle.verilog_resolve.specs.Names.{places}
use Rattle.verilog_resolve.proofs.Bound.{bind_means, bind_in}
use Rattle.verilog_resolve.proofs.expr.bind_wire.Goals as goal

pub returns-clause-means : goal.returns-clause-means
returns-clause-means c = λ regs cells ins w arrays val width value m.
    bind_means regs cells ins w arrays val (places c.args.names.now) (places c.bind.new.self) c.args.build.now.nodes.items c.args.name.now (plain c.args.driver.now) _
    (c.in_ok-found.ensures.means regs cells ins w arrays val m) width value c.in_ok-bind.ensures.bound c.in_ok-bind.ensures.others m

pub returns-clause-scope : goal.returns-clause-scope
returns-clause-scope c =
    bind_in (vec_len c.flatten.new.build.nodes) c.flatten.new.build.cells (places c.args.names.now) (places c.bind.new.self) c.args.name.now (Net c.in_ok-found.found.at c.in_ok-found.found.width)
    c.in_ok-bind.ensures.bound c.in_ok-found.ensures.within c.in_ok-bind.ensures.others c.in_ok-found.ensures.scope
