use Rattle.std.proofs.Common.{ap, sym, subst}
use Rattle.verilog_mean.specs.Erase.{plain}
use Rattle.verilog_resolve.specs.Names.{places}
use Rattle.verilog_resolve.specs.Wires.{AreOrdered, with_nets}
use Rattle.verilog_resolve.proofs.Driven.{binds_one}
use Rattle.verilog_resolve.proofs.Known.{known_fine, known_next}
use Rattle.verilog_resolve.proofs.wires.bind_driver.Goals as goal

pub bind_wire-requires-clause-fine : goal.bind_wire-requires-clause-fine
bind_wire-requires-clause-fine c = known_fine (places c.args.names.now) (plain c.args.driver.now.value.now) c.requires.fine

pub returns-clause-ordered : goal.returns-clause-ordered
returns-clause-ordered c = λ rest o.
    subst (λ k. AreOrdered k rest)
    (sym (known_next (places c.args.names.now) (places c.bind_wire.new.names) c.args.driver.now.name.now (plain c.args.driver.now.value.now) _ _
    c.in_ok-bind_wire.ensures.bound c.in_ok-bind_wire.ensures.width c.in_ok-bind_wire.ensures.others)) o.1

pub returns-clause-nets : goal.returns-clause-nets
returns-clause-nets c = λ rest.
    ap (λ k. with_nets k rest)
    (sym (known_next (places c.args.names.now) (places c.bind_wire.new.names) c.args.driver.now.name.now (plain c.args.driver.now.value.now) _ _
    c.in_ok-bind_wire.ensures.bound c.in_ok-bind_wire.ensures.width c.in_ok-bind_wire.ensures.others))

pub returns-clause-binds : goal.returns-clause-binds
returns-clause-binds c = λ drivers rest ns p b.
    binds_one drivers rest c.args.driver.now ns c.args.build.now.nodes.items c.bind_wire.new.build.nodes.items p (places c.args.names.now) (places c.bind_wire.new.names)
    b c.in_ok-bind_wire.ensures.means
