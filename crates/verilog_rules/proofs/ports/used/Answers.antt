use Rattle.std.proofs.Common.{◌≡◌, [], subst, IfOk, IfErr}
use Rattle.verilog_mean.specs.Names.{port_names, Refusals}
use Rattle.verilog_rules.specs.First.{Refuses}
use Rattle.verilog_rules.proofs.PortForms.{used_same}
use Rattle.verilog_rules.proofs.ports.used.Goals as goal

pub returns-clause-sound : goal.returns-clause-sound
returns-clause-sound c = subst (λ (rs : Refusals). IfOk c.in_items.result (λ _. rs ≡ []))
    (used_same c.new-known.result c.learn_ports.new.known (port_names c.args.ports.now) c.args.items.now c.new-known.ensures c.in-Ok.ensures) c.in_items.ensures.sound

pub returns-clause-refused : goal.returns-clause-refused
returns-clause-refused c = subst (λ (rs : Refusals). IfErr c.in_items.result (λ r. Refuses r rs))
    (used_same c.new-known.result c.learn_ports.new.known (port_names c.args.ports.now) c.args.items.now c.new-known.ensures c.in-Ok.ensures) c.in_items.ensures.refused
