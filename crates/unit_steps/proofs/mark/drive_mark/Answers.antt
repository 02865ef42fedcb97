use Rattle.std.proofs.Common.{ap}
use Rattle.hw_gates.proofs.Has.{in_scope}
use Rattle.hw_gates.proofs.Steps.{adds_of}
use Rattle.hw_module.specs.declared.rows.RegRow.{RegRow}
use Rattle.hw_module.specs.Scope.{scope_of}
use Rattle.hw_module.proofs.Drivers.{drivers_stay}
use Rattle.unit_steps.proofs.RegSteps.{scope_same, width_same}
use Rattle.unit_steps.proofs.mark.drive_mark.Goals as goal

pub next-requires-clause-scope : goal.next-requires-clause-scope
next-requires-clause-scope c =
    in_scope (scope_of c.args.b.now.design) c.mark_net-next.new.pool c.mark_net-next.result c.mark_net-next.ensures.net.0 c.mark_net-next.ensures.scope

pub returns-clause-drives : goal.returns-clause-drives
returns-clause-drives c =
    let n = c.next.ensures in
    record {
      entry = n.entry;
      wires = n.wires;
      arrays = n.arrays;
      outs = n.outs;
      count = n.count;
      room = n.room;
      makes = λ r. n.makes r (ap (λ (row : RegRow). row.owner) c.requires.mark.row);
      scope = scope_same c.args.b.now.design c.next.new.self.design n.wires n.arrays n.count (width_same c.args.b.now.design c.next.new.self.design c.args.mark c.mark_net-next.result n.driven n.others);
    }

pub returns-clause-drivers : goal.returns-clause-drivers
returns-clause-drivers c =
    c.next.ensures.drivers (drivers_stay c.args.b.now.design c.args.pool.now c.mark_net-next.new.pool 7 (adds_of _ _ 7 c.mark_net-next.ensures.step) c.requires.drivers)
