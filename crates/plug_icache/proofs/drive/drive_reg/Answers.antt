use Rattle.hw_gates.proofs.Has.{in_scope}
use Rattle.hw_module.specs.Scope.{scope_of}
use Rattle.plug_icache.proofs.Drives.{scope_same, width_same}
use Rattle.plug_icache.proofs.drive.drive_reg.Goals as goal

pub next-requires-clause-scope : goal.next-requires-clause-scope
next-requires-clause-scope c = in_scope (scope_of c.args.b.now.design) c.args.pool.now c.args.net c.requires.has c.requires.scope

pub returns-clause-drives : goal.returns-clause-drives
returns-clause-drives c =
    let n = c.next.ensures in
    record {
      entry = n.entry;
      wires = n.wires;
      arrays = n.arrays;
      outs = n.outs;
      count = n.count;
      room = n.room;
      makes = λ r. n.makes r c.requires.own;
      scope = scope_same c.args.b.now.design c.next.new.self.design n.wires n.arrays n.count (width_same c.args.b.now.design c.next.new.self.design c.args.reg c.args.net n.driven n.others);
    }
