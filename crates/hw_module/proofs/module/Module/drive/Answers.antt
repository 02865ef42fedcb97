use Rattle.std.proofs.Common.{rules, ◌<◌, length}
use Rattle.std.proofs.Common.{ap}
use Rattle.hw_module.specs.Rows.{ModuleValue}
use Rattle.hw_module.proofs.Drivers.{drive_grows, wire_driven, wire_put}
use Rattle.hw_module.proofs.module.Module.drive.Goals as goal

-- src/drive.rt:16:5
pub returns-clause-drivers : goal.returns-clause-drivers
returns-clause-drivers c = λ h.
    let there : c.args.wire < length c.self.inside.wires.items = search rules in
    wire_driven c.args.self.now _ 1 c.args.pool.now (drive_grows c.args.self.now _ (search rules) c.args.wire c.args.net (search rules) (wire_put c.args.self.now.wires c.self.inside.wires.items c.args.wire c.args.net c.index_mut.result.now (ap (λ (m : ModuleValue). m.wires) c.self.view_is) there c.index_mut.ensures.value) (search rules) (search rules) (search rules) (search rules) (search rules)) h c.args.wire c.args.net (search rules) (search rules) (search rules) (search rules) (wire_put c.args.self.now.wires c.self.inside.wires.items c.args.wire c.args.net c.index_mut.result.now (ap (λ (m : ModuleValue). m.wires) c.self.view_is) there c.index_mut.ensures.value) (search rules) (search rules) (search rules) (search rules) (search rules)
