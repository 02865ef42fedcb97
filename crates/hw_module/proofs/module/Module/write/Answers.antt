use Rattle.std.proofs.Common.{rules, ◌<◌, length}
use Rattle.std.proofs.Common.{ap}
use Rattle.hw_module.specs.Rows.{ModuleValue}
use Rattle.hw_module.proofs.Drivers.{write_grows, array_driven, array_put}
use Rattle.hw_module.proofs.module.Module.write.Goals as goal

-- src/drive.rt:66:5
pub returns-clause-drivers : goal.returns-clause-drivers
returns-clause-drivers c = λ h.
    let there : c.args.array < length c.self.inside.arrays.items = search rules in
    array_driven c.args.self.now _ 1 c.args.pool.now (write_grows c.args.self.now _ (search rules) c.args.array (record { enable = c.args.enable; addr = c.args.addr; value = c.args.value }) (search rules) (array_put c.args.self.now.arrays c.self.inside.arrays.items c.args.array (record { enable = c.args.enable; addr = c.args.addr; value = c.args.value }) c.index_mut.result.now (ap (λ (m : ModuleValue). m.arrays) c.self.view_is) there c.index_mut.ensures.value) (search rules) (search rules) (search rules) (search rules) (search rules)) h c.args.array (record { enable = c.args.enable; addr = c.args.addr; value = c.args.value }) (search rules) (search rules) (search rules) (search rules) (search rules) (search rules) (search rules) (array_put c.args.self.now.arrays c.self.inside.arrays.items c.args.array (record { enable = c.args.enable; addr = c.args.addr; value = c.args.value }) c.index_mut.result.now (ap (λ (m : ModuleValue). m.arrays) c.self.view_is) there c.index_mut.ensures.value) (search rules) (search rules) (search rules) (search rules) (search rules)
