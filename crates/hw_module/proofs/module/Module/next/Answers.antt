use Rattle.std.proofs.Common.{rules, ◌<◌, length}
use Rattle.std.proofs.Common.{ap}
use Rattle.hw_module.specs.Rows.{ModuleValue}
use Rattle.hw_module.proofs.Drivers.{next_grows, reg_driven, reg_put}
use Rattle.hw_module.proofs.module.Module.next.Goals as goal

-- src/drive.rt:41:5
pub returns-clause-drivers : goal.returns-clause-drivers
returns-clause-drivers c = λ h.
    let there : c.args.reg < length c.self.inside.regs.items = search rules in
    reg_driven c.args.self.now _ 1 c.args.pool.now (next_grows c.args.self.now _ (search rules) c.args.reg c.args.net (search rules) (reg_put c.args.self.now.regs c.self.inside.regs.items c.args.reg c.args.net c.index_mut.result.now (ap (λ (m : ModuleValue). m.regs) c.self.view_is) there c.index_mut.ensures.value) (search rules) (search rules) (search rules) (search rules) (search rules)) h c.args.reg c.args.net (search rules) (search rules) (search rules) (reg_put c.args.self.now.regs c.self.inside.regs.items c.args.reg c.args.net c.index_mut.result.now (ap (λ (m : ModuleValue). m.regs) c.self.view_is) there c.index_mut.ensures.value) (search rules) (search rules) (search rules) (search rules) (search rules)
