use Rattle.std.proofs.Common.{rules}
use Rattle.hw_module.proofs.Drivers.{reg_grows, reg_made}
use Rattle.hw_module.proofs.module.Module.reg.Goals as goal

-- src/module.rt:131:5
pub returns-clause-drivers : goal.returns-clause-drivers
returns-clause-drivers c = λ pool h. reg_made c.args.self.now _ 1 pool (reg_grows c.args.self.now _ (search rules) (search rules) (search rules) (search rules) (search rules) (search rules) (search rules)) h (search rules) (search rules) (search rules) (search rules) (search rules) (search rules)

pub returns-clause-grows : goal.returns-clause-grows
returns-clause-grows c = reg_grows c.args.self.now _ (search rules) (search rules) (search rules) (search rules) (search rules) (search rules) (search rules)
