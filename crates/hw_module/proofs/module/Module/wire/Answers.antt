use Rattle.std.proofs.Common.{rules}
use Rattle.hw_module.proofs.Drivers.{wire_grows, wire_made}
use Rattle.hw_module.proofs.module.Module.wire.Goals as goal

-- src/module.rt:102:5
pub returns-clause-drivers : goal.returns-clause-drivers
returns-clause-drivers c = λ pool h. wire_made c.args.self.now _ 1 pool (wire_grows c.args.self.now _ (search rules) (search rules) (search rules) (search rules) (search rules) (search rules) (search rules)) h (search rules) (search rules) (search rules) (search rules) (search rules) (search rules)

pub returns-clause-grows : goal.returns-clause-grows
returns-clause-grows c = wire_grows c.args.self.now _ (search rules) (search rules) (search rules) (search rules) (search rules) (search rules) (search rules)
