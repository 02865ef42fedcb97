use Rattle.std.proofs.Common.{rules}
use Rattle.hw_module.proofs.Drivers.{array_grows, array_made}
use Rattle.hw_module.proofs.module.Module.array.Goals as goal

-- src/module.rt:160:5
pub returns-clause-drivers : goal.returns-clause-drivers
returns-clause-drivers c = λ pool h. array_made c.args.self.now _ 1 pool (array_grows c.args.self.now _ (search rules) (search rules) (search rules) (search rules) (search rules) (search rules) (search rules)) h (search rules) (search rules) (search rules) (search rules) (search rules) (search rules)

pub returns-clause-grows : goal.returns-clause-grows
returns-clause-grows c = array_grows c.args.self.now _ (search rules) (search rules) (search rules) (search rules) (search rules) (search rules) (search rules)
