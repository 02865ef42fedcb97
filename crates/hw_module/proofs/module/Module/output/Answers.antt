use Rattle.std.proofs.Common.{rules}
use Rattle.hw_module.proofs.Drivers.{output_grows, port_driven}
use Rattle.hw_module.proofs.Ranges.{output_is}
use Rattle.hw_module.proofs.module.Module.output.Goals as goal

-- src/drive.rt:98:5
pub returns-clause-drivers : goal.returns-clause-drivers
returns-clause-drivers c = λ h. port_driven c.args.self.now _ 1 c.args.pool.now (output_grows c.args.self.now _ (search rules) c.args.port c.args.net (search rules) (search rules) (search rules) (search rules) (search rules) (search rules) (search rules)) h c.args.port c.args.net (search rules) (search rules) (search rules) (search rules) (search rules) (search rules) (search rules) (search rules)

pub invariant_of-self : goal.invariant_of-self
invariant_of-self c =
    let is = c.self.invariant in
    (output_is _ _ c.args.port c.args.net c.requires.output is.0, search rules, search rules, search rules, search rules, search rules, search rules)

pub returns-clause-grows : goal.returns-clause-grows
returns-clause-grows c = output_grows c.args.self.now _ (search rules) c.args.port c.args.net (search rules) (search rules) (search rules) (search rules) (search rules) (search rules) (search rules)
