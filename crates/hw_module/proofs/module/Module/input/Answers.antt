use Rattle.std.proofs.Common.{rules}
use Rattle.hw_module.proofs.Scopes.{leaf_scope}
use Rattle.hw_module.proofs.module.Module.input.Goals as goal

pub returns-clause-scope : goal.returns-clause-scope
returns-clause-scope c = leaf_scope c.args.self.now _ _ _ c.put.ensures.net c.put.ensures.tree (search rules)
