use Rattle.std.proofs.Common.{arith}
use Rattle.std.proofs.lemmas.Grind.{common_steps}
use Rattle.hw_module.proofs.Scopes.{leaf_scope}
use Rattle.hw_module.proofs.module.Module.wire_net.Goals as goal

pub returns-clause-scope : goal.returns-clause-scope
returns-clause-scope c = leaf_scope c.args.self.now _ _ _ c.put.ensures.net c.put.ensures.tree (record { there = c.requires.there; width = grind (arith, common_steps); level = grind (arith, common_steps) })
