use Rattle.std.proofs.Common.{arith}
use Rattle.hw_expr.proofs.Scopes.{takes_at}
use Rattle.hw_expr.proofs.single.add.Goals as goal

pub returns-clause-scope : goal.returns-clause-scope
returns-clause-scope c = λ s a b. c.put.ensures.scope s (takes_at s _ _ _ a (omega arith), takes_at s _ _ _ b (omega arith))
