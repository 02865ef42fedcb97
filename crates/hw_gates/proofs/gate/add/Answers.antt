use Rattle.std.proofs.Common.{rules}
use Rattle.hw_gates.proofs.Has.{in_scope, is_in}
use Rattle.hw_gates.proofs.Steps.{step_of}
use Rattle.hw_gates.proofs.gate.add.Goals as goal

pub returns-clause-scope : goal.returns-clause-scope
returns-clause-scope c s in_a in_b = search (rules, in_scope, is_in, c.add.ensures.scope)

pub returns-clause-step : goal.returns-clause-step
returns-clause-step c = search (rules, step_of)
