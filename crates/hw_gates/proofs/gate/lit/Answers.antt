use Rattle.std.proofs.Common.{rules}
use Rattle.hw_gates.proofs.Has.{is_in}
use Rattle.hw_gates.proofs.Steps.{step_of}
use Rattle.hw_gates.proofs.gate.lit.Goals as goal

pub returns-clause-scope : goal.returns-clause-scope
returns-clause-scope c s = search (rules, is_in, c.lit.ensures.scope)

pub returns-clause-step : goal.returns-clause-step
returns-clause-step c = search (rules, step_of)
