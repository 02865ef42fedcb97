use Rattle.std.proofs.Common.{◌∙◌}
use Rattle.hw_gates.proofs.Has.{has_of, is_in, value_is}
use Rattle.hw_gates.proofs.Steps.{step_of}
use Rattle.hw_module.specs.Scope.{scope_of}
use Rattle.plug_kit.proofs.read.port_net.Goals as goal

pub returns-clause-value : goal.returns-clause-value
returns-clause-value c = λ env. value_is env c.input.new.pool c.input.result ∙ c.input.ensures.value env

pub returns-clause-net : goal.returns-clause-net
returns-clause-net c = has_of c.input.new.pool c.input.result c.input.ensures.net

pub returns-clause-scope : goal.returns-clause-scope
returns-clause-scope c = is_in (scope_of c.args.b.now.design) c.input.new.pool c.input.result c.input.ensures.scope

pub returns-clause-step : goal.returns-clause-step
returns-clause-step c = step_of c.args.pool.now c.input.new.pool 1 c.input.ensures.adds
