use Rattle.std.proofs.Common.{◌≡◌, ◌∙◌, arith}
use Rattle.hw_gates.proofs.Has.{has_of, is_in, value_is}
use Rattle.hw_gates.proofs.Steps.{step_of}
use Rattle.hw_module.specs.Scope.{scope_of}
use Rattle.plug_kit.proofs.read.wire_net.Goals as goal

pub returns-clause-value : goal.returns-clause-value
returns-clause-value c = λ env. value_is env c.wire_net.new.pool c.wire_net.result ∙ c.wire_net.ensures.value env

pub returns-clause-net : goal.returns-clause-net
returns-clause-net c = has_of c.wire_net.new.pool c.wire_net.result c.wire_net.ensures.net

pub returns-clause-scope : goal.returns-clause-scope
returns-clause-scope c = is_in (scope_of c.args.b.now.design) c.wire_net.new.pool c.wire_net.result c.wire_net.ensures.scope

pub returns-clause-step : goal.returns-clause-step
returns-clause-step c = step_of c.args.pool.now c.wire_net.new.pool 1 c.wire_net.ensures.adds

pub returns-clause-input : goal.returns-clause-input
returns-clause-input c = λ shape input.
    (has_of c.wire_net.new.pool c.wire_net.result c.wire_net.ensures.net, c.wire_net.ensures.width ∙ input.width, (let e : c.wire_net.result.level ≡ shape.1 = c.wire_net.ensures.level ∙ input.level in omega arith))
