use Rattle.std.proofs.Common.{◌∙◌, arith}
use Rattle.hw_gates.proofs.Has.{has_of, is_in, value_is}
use Rattle.hw_gates.proofs.Steps.{step_of}
use Rattle.hw_module.specs.Scope.{scope_of}
use Rattle.pipe_build.proofs.read.read_wire.Goals as goal

pub returns-clause-bears : goal.returns-clause-bears
returns-clause-bears c = record {
  is = (has_of c.wire_net.new.pool c.wire_net.result c.wire_net.ensures.net, c.wire_net.ensures.width, omega (arith, c.wire_net.ensures.level));
  takes = is_in (scope_of c.args.m.now) c.wire_net.new.pool c.wire_net.result c.wire_net.ensures.scope;
  value_is = λ env. value_is env c.wire_net.new.pool c.wire_net.result ∙ c.wire_net.ensures.value env;
}

pub returns-clause-step : goal.returns-clause-step
returns-clause-step c = step_of c.args.pool.now c.wire_net.new.pool 1 c.wire_net.ensures.adds
