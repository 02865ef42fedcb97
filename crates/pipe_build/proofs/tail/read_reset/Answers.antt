use Rattle.std.proofs.Common.{◌∙◌, arith, refl}
use Rattle.hw_module.specs.Ports.{port_at}
use Rattle.hw_gates.proofs.Has.{has_of, is_in, value_is}
use Rattle.hw_gates.proofs.Steps.{step_of}
use Rattle.hw_module.specs.Scope.{scope_of}
use Rattle.pipe_build.proofs.tail.read_reset.Goals as goal

pub input-requires-clause-there : goal.input-requires-clause-there
unfolding port_at
input-requires-clause-there c = record { least = omega arith; most = omega arith; input = refl }

pub returns-clause-bears : goal.returns-clause-bears
unfolding port_at
returns-clause-bears c = record {
  is = (has_of c.input.new.pool c.input.result c.input.ensures.net, c.input.ensures.width, omega (arith, c.input.ensures.level));
  takes = is_in (scope_of c.args.m.now) c.input.new.pool c.input.result c.input.ensures.scope;
  value_is = λ env. value_is env c.input.new.pool c.input.result ∙ c.input.ensures.value env;
}

pub returns-clause-step : goal.returns-clause-step
returns-clause-step c = step_of c.args.pool.now c.input.new.pool 1 c.input.ensures.adds
