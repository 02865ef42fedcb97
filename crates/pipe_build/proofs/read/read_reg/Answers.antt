use Rattle.std.proofs.Common.{◌∙◌, arith}
use Rattle.hw_gates.proofs.Has.{has_of, is_in, value_is}
use Rattle.hw_gates.proofs.Steps.{step_of}
use Rattle.hw_module.specs.Scope.{scope_of}
use Rattle.pipe_build.proofs.read.read_reg.Goals as goal

pub returns-clause-bears : goal.returns-clause-bears
returns-clause-bears c = record {
  is = (has_of c.reg_net.new.pool c.reg_net.result c.reg_net.ensures.net, c.reg_net.ensures.width, omega (arith, c.reg_net.ensures.level));
  takes = is_in (scope_of c.args.m.now) c.reg_net.new.pool c.reg_net.result c.reg_net.ensures.scope;
  value_is = λ env. value_is env c.reg_net.new.pool c.reg_net.result ∙ c.reg_net.ensures.value env;
}

pub returns-clause-step : goal.returns-clause-step
returns-clause-step c = step_of c.args.pool.now c.reg_net.new.pool 1 c.reg_net.ensures.adds
