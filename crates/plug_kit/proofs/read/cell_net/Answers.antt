use Rattle.std.proofs.Common.{◌∙◌, ap, get_or, sym}
use Rattle.hw_gates.proofs.Has.{has_of, in_scope, is_in, value_is}
use Rattle.hw_gates.proofs.Steps.{step_of}
use Rattle.hw_module.specs.Scope.{scope_of}
use Rattle.plug_kit.proofs.read.cell_net.Goals as goal

pub read-requires-clause-addr : goal.read-requires-clause-addr
read-requires-clause-addr c = in_scope (scope_of c.args.b.now.design) c.args.pool.now c.args.addr c.requires.addr c.requires.scope

pub returns-clause-value : goal.returns-clause-value
returns-clause-value c = λ env. value_is env c.read.new.pool c.read.result ∙ c.read.ensures.value env ∙ ap (λ k. get_or (env.cells c.args.array) k 0) (sym (value_is env c.args.pool.now c.args.addr))

pub returns-clause-net : goal.returns-clause-net
returns-clause-net c = has_of c.read.new.pool c.read.result c.read.ensures.net

pub returns-clause-scope : goal.returns-clause-scope
returns-clause-scope c = is_in (scope_of c.args.b.now.design) c.read.new.pool c.read.result c.read.ensures.scope

pub returns-clause-step : goal.returns-clause-step
returns-clause-step c = step_of c.args.pool.now c.read.new.pool 1 c.read.ensures.adds
