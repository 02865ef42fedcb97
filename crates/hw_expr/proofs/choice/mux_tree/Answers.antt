use Rattle.std.proofs.Common.{◌∙◌, ap}
use Rattle.std.proofs.Math.Nat.{mod-eq_of_lt}
use Rattle.hw_expr.specs.Nets.{net_value}
use Rattle.hw_expr.specs.Lists.{net_at}
use Rattle.hw_expr.proofs.choice.mux_tree.Goals as goal

pub returns-clause-value : goal.returns-clause-value
returns-clause-value c = λ env below.
    c.select.ensures.value env ∙ ap (λ k. net_value env c.args.pool.now (net_at c.args.list.now k)) (mod-eq_of_lt below)
