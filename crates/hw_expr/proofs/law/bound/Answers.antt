use Rattle.std.proofs.Common.{◌^◌, ◌<◌, subst}
use Rattle.hw_pool.specs.Trees.{tree_of}
use Rattle.hw_pool.proofs.Bounds.{value-fits}
use Rattle.hw_expr.specs.Nets.{net_value}
use Rattle.hw_expr.proofs.law.bound.Goals as goal

pub returns : goal.returns
unfolding net_value
returns c = λ env pool net is within.
    subst (λ w. net_value env pool net < 2 ^ w) is.width (value-fits env (tree_of pool.nodes net.id.0) is.fits within)
