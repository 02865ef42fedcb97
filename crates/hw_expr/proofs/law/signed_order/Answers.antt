use Rattle.hw_expr.proofs.Orders.{signed-order}
use Rattle.hw_expr.proofs.law.signed_order.Goals as goal

pub returns : goal.returns
returns c = signed-order
