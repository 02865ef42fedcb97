use Rattle.hw_expr.proofs.choice.+select.Given as goal

abbrev pub decreases-select : goal.decreases-select
decreases-select l = l.bits
