use Rattle.hw_expr.proofs.choice.+hot.Given as goal

abbrev pub decreases-hot : goal.decreases-hot
decreases-hot l = l.n
