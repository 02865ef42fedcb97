use Rattle.hw_expr.proofs.signed.copies.Goals as goal

pub returns-clause-scope : goal.returns-clause-scope
returns-clause-scope c = λ s bit. c.mux.ensures.scope s (c.lit-zeros.ensures.kept s _ (c.lit-ones.ensures.kept s _ bit)) (c.lit-zeros.ensures.kept s _ (c.lit-ones.ensures.scope s)) (c.lit-zeros.ensures.scope s)
