use Rattle.hw_pool.proofs.Frames.{inner_then}
use Rattle.hw_expr.proofs.signed.sra_by.Goals as goal

pub returns-clause-inner : goal.returns-clause-inner
returns-clause-inner c =
    inner_then _ _ _ c.slice-low.ensures.inner
    (inner_then _ _ _ c.slice-sign.ensures.inner (inner_then _ _ _ c.copies-high.ensures.inner c.cat.ensures.inner))

pub returns-clause-scope : goal.returns-clause-scope
returns-clause-scope c = λ s a.
    let low3 = c.copies-high.ensures.kept s _ (c.slice-sign.ensures.kept s _ (c.slice-low.ensures.scope s a)) in
    c.cat.ensures.scope s (c.copies-high.ensures.scope s (c.slice-sign.ensures.scope s (c.slice-low.ensures.kept s _ a))) low3
