use Rattle.std.proofs.Common.{◌≡◌, ◌∙◌, ◌+◌, ◌-◌, ap, arith, eqb}
use Rattle.core_words.specs.Values.{join_of, one_if}
use Rattle.hw_expr.specs.Nets.{net_value}
use Rattle.hw_expr.specs.Lists.{hot_of}
use Rattle.hw_expr.proofs.Values.{hot-first, hot-more}
use Rattle.hw_expr.proofs.choice.+hot.Goals as goal

pub returns-then-n-eq1-clause-value : goal.returns-then-n-eq1-clause-value
returns-then-n-eq1-clause-value t c = λ env.
    let n = c.args.n in
    let first : 1 ≡ n = omega arith in
    let a = c.lit-number.ensures.values env _ c.requires.a in
    let number = c.lit-number.ensures.value env ∙ c.from.ensures in
    c.eq-bit.ensures.value env ∙ (λ i. one_if (eqb (a i) (number i))) ∙ hot-first n (net_value env c.args.pool.now c.args.a) first

pub returns-clause-value : goal.returns-clause-value
returns-clause-value t c = λ env.
    let n = c.args.n in
    let v = net_value env c.args.pool.now c.args.a in
    let last : n - 1 + 1 ≡ n = omega arith in
    let wide : c.hot-low.result.width ≡ n - 1 = c.hot-low.ensures.width in
    let a0 = c.requires.a in
    let a1 = c.lit-number.ensures.nets _ a0 in
    let one = c.lit-number.ensures.values env _ a0 in
    let two = c.eq-bit.ensures.values env _ a1 ∙ one in
    let number = c.lit-number.ensures.value env ∙ c.from.ensures in
    let bit = c.hot-low.ensures.values env _ c.eq-bit.ensures.net ∙ c.eq-bit.ensures.value env ∙ (λ i. one_if (eqb (one i) (number i))) in
    let low = c.hot-low.ensures.value env ∙ ap (hot_of (n - 1)) two in
    c.cat.ensures.value env ∙ (λ i. join_of (wide i) (bit i) (low i)) ∙ hot-more (n - 1) v ∙ ap (λ m. hot_of m v) last

pub returns-clause-scope : goal.returns-clause-scope
returns-clause-scope t c = λ s a.
    let a1 = c.lit-number.ensures.kept s _ a in
    let bit3 = c.hot-low.ensures.kept s _ (c.eq-bit.ensures.scope s a1 (c.lit-number.ensures.scope s)) in
    c.cat.ensures.scope s bit3 (c.hot-low.ensures.scope s (c.eq-bit.ensures.kept s _ a1))

pub returns-then-n-eq1-clause-scope : goal.returns-then-n-eq1-clause-scope
returns-then-n-eq1-clause-scope t c = λ s a. c.eq-bit.ensures.scope s (c.lit-number.ensures.kept s _ a) (c.lit-number.ensures.scope s)
