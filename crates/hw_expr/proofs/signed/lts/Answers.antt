use Rattle.std.proofs.Common.{◌≡◌, ◌∙◌, ℕ, ◌-◌, eqb, ltb, ap}
use Rattle.core_words.specs.Values.{one_if, bits_of}
use Rattle.hw_pool.proofs.Frames.{inner_then}
use Rattle.hw_expr.specs.Nets.{net_value}
use Rattle.hw_expr.specs.Signed.{sign_of}
use Rattle.hw_expr.proofs.Values.{lts_from}
use Rattle.hw_expr.proofs.signed.lts.Goals as goal

pub returns-clause-value : goal.returns-clause-value
returns-clause-value c env =
    let a = c.args.a in
    let b = c.args.b in
    let x = net_value env c.args.pool.now a in
    let y = net_value env c.args.pool.now b in
    let w = a.width in
    let sign = c.slice-sign.result in
    let same = c.eq-same.result in
    let a1 = c.slice-sign.ensures.nets a c.requires.a in
    let b1 = c.slice-sign.ensures.nets b c.requires.b in
    let a2 = c.slice-other.ensures.nets a a1 in
    let b2 = c.slice-other.ensures.nets b b1 in
    let sign1 = c.slice-sign.ensures.net in
    let sign2 = c.slice-other.ensures.nets sign sign1 in
    let sign3 = c.eq-same.ensures.nets sign sign2 in
    let a_is : net_value env c.eq-same.new.pool a ≡ x =
    c.eq-same.ensures.values env a a2 ∙ c.slice-other.ensures.values env a a1 ∙ c.slice-sign.ensures.values env a c.requires.a in
    let b_is : net_value env c.eq-same.new.pool b ≡ y =
    c.eq-same.ensures.values env b b2 ∙ c.slice-other.ensures.values env b b1 ∙ c.slice-sign.ensures.values env b c.requires.b in
    let sign_is : net_value env c.slice-other.new.pool sign ≡ sign_of w x = c.slice-other.ensures.values env sign sign1 ∙ c.slice-sign.ensures.value env in
    let other_is : net_value env c.slice-other.new.pool c.slice-other.result ≡ sign_of w y =
    c.slice-other.ensures.value env ∙ ap (λ (v : ℕ). bits_of v (w - 1) (w - 1)) (c.slice-sign.ensures.values env b c.requires.b) in
    c.mux.ensures.value env
    ∙ lts_from w x y _ _ _ (c.ltu-lower.ensures.values env sign sign3 ∙ c.eq-same.ensures.values env sign sign2 ∙ sign_is)
    (c.ltu-lower.ensures.values env same c.eq-same.ensures.net ∙ c.eq-same.ensures.value env ∙ (λ i. one_if (eqb (sign_is i) (other_is i))))
    (c.ltu-lower.ensures.value env ∙ (λ i. one_if (ltb (a_is i) (b_is i))))

pub returns-clause-inner : goal.returns-clause-inner
returns-clause-inner c =
    inner_then _ _ _ c.slice-sign.ensures.inner
    (inner_then _ _ _ c.slice-other.ensures.inner (inner_then _ _ _ c.eq-same.ensures.inner (inner_then _ _ _ c.ltu-lower.ensures.inner c.mux.ensures.inner)))

pub returns-clause-scope : goal.returns-clause-scope
returns-clause-scope c = λ s a b.
    let a1 = c.slice-sign.ensures.kept s _ a in
    let b1 = c.slice-sign.ensures.kept s _ b in
    let a3 = c.eq-same.ensures.kept s _ (c.slice-other.ensures.kept s _ a1) in
    let b3 = c.eq-same.ensures.kept s _ (c.slice-other.ensures.kept s _ b1) in
    let sign2 = c.slice-other.ensures.kept s _ (c.slice-sign.ensures.scope s a) in
    let sign4 = c.ltu-lower.ensures.kept s _ (c.eq-same.ensures.kept s _ sign2) in
    let same4 = c.ltu-lower.ensures.kept s _ (c.eq-same.ensures.scope s sign2 (c.slice-other.ensures.scope s b1)) in
    c.mux.ensures.scope s same4 (c.ltu-lower.ensures.scope s a3 b3) sign4
