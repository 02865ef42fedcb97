use Rattle.std.proofs.Common.{◌≡◌, ◌∙◌, ◌<◌, ◌≤◌, ◌+◌, ◌-◌, ◌*◌, ◌/◌, ◌^◌, ℕ, zero, suc, ap, arith}
use Rattle.std.proofs.Math.Nat.{div-eq_of_lt-le}
use Rattle.std.proofs.lemmas.Nat.{pow-add, pow_pos}
use Rattle.core_words.proofs.fields.mask_of.Goals as goal

-- the number just below a product
before_product-div : (p q : ℕ) → 0 < p → 0 < q → (p * q - 1) / q ≡ p - 1
before_product-div (zero) q h k = absurd (omega (arith, h))
before_product-div (suc p) q h k = div-eq_of_lt-le {k = p} q (omega arith) (omega arith) ∙ omega arith

pub returns : goal.returns
returns c =
    let w = c.args.width in
    let most : w ≤ 64 = c.requires.most in
    let sum : 64 ≡ w + (64 - w) = omega arith in
    let split : 2 ^ 64 ≡ 2 ^ w * 2 ^ (64 - w) = ap (λ k. 2 ^ k) sum ∙ pow-add 2 w (64 - w) in
    ap (λ n. (n - 1) / 2 ^ (64 - w)) split ∙ before_product-div (2 ^ w) (2 ^ (64 - w)) (pow_pos w) (pow_pos (64 - w))
