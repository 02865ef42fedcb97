use Rattle.std.proofs.Common.{◌≡◌, ◌∙◌, ◌*◌, ◌%◌, ◌^◌, ◌≤◌, ap, arith}
use Rattle.std.proofs.Math.Pow.{pow_mono}
use Rattle.core_words.specs.Values.{bits_of}
use Rattle.hw_expr.specs.Nets.{net_value}
use Rattle.hw_expr.specs.Lists.{hot_of}
use Rattle.hw_expr.proofs.Values.{hot-bit}
use Rattle.hw_expr.proofs.choice.one_hot.Goals as goal

pub hot-requires-clause-most : goal.hot-requires-clause-most
hot-requires-clause-most c = let most : 2 ^ c.args.a.width ≤ 2 ^ 6 = pow_mono c.requires.narrow in omega arith

pub returns-clause-bits : goal.returns-clause-bits
returns-clause-bits c = λ env k h.
    let w = c.args.a.width in
    let v = net_value env c.args.pool.now c.args.a in
    let most : 2 ^ w ≤ 2 ^ 6 = pow_mono c.requires.narrow in
    let size : 1 * 2 ^ w % 4294967296 ≡ 2 ^ w = omega arith in
    ap (λ x. bits_of x k k) (c.hot.ensures.value env ∙ ap (λ n. hot_of n v) size) ∙ hot-bit (2 ^ w) v k h
