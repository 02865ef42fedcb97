-- Fields of a word whose bits under a mask are known.
use Rattle.std.proofs.Common.{◌≡◌, ◌∙◌, ℕ, ◌+◌, ◌-◌, ◌/◌, ◌%◌, ◌^◌, ◌<◌, true, eqb, bit_and, arith, ap, sym}
use Rattle.std.proofs.Math.Nat.{mod-eq_of_lt}
use Rattle.std.proofs.lemmas.Bool.Decides.{nat_tests}
use Rattle.std.proofs.lemmas.Nat.{and_shr, and_mod, and_mask, pow_pos}
use Rattle.core_words.specs.Values.{bits_of}

below : (n k : ℕ) → n % 2 ^ k < 2 ^ k
below n k = let p : 0 < 2 ^ k = pow_pos k in omega arith

-- a field that the mask covers is the value's
pub field_met : (w m v high low : ℕ) → bit_and w m ≡ v → bits_of m high low ≡ 2 ^ (high + 1 - low) - 1 → bits_of w high low ≡ bits_of v high low
field_met w m v high low h covered =
    let k = high + 1 - low in
    let x = w / 2 ^ low % 2 ^ k in
    sym (ap (λ (n : ℕ). n / 2 ^ low % 2 ^ k) (sym h)
    ∙ ap (λ (n : ℕ). n % 2 ^ k) (and_shr w m low)
    ∙ and_mod (w / 2 ^ low) (m / 2 ^ low) k
    ∙ ap (bit_and x) covered
    ∙ and_mask x k
    ∙ mod-eq_of_lt (below (w / 2 ^ low) k))

pub same_of : (a b : ℕ) → eqb a b ≡ true → a ≡ b
same_of a b h = grind (arith, nat_tests)
