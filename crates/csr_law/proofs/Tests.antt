-- Facts on tests.
use Rattle.std.proofs.Common.{◌≡◌, ◌∙◌, ℕ, Bool, true, false, not, eqb, ◌&&◌, ◌||◌, refl, sym, arith}
use Rattle.std.proofs.lemmas.Bool.Decides.{nat_tests}

pub and_l : (a b : Bool) → (a && b) ≡ true → a ≡ true
and_l true b h = refl
and_l false b h = h

pub and_r : (a b : Bool) → (a && b) ≡ true → b ≡ true
and_r true b h = h
and_r false b h = absurd (grind arith)

pub not_true : (b : Bool) → not b ≡ true → b ≡ false
not_true true h = absurd (grind arith)
not_true false h = refl

pub or_l : (a b : Bool) → (a || b) ≡ false → a ≡ false
or_l true b h = h
or_l false b h = refl

pub or_r : (a b : Bool) → (a || b) ≡ false → b ≡ false
or_r true b h = absurd (grind arith)
or_r false b h = h

pub and_no_l : (a b : Bool) → a ≡ false → (a && b) ≡ false
and_no_l true b h = absurd (grind arith)
and_no_l false b h = refl

pub both : {A : Type 0} (b : Bool) → b ≡ true → b ≡ false → A
both b h k = absurd (let e : true ≡ false = sym h ∙ k in grind arith)

pub same : (a b : ℕ) → eqb a b ≡ true → a ≡ b
same a b h = grind (arith, nat_tests)
