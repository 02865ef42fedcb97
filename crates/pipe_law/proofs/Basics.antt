-- Facts on tests.
use Rattle.std.proofs.Common.{◌≡◌, ℕ, Bool, true, false, cond, not, eqb, ◌&&◌, ◌||◌, ◌⊎◌, inl, inr, refl, ap, ◌∙◌, sym, arith}
use Rattle.std.proofs.lemmas.Bool.Decides.{nat_tests}

pub and_l : (a b : Bool) → (a && b) ≡ true → a ≡ true
and_l true b h = refl
and_l false b h = h

pub and_r : (a b : Bool) → (a && b) ≡ true → b ≡ true
and_r true b h = h
and_r false b h = absurd (grind arith)

pub not_true : (b : Bool) → not b ≡ true → b ≡ false
not_true true h = absurd (grind arith)
not_true false h = refl

pub not_false : (b : Bool) → not b ≡ false → b ≡ true
not_false true h = refl
not_false false h = absurd (grind arith)

pub or_l : (a b : Bool) → (a || b) ≡ false → a ≡ false
or_l true b h = h
or_l false b h = refl

pub or_r : (a b : Bool) → (a || b) ≡ false → b ≡ false
or_r true b h = absurd (grind arith)
or_r false b h = h

pub or_no : (a b : Bool) → a ≡ false → b ≡ false → (a || b) ≡ false
or_no true b h k = h
or_no false b h k = k

pub or_yes : (a b : Bool) → (a || b) ≡ true → (a ≡ true) ⊎ (b ≡ true)
or_yes true b h = inl refl
or_yes false b h = inr h

pub or_true : (a b : Bool) → b ≡ true → (a || b) ≡ true
or_true true b h = refl
or_true false b h = h

pub and_yes : (a b : Bool) → a ≡ true → b ≡ true → (a && b) ≡ true
and_yes true b h k = k
and_yes false b h k = h

pub and_no_l : (a b : Bool) → a ≡ false → (a && b) ≡ false
and_no_l true b h = absurd (grind arith)
and_no_l false b h = refl

pub and_no_r : (a b : Bool) → b ≡ false → (a && b) ≡ false
and_no_r true b h = h
and_no_r false b h = refl

pub both : {A : Type 0} (b : Bool) → b ≡ true → b ≡ false → A
both b h k = absurd (let e : true ≡ false = sym h ∙ k in grind arith)

pub cond_true : {A : Type 0} (b : Bool) (x y : A) → b ≡ true → cond b x y ≡ x
cond_true b x y h = ap (λ z. cond z x y) h

pub cond_false : {A : Type 0} (b : Bool) (x y : A) → b ≡ false → cond b x y ≡ y
cond_false b x y h = ap (λ z. cond z x y) h

pub same : (a b : ℕ) → eqb a b ≡ true → a ≡ b
same a b h = grind (arith, nat_tests)

pub eqb_refl : (a : ℕ) → eqb a a ≡ true
eqb_refl a = grind (arith, nat_tests)

pub eqb_swap : (a b : ℕ) → eqb a b ≡ eqb b a
eqb_swap a b = grind (arith, nat_tests)

pub unequal_is : (a b : ℕ) → not (eqb a b) ≡ false → a ≡ b
unequal_is a b h = same a b (not_false (eqb a b) h)
