-- Facts on truth values and on times.
use Rattle.std.proofs.Common.{◌≡◌, ℕ, zero, suc, ltb, ◌<◌, ◌≤◌, Bool, true, false, cond, not, eqb, ◌&&◌, ◌||◌, ◌⊎◌, inl, inr, refl, ap, ◌∙◌, sym, arith}
use Rattle.std.proofs.lemmas.Bool.Decides.{nat_tests}
use Rattle.core_words.specs.Values.{one_if}
use Rattle.plug_law.specs.Past.{last}

pub and_l : (a b : Bool) → (a && b) ≡ true → a ≡ true
and_l true b h = refl
and_l false b h = h

pub and_r : (a b : Bool) → (a && b) ≡ true → b ≡ true
and_r true b h = h
and_r false b h = absurd (grind arith)

pub not_true : (b : Bool) → not b ≡ true → b ≡ false
not_true true h = absurd (grind arith)
not_true false h = refl

pub not_false : (b : Bool) → not b ≡ false → b ≡ true
not_false true h = refl
not_false false h = absurd (grind arith)

pub or_l : (a b : Bool) → (a || b) ≡ false → a ≡ false
or_l true b h = h
or_l false b h = refl

pub or_r : (a b : Bool) → (a || b) ≡ false → b ≡ false
or_r true b h = absurd (grind arith)
or_r false b h = h

pub both : {A : Type 0} (b : Bool) → b ≡ true → b ≡ false → A
both b h k = absurd (let e : true ≡ false = sym h ∙ k in grind arith)

pub same : (a b : ℕ) → eqb a b ≡ true → a ≡ b
same a b h = grind (arith, nat_tests)

pub eqb_refl : (a : ℕ) → eqb a a ≡ true
eqb_refl a = grind (arith, nat_tests)

pub back : (b : Bool) → eqb (one_if b) 1 ≡ b
back true = refl
back false = refl

pub ltb_no : (a b : ℕ) → ltb a b ≡ false → b ≤ a
ltb_no a b e = grind (arith, nat_tests)

pub ltb_off : (a b : ℕ) → b ≤ a → ltb a b ≡ false
ltb_off a b h = grind (arith, nat_tests)

pub or_yes : (a b : Bool) → (a || b) ≡ true → (a ≡ true) ⊎ (b ≡ true)
or_yes true b h = inl refl
or_yes false b h = inr h

-- what happened last before the next cycle happened by this one
pub last_le : (p : ℕ → Bool) (t : ℕ) → last p (suc t) ≤ t
unfolding last
last_le p t = by (p t) (before t)
  where
    before : (t : ℕ) → last p t ≤ t
    before zero = omega arith
    before (suc t) = go (p t) (before t)
      where
        go : (c : Bool) → last p t ≤ t → cond c t (last p t) ≤ suc t
        go true h = omega arith
        go false h = omega arith

    by : (c : Bool) → last p t ≤ t → cond c t (last p t) ≤ t
    by true h = omega arith
    by false h = h
