-- "Or" of numbers of which at most one is not 0.
use Rattle.std.proofs.Common.{◌≡◌, ◌∙◌, ◌≢◌, ℕ, zero, suc, ◌<◌, bit_or, refl, arith, ap, inl, inr}
use Rattle.std.specs.Int.Bits.{or_zero_r}
use Rattle.std.proofs.lemmas.Bool.{cases_eq}
use Rattle.hw_words.specs.Gather.{or_from}

pub or_none : (base : ℕ) (g : ℕ → ℕ) (n : ℕ) → ((k : ℕ) → k < n → g k ≡ 0) → or_from base g n ≡ base
unfolding or_from
or_none base g zero h = refl
or_none base g (suc n) h = ap (bit_or (or_from base g n)) (h n (omega arith)) ∙ or_zero_r (or_from base g n) ∙ or_none base g n (λ k l. h k (omega arith))

pub or_one : (g : ℕ → ℕ) (n j : ℕ) → j < n → ((k : ℕ) → k < n → k ≢ j → g k ≡ 0) → or_from 0 g n ≡ g j
unfolding or_from
or_one g zero j l h = absurd (omega arith)
or_one g (suc n) j l h = elim (cases_eq n j) [
  | inl e ↦ ap (λ (m : ℕ). bit_or m (g n)) (or_none 0 g n (λ k m. h k (omega arith) (omega arith))) ∙ ap g e
  | inr ne ↦ ap (bit_or (or_from 0 g n)) (h n (omega arith) ne) ∙ or_zero_r (or_from 0 g n) ∙ or_one g n j (omega arith) (λ k m. h k (omega arith))
]
