-- Cases of two numbers; ranks that stay.
use Rattle.std.proofs.Common.{◌≡◌, ℕ, suc, ◌<◌, ◌≤◌, ◌⊎◌, inl, inr, Bool, true, false, eqb, List, get_or, set, refl, ap, arith, get_or-set_other}
use Rattle.std.proofs.lemmas.Bool.{eqb-false, eqb-true}

pub same : (x d : ℕ) → (x ≡ d) ⊎ (x ≡ d → ⊥)
same x d = by (eqb x d) refl
  where
    by : (b : Bool) → eqb x d ≡ b → (x ≡ d) ⊎ (x ≡ d → ⊥)
    by true h = inl (eqb-true x d h)
    by false h = inr (eqb-false x d h)

pub at_end : (k n : ℕ) → k < suc n → (k < n) ⊎ (k ≡ n)
at_end k n h = elim (same k n) [ inl e ↦ inr e | inr e ↦ inl (omega arith) ]

-- a rank that changes leaves those of the nodes in the order
pub keeps : (ranks : List ℕ) (d v y : ℕ) → get_or ranks d 0 < 2 → 2 ≤ get_or ranks y 0 → get_or (set ranks d v) y 0 ≡ get_or ranks y 0
keeps ranks d v y h k = get_or-set_other ranks d y v 0 (λ e. let q : get_or ranks y 0 ≡ get_or ranks d 0 = ap (λ n. get_or ranks n 0) e in omega arith)
