-- Inputs of two services, one list behind the other.
use Rattle.std.proofs.Common.{◌≡◌, ◌∙◌, ℕ, [], ◌∷◌, ◌++◌, List, Bool, true, false, eqb, ◌||◌, refl, ap}
use Rattle.plug_part.specs.Owned.{is_among}

either_of : (a b c : Bool) → (a || (b || c)) ≡ ((a || b) || c)
either_of true b c = refl
either_of false b c = refl

pub among_both : (k : ℕ) (ws vs : List ℕ) → is_among k (ws ++ vs) ≡ (is_among k ws || is_among k vs)
among_both k [] vs = refl
among_both k (w ∷ ws) vs = ap (λ b. eqb k w || b) (among_both k ws vs) ∙ either_of (eqb k w) (is_among k ws) (is_among k vs)
