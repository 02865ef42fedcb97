-- The boxes of entries.
use Rattle.std.proofs.Common.{◌<◌, ℕ, List, [], ◌∷◌, length, arith}
use Rattle.plug_api.specs.Picks.{IsPick, IsUnknown}

-- a kind of which there is a box is known
pub pick_is_known : {B : Type 0} (kind : B → List ℕ) (boxes : List B) (name : List ℕ) (pick : ℕ)
    → IsPick kind boxes name pick → IsUnknown kind boxes (length boxes) name → ⊥
pick_is_known kind [] name pick p u = let h : pick < 0 = p.there in omega (arith, h)
pick_is_known kind (b ∷ bs) name pick p u = u.none b pick p.there (p.named b)
