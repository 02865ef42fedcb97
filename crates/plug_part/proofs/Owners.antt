-- The owner of a row is the owner at the place of its claim.
use Rattle.std.proofs.Common.{◌≡◌, ◌∙◌, ℕ, zero, suc, Bool, true, false, cond, eqb, List, [], ◌∷◌, drop, get_or, refl, ap, arith}
use Rattle.std.proofs.lemmas.Bool.{eq-eqb, eqb-true}
use Rattle.plug_part.specs.Terms.{no_claim, owner_among, RowsDiffer, OwnersAreTold}

-- the owners behind the first
next_owner : (owners : List ℕ) (k : ℕ) → get_or (drop 1 owners) k 0 ≡ get_or owners (suc k) 0
next_owner [] k = refl
next_owner (x ∷ xs) k = refl

pub owners_are_told : OwnersAreTold
owners_are_told [] owners differ k l = absurd (omega arith)
owners_are_told (c ∷ rest) owners differ zero l = ap (λ b. cond b (get_or owners 0 0) (owner_among rest (drop 1 owners) c.row)) (eq-eqb c.row c.row refl)
owners_are_told (c ∷ rest) owners differ (suc k) l = by (owners_are_told rest (drop 1 owners) later k (omega arith)) (eqb c.row (get_or rest k no_claim).row) refl
  where
    later : RowsDiffer rest
    later i j m n e = let same : suc i ≡ suc j = differ (suc i) (suc j) (omega arith) (omega arith) e in omega arith

    by : owner_among rest (drop 1 owners) (get_or rest k no_claim).row ≡ get_or (drop 1 owners) k 0 → (b : Bool) → eqb c.row (get_or rest k no_claim).row ≡ b
        → cond b (get_or owners 0 0) (owner_among rest (drop 1 owners) (get_or rest k no_claim).row) ≡ get_or owners (suc k) 0
    by told true e = absurd (let none : 0 ≡ suc k = differ 0 (suc k) (omega arith) l (eqb-true c.row (get_or rest k no_claim).row e) in omega arith)
    by told false e = told ∙ next_owner owners k
