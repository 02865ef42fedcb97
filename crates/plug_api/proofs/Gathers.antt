-- What is gathered of the specs of entries.
use Rattle.std.proofs.Common.{◌≡◌, ℕ, zero, suc, ◌+◌, ◌*◌, ◌<◌, ◌≤◌, ◌++◌, List, [], ◌∷◌, length, get_or, map, arith, ap, refl, length-append}
use Rattle.service_reg.specs.Services.{use_at}
use Rattle.plug_api.specs.declared.spec.PlugSpec.{PlugSpec}
use Rattle.plug_api.specs.Spec.{IsSpec, no_spec}
use Rattle.plug_api.specs.Rules.{owned_by, claims_from}
use Rattle.plug_api.specs.Accept.{use_of, uses_of}

pub length_map : {A B : Type 0} (f : A → B) (xs : List A) → length (map f xs) ≡ length xs
length_map f [] = refl
length_map f (x ∷ xs) = ap suc (length_map f xs)

pub uses_at : (specs : List PlugSpec) (i : ℕ) → i < length specs → use_at (uses_of specs) i ≡ use_of (get_or specs i no_spec)
uses_at [] i h = absurd (omega (arith, h))
uses_at (s ∷ ss) zero h = refl
uses_at (s ∷ ss) (suc i) h = uses_at ss i (omega (arith, h))

-- no more than 64 claims an entry
pub few_claims : (n : ℕ) (specs : List PlugSpec) → ((i : ℕ) → i < length specs → IsSpec (get_or specs i no_spec)) → length (claims_from n specs) ≤ 64 * length specs
few_claims n [] fit = omega arith
few_claims n (s ∷ ss) fit =
    let rest : length (claims_from (suc n) ss) ≤ 64 * length ss = few_claims (suc n) ss (λ i h. fit (suc i) (omega arith)) in
    let front : length s.rows ≤ 64 = (fit 0 (omega arith)).few_rows in
    let all : length (map (owned_by n) s.rows ++ claims_from (suc n) ss) ≡ length (map (owned_by n) s.rows) + length (claims_from (suc n) ss) = length-append _ _ in
    let same : length (map (owned_by n) s.rows) ≡ length s.rows = length_map _ _ in
    omega (arith, all, same, rest, front)
