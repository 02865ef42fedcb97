-- Lists of names, spread over the things of a module.
use Rattle.std.proofs.Common.{◌≡◌, ℕ, zero, suc, ◌+◌, ◌<◌, ◌≤◌, Bool, true, false, eqb, ◌||◌, List, [], ◌∷◌, Option, Some, None, refl, ap, sym, subst, ◌∙◌, arith}
use Rattle.std.proofs.lemmas.Bool.Decides.{nat_tests}
use Rattle.std.proofs.lemmas.Cmp.{nat_list_eq_equiv}
use Rattle.core_words.specs.Names.{same_name}
use Rattle.verilog_mean.specs.Look.{put}
use Rattle.verilog_mean.specs.Names.{is_among}
use Rattle.module_netlist.specs.Lines.{spread}

abbrev pub Names : Type 0
Names = List (List ℕ)

abbrev pub IsIn : Names → List ℕ → Type 0
IsIn names x = is_among x names ≡ true

abbrev pub NotIn : Names → List ℕ → Type 0
NotIn names x = is_among x names ≡ false

or_right : (a b : Bool) → b ≡ true → (a || b) ≡ true
or_right true b h = refl
or_right false b h = h

pub in_first : (x : List ℕ) (names : Names) → IsIn (x ∷ names) x
in_first x names = ap (λ b. b || is_among x names) (nat_list_eq_equiv.refl x)

pub in_later : (y x : List ℕ) (names : Names) → IsIn names x → IsIn (y ∷ names) x
in_later y x names h = or_right (same_name y x) (is_among x names) h

pub not_first : (y x : List ℕ) (names : Names) → same_name y x ≡ false → NotIn names x → NotIn (y ∷ names) x
not_first y x names e h = λ i. e i || h i

-- ---- the names that things of a list give

abbrev pub given_name : {A : Type 0} → (A → Option (List ℕ)) → Option A → Option (List ℕ)
given_name g None = None
given_name g (Some a) = g a

abbrev pub named_by : {A : Type 0} → (A → Option (List ℕ)) → List A → Names
named_by g [] = []
named_by g (a ∷ rest) = put (g a) (named_by g rest)

module _ {A : Type 0} (g : A → Option (List ℕ)) where
  named_put : (o : Option A) (rest : List A) → named_by g (put o rest) ≡ put (given_name g o) (named_by g rest)
  named_put None rest = refl
  named_put (Some a) rest = refl

  -- the names that things of a spread list give are spread
  pub named_spread : (f : ℕ → Option A) (rest : List A) (n k : ℕ) → named_by g (spread f k n rest) ≡ spread (λ i. given_name g (f i)) k n (named_by g rest)
  named_spread f rest zero k = refl
  named_spread f rest (suc n) k = named_put (f k) (spread f (suc k) n rest) ∙ ap (put (given_name g (f k))) (named_spread f rest n (suc k))

-- ---- a name is among them

put_here : (o : Option (List ℕ)) (names : Names) (x : List ℕ) → o ≡ Some x → IsIn (put o names) x
put_here None names x e = absurd (cc)
put_here (Some y) names x e = let q : y ≡ x = cc in subst (λ z. IsIn (z ∷ names) x) (sym q) (in_first x names)

put_later : (o : Option (List ℕ)) (names : Names) (x : List ℕ) → IsIn names x → IsIn (put o names) x
put_later None names x h = h
put_later (Some y) names x h = in_later y x names h

module _ (f : ℕ → Option (List ℕ)) (rest : Names) (x : List ℕ) where
  pub in_rest : (n k : ℕ) → IsIn rest x → IsIn (spread f k n rest) x
  in_rest zero k h = h
  in_rest (suc n) k h = put_later (f k) (spread f (suc k) n rest) x (in_rest n (suc k) h)

  in_case : (k i : ℕ) (names : Names) → f i ≡ Some x → (b : Bool) → eqb k i ≡ b → (eqb k i ≡ false → IsIn names x) → IsIn (put (f k) names) x
  in_case k i names e true t h = let p : k ≡ i = grind (arith, nat_tests) in put_here (f k) names x (ap f p ∙ e)
  in_case k i names e false t h = put_later (f k) names x (h t)

  in_from : (n k i : ℕ) → k ≤ i → i < k + n → f i ≡ Some x → IsIn (spread f k n rest) x
  in_from zero k i low high e = absurd (omega arith)
  in_from (suc n) k i low high e =
      in_case k i (spread f (suc k) n rest) e (eqb k i) refl (λ t. in_from n (suc k) i (let q : k ≡ i → ⊥ = λ p. absurd (grind (arith, nat_tests)) in grind (arith, nat_tests)) (omega arith) e)

  pub in_spread : (n i : ℕ) → i < n → f i ≡ Some x → IsIn (spread f 0 n rest) x
  in_spread n i h e = in_from n 0 i (omega arith) (omega arith) e

-- ---- no name stands twice

abbrev pub Fresh : (seen names : Names) → Type 0
Fresh seen [] = Unit {0}
Fresh seen (x ∷ xs) = NotIn seen x × Fresh (x ∷ seen) xs

abbrev pub PutFresh : (seen : Names) → Option (List ℕ) → Type 0
PutFresh seen None = Unit {0}
PutFresh seen (Some x) = NotIn seen x

abbrev pub onto : Option (List ℕ) → Names → Names
onto None seen = seen
onto (Some x) seen = x ∷ seen

put_fresh : (o : Option (List ℕ)) (seen rest : Names) → PutFresh seen o → Fresh (onto o seen) rest → Fresh seen (put o rest)
put_fresh None seen rest h r = r
put_fresh (Some x) seen rest h r = (h, r)

pub fresh_spread : (f : ℕ → Option (List ℕ)) (Q : ℕ → Names → Type 0) (rest : Names) (n k : ℕ)
    → ((i : ℕ) → k ≤ i → i < k + n → (seen : Names) → Q i seen → PutFresh seen (f i) × Q (suc i) (onto (f i) seen))
    → ((i : ℕ) → i ≡ k + n → (seen : Names) → Q i seen → Fresh seen rest) → (seen : Names) → Q k seen → Fresh seen (spread f k n rest)
fresh_spread f Q rest zero k step last seen q = last k (omega arith) seen q
fresh_spread f Q rest (suc n) k step last seen q =
    let s = step k (omega arith) (omega arith) seen q in
    put_fresh (f k) seen (spread f (suc k) n rest) s.0
    (fresh_spread f Q rest n (suc k) (λ i a b. step i (omega arith) (omega arith)) (λ i e. last i (omega arith)) (onto (f k) seen) s.1)

-- ---- names that are given, one by one

-- an option has this name, where it has one
abbrev pub MayBe : List ℕ → Option (List ℕ) → Type 0
MayBe x None = Unit {0}
MayBe x (Some y) = x ≡ y

pub step : (Q : Names → Type 0) (seen : Names) (x : List ℕ) (o : Option (List ℕ)) → MayBe x o → NotIn seen x → Q (x ∷ seen) → Q seen → PutFresh seen o × Q (onto o seen)
step Q seen x None e h more_so without = (tt, without)
step Q seen x (Some y) e h more_so without = (subst (λ z. NotIn seen z) e h, subst (λ z. Q (z ∷ seen)) e more_so)

module _ {A : Type 0} (g : A → Option (List ℕ)) (f : ℕ → Option A) (rest : List A) where
  pub fresh_named : (Q : ℕ → Names → Type 0) (n : ℕ)
      → ((i : ℕ) → i < n → (seen : Names) → Q i seen → PutFresh seen (given_name g (f i)) × Q (suc i) (onto (given_name g (f i)) seen))
      → ((seen : Names) → Q n seen → Fresh seen (named_by g rest)) → (seen : Names) → Q 0 seen → Fresh seen (named_by g (spread f 0 n rest))
  fresh_named Q n each last seen q =
      subst (λ names. Fresh seen names) (sym (named_spread g f rest n 0))
      (fresh_spread (λ i. given_name g (f i)) Q (named_by g rest) n 0 (λ i l h. each i (omega arith))
      (λ i e s q. last s (subst (λ z. Q z s) (let p : i ≡ n = omega arith in p) q)) seen q)

  -- nothing of a spread list gives a name
  named_skip_from : (n k : ℕ) → ((i : ℕ) → given_name g (f i) ≡ None) → named_by g (spread f k n rest) ≡ named_by g rest
  named_skip_from zero k h = refl
  named_skip_from (suc n) k h = named_put g (f k) (spread f (suc k) n rest) ∙ ap (λ o. put o (named_by g (spread f (suc k) n rest))) (h k) ∙ named_skip_from n (suc k) h

  pub named_skip : (n : ℕ) → ((i : ℕ) → given_name g (f i) ≡ None) → named_by g (spread f 0 n rest) ≡ named_by g rest
  named_skip n h = named_skip_from n 0 h

  pub named_rest : (n : ℕ) (x : List ℕ) → IsIn (named_by g rest) x → IsIn (named_by g (spread f 0 n rest)) x
  named_rest n x h = subst (λ names. IsIn names x) (sym (named_spread g f rest n 0)) (in_rest (λ i. given_name g (f i)) (named_by g rest) x n 0 h)

  pub named_here : (n i : ℕ) (x : List ℕ) → i < n → given_name g (f i) ≡ Some x → IsIn (named_by g (spread f 0 n rest)) x
  named_here n i x h e = subst (λ names. IsIn names x) (sym (named_spread g f rest n 0)) (in_spread (λ i. given_name g (f i)) (named_by g rest) x n i h e)
