-- More numbers below n than n cannot all differ; what a list of different numbers below n holds.
use Rattle.std.proofs.Common.{inl, inr, ◌≡◌, ℕ, zero, suc, ◌+◌, ◌<◌, ◌≤◌, ◌⊎◌, List, [], ◌∷◌, ◌++◌, length, get_or, take, refl, sym, ◌∙◌, ap, subst, arith}
use Rattle.std.proofs.lemmas.Bool.{cases_lt, cases_eq, cases_order}
use Rattle.std.proofs.lemmas.List.{length-append, length-take, take-append-le, get_or-take}
use Rattle.std.proofs.Math.ListN.{get_or-append}
use Rattle.std.proofs.Math.Seq.{get_or-append_seam, take-append_seam}
use Rattle.std.specs.List.{Contains}
use Rattle.service_reg.specs.Search.{AreApart}

-- a value of f at i, or v where that is n
instead : (f : ℕ → ℕ) (n v i : ℕ) → (f i ≡ n) ⊎ (f i ≡ n → ⊥) → (m : ℕ) × (((f i ≡ n) × (m ≡ v)) ⊎ ((f i ≡ n → ⊥) × (m ≡ f i)))
instead f n v i (inl e) = (v, inl (e, refl))
instead f n v i (inr d) = (f i, inr (d, refl))

below_pick : (f : ℕ → ℕ) (n v i m : ℕ) → f i < suc n → (f i ≡ n → v < n) → ((f i ≡ n) × (m ≡ v)) ⊎ ((f i ≡ n → ⊥) × (m ≡ f i)) → m < n
below_pick f n v i m b w (inl p) = let q = p.1 in let u = w p.0 in omega (arith, q, u)
below_pick f n v i m b w (inr p) = let q = p.1 in let d = p.0 in omega (arith, q, d)

apart_pick : (f : ℕ → ℕ) (n v i j a b : ℕ) → (f i ≡ f j → i ≡ j) → (f i ≡ v → ⊥) → (f j ≡ v → ⊥) →
    ((f i ≡ n) × (a ≡ v)) ⊎ ((f i ≡ n → ⊥) × (a ≡ f i)) → ((f j ≡ n) × (b ≡ v)) ⊎ ((f j ≡ n → ⊥) × (b ≡ f j)) → a ≡ b → i ≡ j
apart_pick f n v i j a b one x y (inl p) (inl q) e = one (p.0 ∙ sym q.0)
apart_pick f n v i j a b one x y (inl p) (inr q) e = absurd (y (sym q.1 ∙ sym e ∙ p.1))
apart_pick f n v i j a b one x y (inr p) (inl q) e = absurd (x (sym p.1 ∙ e ∙ q.1))
apart_pick f n v i j a b one x y (inr p) (inr q) e = one (sym p.1 ∙ e ∙ q.1)

pub crowd : (n : ℕ) (f : ℕ → ℕ) → ((i : ℕ) → i < suc n → f i < n) → ((i j : ℕ) → i < suc n → j < suc n → f i ≡ f j → i ≡ j) → ⊥
crowd zero f below one = let h = below 0 (omega arith) in omega (arith, h)
crowd (suc n) f below one =
    let v : ℕ = f (suc n) in
    let g : (i : ℕ) → (m : ℕ) × (((f i ≡ n) × (m ≡ v)) ⊎ ((f i ≡ n → ⊥) × (m ≡ f i))) = λ i. instead f n v i (cases_eq (f i) n) in
    let last_below : (i : ℕ) → i < suc n → f i ≡ n → v < n = λ i l e. (
    let b : v < suc n = below (suc n) (omega arith) in
    let d : v ≡ n → ⊥ = λ h. (let q = one i (suc n) (omega (arith, l)) (omega arith) (e ∙ sym h) in omega (arith, q, l)) in
    omega (arith, b, d)) in
    crowd n (λ i. (g i).0)
    (λ i l. below_pick f n v i (g i).0 (below i (omega (arith, l))) (last_below i l) (g i).1)
    (λ i j l k e. apart_pick f n v i j (g i).0 (g j).0 (one i j (omega (arith, l)) (omega (arith, k)))
    (λ h. let q = one i (suc n) (omega (arith, l)) (omega arith) h in omega (arith, q, l))
    (λ h. let q = one j (suc n) (omega (arith, k)) (omega arith) h in omega (arith, q, k))
    (g i).1 (g j).1 e)

-- ---- lists of different numbers

-- within a list what stands for its end is not seen
get_or_any : (xs : List ℕ) (i d : ℕ) → i < length xs → get_or xs i d ≡ get_or xs i 0
get_or_any [] i d l = absurd (omega (arith, l))
get_or_any (x ∷ xs) zero d l = refl
get_or_any (x ∷ xs) (suc i) d l = get_or_any xs i d (omega (arith, l))

-- of two places the later does not repeat the earlier
never_again : (n : ℕ) (xs : List ℕ) → AreApart n xs → (i j : ℕ) → i < j → j < length xs → get_or xs i 0 ≡ get_or xs j 0 → ⊥
never_again n xs apart i j l b e =
    (apart j b).1 (i, simp length-take (omega (arith, l, b)), get_or-take j xs i (get_or xs j 0) l ∙ get_or_any xs i (get_or xs j 0) (omega (arith, l, b)) ∙ e)

pub differ : (n : ℕ) (xs : List ℕ) → AreApart n xs → (i j : ℕ) → i < length xs → j < length xs → get_or xs i 0 ≡ get_or xs j 0 → i ≡ j
differ n xs apart i j a b e = elim (cases_order i j) [
  | inl h ↦ h
  | inr h ↦ elim h [
    | inl l ↦ absurd (never_again n xs apart i j l b e)
    | inr l ↦ absurd (never_again n xs apart j i l a (sym e))
  ]
]

-- one number more keeps the numbers apart
pub apart_more : (n : ℕ) (xs : List ℕ) (x : ℕ) → AreApart n xs → x < n → (Contains xs x → ⊥) → AreApart n (xs ++ x ∷ [])
apart_more n xs x apart b new k l = elim (cases_lt k (length xs)) [
  | inl h ↦ let e : get_or (xs ++ x ∷ []) k 0 ≡ get_or xs k 0 = get_or-append xs (x ∷ []) 0 k h in
      let t : take k (xs ++ x ∷ []) ≡ take k xs = take-append-le k xs (x ∷ []) (omega (arith, h)) in
      rw (e, t) (apart k h)
  | inr h ↦ let q : k ≡ length xs = (let m = length-append xs (x ∷ []) in omega (arith, h, l, m)) in
      subst (λ (j : ℕ). (get_or (xs ++ x ∷ []) j 0 < n) × (Contains (take j (xs ++ x ∷ [])) (get_or (xs ++ x ∷ []) j 0) → ⊥)) (sym q)
      (rw (get_or-append_seam xs x [] 0, take-append_seam xs (x ∷ [])) (b, new))
]

-- they are no more than n
pub no_more : (n : ℕ) (xs : List ℕ) → AreApart n xs → n < length xs → ⊥
no_more n xs apart l =
    crowd n (λ i. get_or xs i 0) (λ i h. (apart i (omega (arith, l, h))).0)
    (λ i j h k e. differ n xs apart i j (omega (arith, l, h)) (omega (arith, l, k)) e)

-- where one more is to come, they are fewer
pub room : (n : ℕ) (xs : List ℕ) (x : ℕ) → AreApart n xs → x < n → (Contains xs x → ⊥) → length xs < n
room n xs x apart b new =
    let m : length (xs ++ x ∷ []) ≡ length xs + 1 = length-append xs (x ∷ []) in
    elim (cases_lt (length xs) n) [
      | inl h ↦ h
      | inr h ↦ absurd (no_more n (xs ++ x ∷ []) (apart_more n xs x apart b new) (omega (arith, m, h)))
    ]

-- where x is, of the numbers below n
abbrev place_of : (n : ℕ) (xs : List ℕ) → ((x : ℕ) → x < n → Contains xs x) → (x : ℕ) → (x < n) ⊎ (n ≤ x) → ℕ
place_of n xs all x (inl h) = (all x h).0
place_of n xs all x (inr h) = 0

place_within : (n : ℕ) (xs : List ℕ) (all : (x : ℕ) → x < n → Contains xs x) (x : ℕ) → x < n → (w : (x < n) ⊎ (n ≤ x)) → place_of n xs all x w < length xs
place_within n xs all x b (inl h) = (all x h).1
place_within n xs all x b (inr h) = absurd (omega (arith, b, h))

at_place : (xs : List ℕ) (x : ℕ) (c : Contains xs x) → get_or xs c.0 0 ≡ x
at_place xs x c = sym (get_or_any xs c.0 x c.1) ∙ c.2

place_one : (n : ℕ) (xs : List ℕ) (all : (x : ℕ) → x < n → Contains xs x) (x y : ℕ) → x < n → y < n → (v : (x < n) ⊎ (n ≤ x)) (w : (y < n) ⊎ (n ≤ y)) →
    place_of n xs all x v ≡ place_of n xs all y w → x ≡ y
place_one n xs all x y a b (inl h) (inl k) e = sym (at_place xs x (all x h)) ∙ ap (λ i. get_or xs i 0) e ∙ at_place xs y (all y k)
place_one n xs all x y a b (inr h) w e = absurd (omega (arith, a, h))
place_one n xs all x y a b (inl h) (inr k) e = absurd (omega (arith, b, k))

-- fewer than n cannot hold each number below n
too_few : (n : ℕ) (xs : List ℕ) → ((x : ℕ) → x < n → Contains xs x) → length xs < n → ⊥
too_few n xs all l =
    let place : ℕ → ℕ = λ x. place_of n xs all x (cases_lt x n) in
    crowd (length xs) place
    (λ x h. place_within n xs all x (omega (arith, h, l)) (cases_lt x n))
    (λ x y h k e. place_one n xs all x y (omega (arith, h, l)) (omega (arith, k, l)) (cases_lt x n) (cases_lt y n) e)

-- where each number below n is among them, they are n
pub all_there : (n : ℕ) (xs : List ℕ) → AreApart n xs → ((x : ℕ) → x < n → Contains xs x) → length xs ≡ n
all_there n xs apart all = elim (cases_lt (length xs) n) [
  | inl h ↦ absurd (too_few n xs all h)
  | inr h ↦ elim (cases_lt n (length xs)) [ inl k ↦ absurd (no_more n xs apart k) | inr k ↦ omega (arith, h, k) ]
]
