-- Where no entry stands on itself, some entry that is left may come: else a walk from entry to entry would not end.
use Rattle.std.proofs.Common.{inl, inr, ◌≡◌, ℕ, zero, suc, ◌<◌, ◌⊎◌, List, [], ◌∷◌, length, sym, subst, arith}
use Rattle.std.proofs.lemmas.Bool.{cases_lt, cases_eq, cases_order}
use Rattle.std.specs.List.{Contains}
use Rattle.service_reg.specs.declared.service.ServiceUse.{ServiceUse}
use Rattle.service_reg.specs.Services.{StandsOn, LeadsTo, NoLoopBelow}
use Rattle.service_reg.specs.Services.LeadsTo.{direct, further}
use Rattle.service_reg.specs.Search.{AllBlocked}
use Rattle.service_reg.proofs.Crowds.{crowd}

-- an entry that is left
abbrev Left : (specs : List ServiceUse) (placed : List ℕ) → Type 0
Left specs placed = (x : ℕ) × ((x < length specs) × (Contains placed x → ⊥))

pub leads_from : (specs : List ServiceUse) (x y : ℕ) → LeadsTo specs x y → x < length specs
leads_from specs x y (direct e) = e.entry
leads_from specs x z (further {y = y} l e) = leads_from specs x y l

no_loop : (specs : List ServiceUse) → NoLoopBelow specs (length specs) → (x : ℕ) → LeadsTo specs x x → ⊥
no_loop specs none x l = none x (leads_from specs x x l) l

module _ (specs : List ServiceUse) (placed : List ℕ) (blocked : AllBlocked specs placed (length specs)) (none : NoLoopBelow specs (length specs)) (start : Left specs placed) where
  abbrev after : Left specs placed → Left specs placed
  after p = ((blocked p.0 p.1.0 p.1.1).0, ((blocked p.0 p.1.0 p.1.1).1.0.other, (blocked p.0 p.1.0 p.1.1).1.1))

  abbrev walk : ℕ → Left specs placed
  walk zero = start
  walk (suc k) = after (walk k)

  step : (k : ℕ) → StandsOn specs (walk k).0 (walk (suc k)).0
  step k = (blocked (walk k).0 (walk k).1.0 (walk k).1.1).1.0

  leads : (i j : ℕ) → i < j → LeadsTo specs (walk i).0 (walk j).0
  leads i zero l = absurd (omega (arith, l))
  leads i (suc j) l = elim (cases_lt i j) [
    | inl h ↦ further (leads i j h) (step j)
    | inr h ↦ let e : j ≡ i = omega (arith, l, h) in subst (λ (k : ℕ). LeadsTo specs (walk k).0 (walk (suc j)).0) e (direct (step j))
  ]

  never : (i j : ℕ) → i < j → (walk i).0 ≡ (walk j).0 → ⊥
  never i j l e = no_loop specs none (walk j).0 (subst (λ (x : ℕ). LeadsTo specs x (walk j).0) e (leads i j l))

  pub stuck : ⊥
  stuck = crowd (length specs) (λ i. (walk i).0) (λ i l. (walk i).1.0) (λ i j h k e. elim (cases_order i j) [
    | inl q ↦ q
    | inr q ↦ elim q [ inl l ↦ absurd (never i j l e) | inr l ↦ absurd (never j i l (sym e)) ]
  ])

not_in : (y : ℕ) (ys : List ℕ) (x : ℕ) → (y ≡ x → ⊥) → (Contains ys x → ⊥) → Contains (y ∷ ys) x → ⊥
not_in y ys x d n (zero, l, e) = d e
not_in y ys x d n (suc k, l, e) = n (k, omega (arith, l), e)

pub is_in : (xs : List ℕ) (x : ℕ) → Contains xs x ⊎ (Contains xs x → ⊥)
is_in [] x = inr (λ c. (let l = c.1 in omega (arith, l)))
is_in (y ∷ ys) x = elim (cases_eq y x) [
  | inl e ↦ inl (zero, omega arith, e)
  | inr d ↦ elim (is_in ys x) [
    | inl c ↦ let l = c.1 in inl (suc c.0, omega (arith, l), c.2)
    | inr n ↦ inr (not_in y ys x d n)
  ]
]

-- where no entry is next, all are placed
pub all_placed : (specs : List ServiceUse) (placed : List ℕ) → AllBlocked specs placed (length specs) → NoLoopBelow specs (length specs) → (x : ℕ) → x < length specs → Contains placed x
all_placed specs placed blocked none x l = elim (is_in placed x) [
  | inl c ↦ c
  | inr n ↦ absurd (stuck specs placed blocked none (x, (l, n)))
]
