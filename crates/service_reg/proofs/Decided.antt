-- Services are without fault or have a first one, and without fault there is an order of building.
use Rattle.std.proofs.Common.{inl, inr, ◌≡◌, ℕ, zero, suc, ◌+◌, ◌<◌, ◌≤◌, ◌⊎◌, List, [], ◌∷◌, ◌++◌, length, get_or, Option, None, Some, refl, sym, ◌∙◌, ap, subst, arith, below_more}
use Rattle.std.proofs.lemmas.Bool.{cases_lt, cases_eq}
use Rattle.std.proofs.lemmas.List.{length-append}
use Rattle.std.specs.List.{Contains}
use Rattle.service_reg.specs.declared.service.Service.{Service}
use Rattle.service_reg.specs.declared.service.Service.TheVariants.{Fetch, Decoder, RegFile, Hazard, Exec}
use Rattle.service_reg.specs.declared.service.ServiceUse.{ServiceUse}
use Rattle.service_reg.specs.declared.service.ServiceRefusal.{ServiceRefusal}
use Rattle.service_reg.specs.declared.service.ServiceRefusal.TheVariants.{Missing, Double, CycleOfNeeds}
use Rattle.service_reg.specs.declared.offer.Pair.{Pair}
use Rattle.service_reg.specs.Services.{use_at, Offers, IsOffered, IsMissingInCore, HasCore, needs_at, AreOffered, NeedsMet, IsFirstUnmet, number, IsDouble, OfferedOnce, IsFirstDouble, StandsOn, LeadsTo, NoLoopBelow, CanCome, IsNextEach, IsBuildOrder, HasNoServiceFault, IsFirstServiceFault}
use Rattle.service_reg.specs.Search.{IsOfferer, IsPair, IsUnmetPlace, Shares, Blocks, IsNextOf, Reaches, IsFurther, IsFound}
use Rattle.service_reg.proofs.Offers.{pair_none, pair_alone, pair_both, service_at, same_service, service_any, share_none, stands_shares, unmet_of}
use Rattle.service_reg.proofs.Walks.{is_in}
use Rattle.service_reg.proofs.Places.{next_of, next_more, next_room, built, found_more, found_room, closed}

-- each number below n is good, or there is a first bad one
pub first : (Good Bad : ℕ → Type 0) (n : ℕ) → ((k : ℕ) → k < n → Good k ⊎ Bad k)
    → ((k : ℕ) → k < n → Good k) ⊎ ((k : ℕ) × (k < n) × Bad k × ((j : ℕ) → j < k → Good j))
first Good Bad zero test = inl (λ k l. absurd (omega (arith, l)))
first Good Bad (suc n) test = elim (first Good Bad n (λ k l. test k (omega (arith, l)))) [
  | inl all ↦ elim (test n (omega arith)) [
    | inl good ↦ inl (λ k l. below_more Good n all good k (omega (arith, l)))
    | inr bad ↦ inr (n, omega arith, bad, all)
  ]
  | inr f ↦ let l = f.1 in inr (f.0, omega (arith, l), f.2, f.3)
]

-- ---- services in lists

not_there : (y : Service) (ys : List Service) (s : Service) → (y ≡ s → ⊥) → (Contains ys s → ⊥) → Contains (y ∷ ys) s → ⊥
not_there y ys s d n (zero, l, e) = d e
not_there y ys s d n (suc k, l, e) = n (k, omega (arith, l), e)

pub has_service : (xs : List Service) (s : Service) → Contains xs s ⊎ (Contains xs s → ⊥)
has_service [] s = inr (λ c. (let l = c.1 in omega (arith, l)))
has_service (y ∷ ys) s = elim (cases_eq (number y) (number s)) [
  | inl e ↦ inl (zero, omega arith, same_service y s e)
  | inr d ↦ elim (has_service ys s) [
    | inl c ↦ let l = c.1 in inl (suc c.0, omega (arith, l), c.2)
    | inr n ↦ inr (not_there y ys s (λ e. d (ap number e)) n)
  ]
]

swap : {A B : Type 0} → A ⊎ B → B ⊎ A
swap (inl a) = inr a
swap (inr b) = inl b

shares : (wanted offered : List Service) → Shares wanted offered ⊎ (Shares wanted offered → ⊥)
shares wanted offered = elim (first (λ i. Contains offered (get_or wanted i Fetch) → ⊥) (λ i. Contains offered (get_or wanted i Fetch)) (length wanted)
    (λ i l. swap (has_service offered (get_or wanted i Fetch)))) [
      | inl none ↦ inr (share_none wanted offered none)
      | inr f ↦ inl (get_or wanted f.0 Fetch, ((f.0, f.1, service_any wanted f.0 (get_or wanted f.0 Fetch) Fetch f.1), f.2))
    ]

module _ (specs : List ServiceUse) where
  -- ---- what is offered

  pub offered : (s : Service) → IsOffered specs s ⊎ (IsOffered specs s → ⊥)
  offered s = elim (first (λ y. Offers specs y s → ⊥) (λ y. Offers specs y s) (length specs) (λ y l. swap (has_service (use_at specs y).offers s))) [
    | inl none ↦ inr (λ w. none w.0 w.1.0 w.1.1)
    | inr f ↦ inl (f.0, (f.1, f.2))
  ]

  core : HasCore specs ⊎ ((s : Service) × IsMissingInCore specs s)
  core = elim (offered Fetch) [
    | inr n ↦ inr (Fetch, n)
    | inl f ↦ elim (offered Decoder) [
      | inr n ↦ inr (Decoder, (f, n))
      | inl d ↦ elim (offered RegFile) [
        | inr n ↦ inr (RegFile, (f, d, n))
        | inl r ↦ elim (offered Hazard) [
          | inr n ↦ inr (Hazard, (f, d, r, n))
          | inl h ↦ inl (record { fetch = f; decoder = d; reg_file = r; hazard = h })
        ]
      ]
    ]
  ]

  place : (services : List Service) → AreOffered specs services (length services) ⊎ ((i : ℕ) × IsUnmetPlace specs services (Some i))
  place services = elim (first (λ i. IsOffered specs (get_or services i Fetch)) (λ i. IsOffered specs (get_or services i Fetch) → ⊥) (length services)
      (λ i l. offered (get_or services i Fetch))) [
        | inl all ↦ inl all
        | inr f ↦ inr (f.0, (f.1, f.3, f.2))
      ]

  unmet : NeedsMet specs (length specs) ⊎ ((x : ℕ) × (s : Service) × IsFirstUnmet specs x s)
  unmet = elim (first (λ x. AreOffered specs (needs_at specs x) (length (needs_at specs x))) (λ x. (i : ℕ) × IsUnmetPlace specs (needs_at specs x) (Some i)) (length specs)
      (λ x l. place (needs_at specs x))) [
        | inl all ↦ inl all
        | inr f ↦ inr (f.0, get_or (needs_at specs f.0) f.2.0 Fetch, unmet_of specs f.0 f.2.0 (needs_at specs f.0) (get_or (needs_at specs f.0) f.2.0 Fetch) refl f.1 f.3 f.2.1 refl)
      ]

  -- ---- what is offered twice

  offerer : (s : Service) (from : ℕ) → (o : Option ℕ) × IsOfferer specs s from o
  offerer s from = elim (first (λ y. from ≤ y → Offers specs y s → ⊥) (λ y. (from ≤ y) × Offers specs y s) (length specs)
      (λ y l. elim (cases_lt y from) [
        | inl h ↦ inl (λ g. absurd (omega (arith, h, g)))
        | inr g ↦ elim (has_service (use_at specs y).offers s) [ inl c ↦ inr (g, c) | inr n ↦ inl (λ h. n) ]
      ])) [
        | inl none ↦ (None, λ y f l. none y l f)
        | inr f ↦ (Some f.0, (f.2.0, f.1, f.2.1, λ y g l. f.3 y l g))
      ]

  pair_behind : (s : Service) (y : ℕ) → IsOfferer specs s 0 (Some y) → (q : (o : Option ℕ) × IsOfferer specs s (y + 1) o) → (o : Option Pair) × IsPair specs s o
  pair_behind s y h (None, k) = (None, pair_alone specs s y h k)
  pair_behind s y h (Some z, k) = (Some (record { a = y; b = z }), pair_both specs s y z h k)

  pair_from : (s : Service) → (q : (o : Option ℕ) × IsOfferer specs s 0 o) → (o : Option Pair) × IsPair specs s o
  pair_from s (None, h) = (None, pair_none specs s h)
  pair_from s (Some y, h) = pair_behind s y h (offerer s (y + 1))

  -- the service of number n is Exec or offered at most once; it is not Exec and offered twice
  abbrev Once : ℕ → Type 0
  Once n = (s : Service) → number s ≡ n → (s ≡ Exec → ⊥) → (a b : ℕ) → IsDouble specs s a b → ⊥

  abbrev Twice : ℕ → Type 0
  Twice n = (s : Service) × (number s ≡ n) × (s ≡ Exec → ⊥) × (p : Pair) × IsPair specs s (Some p)

  numbered : (n : ℕ) → n < 8 → number (service_at n) ≡ n
  numbered zero l = refl
  numbered (suc zero) l = refl
  numbered (suc (suc zero)) l = refl
  numbered (suc (suc (suc zero))) l = refl
  numbered (suc (suc (suc (suc zero)))) l = refl
  numbered (suc (suc (suc (suc (suc zero))))) l = refl
  numbered (suc (suc (suc (suc (suc (suc zero)))))) l = refl
  numbered (suc (suc (suc (suc (suc (suc (suc n))))))) l = omega (arith, l)

  once_by : (n : ℕ) (s : Service) → number s ≡ n → (s ≡ Exec → ⊥) → (q : (o : Option Pair) × IsPair specs s o) → Once n ⊎ Twice n
  once_by n s e d (None, h) = inl (λ t f g a b double. h a b (subst (λ (u : Service). IsDouble specs u a b) (same_service t s (f ∙ sym e)) double))
  once_by n s e d (Some p, h) = inr (s, e, d, p, h)

  once_at : (n : ℕ) → n < 8 → Once n ⊎ Twice n
  once_at n l = elim (cases_eq n 5) [
    | inl e ↦ inl (λ t f g a b double. g (same_service t Exec (f ∙ e)))
    | inr d ↦ once_by n (service_at n) (numbered n l) (λ e. d (sym (numbered n l) ∙ ap number e)) (pair_from (service_at n) (offerer (service_at n) 0))
  ]

  doubled : OfferedOnce specs 8 ⊎ ((s : Service) × (a b : ℕ) × IsFirstDouble specs s a b)
  doubled = elim (first Once Twice 8 once_at) [
    | inl all ↦ inl (λ s l. all (number s) l s refl)
    | inr f ↦ let e = f.2.1 in inr (
      f.2.0,
      f.2.3.a,
      f.2.3.b,
      record {
        not_exec = f.2.2;
        double = f.2.4.0;
        services = λ t l. f.3 (number t) (omega (arith, l, e)) t refl;
        pairs = f.2.4.1;
      },
    )
  ]

  -- ---- what an entry stands on

  stands : (x y : ℕ) → x < length specs → y < length specs → StandsOn specs x y ⊎ (StandsOn specs x y → ⊥)
  stands x y lx ly = elim (shares (use_at specs x).needs (use_at specs y).offers) [
    | inl w ↦ inl (record { entry = lx; other = ly; service = w.0; wants = inl w.1.0; offers = w.1.1 })
    | inr n ↦ elim (shares (use_at specs x).uses (use_at specs y).offers) [
      | inl w ↦ inl (record { entry = lx; other = ly; service = w.0; wants = inr w.1.0; offers = w.1.1 })
      | inr m ↦ inr (λ p. m (stands_shares specs x y p p.wants n))
    ]
  ]

  reaches : (found : List ℕ) (x y : ℕ) → x < length specs → y < length specs → Reaches specs found x y ⊎ (Reaches specs found x y → ⊥)
  reaches found x y lx ly = elim (stands x y lx ly) [
    | inl e ↦ inl (inl e)
    | inr d ↦ elim (first (λ z. Contains found z → StandsOn specs z y → ⊥) (λ z. Contains found z × StandsOn specs z y) (length specs)
        (λ z lz. elim (is_in found z) [
          | inr n ↦ inl (λ c. absurd (n c))
          | inl c ↦ elim (stands z y lz ly) [ inl e ↦ inr (c, e) | inr n ↦ inl (λ h. n) ]
        ])) [
          | inl none ↦ inr (λ r. elim r [ inl e ↦ d e | inr p ↦ none p.0 p.1.1.entry p.1.0 p.1.1 ])
          | inr f ↦ inl (inr (f.0, f.2))
        ]
  ]

  further_of : (found : List ℕ) (x : ℕ) → x < length specs → (o : Option ℕ) × IsFurther specs found x o
  further_of found x lx = elim (first (λ y. Reaches specs found x y → Contains found y) (λ y. (Contains found y → ⊥) × Reaches specs found x y) (length specs)
      (λ y ly. elim (is_in found y) [
        | inl c ↦ inl (λ r. c)
        | inr n ↦ elim (reaches found x y lx ly) [ inl r ↦ inr (n, r) | inr m ↦ inl (λ r. absurd (m r)) ]
      ])) [
        | inl all ↦ (None, all)
        | inr f ↦ (Some f.0, (f.1, f.2.0, f.2.1))
      ]

  longer : (left : ℕ) (found : List ℕ) (y : ℕ) → length specs ≤ suc left + length found → length specs ≤ left + length (found ++ y ∷ [])
  longer left found y most = let e = length-append found (y ∷ []) in omega (arith, e, most)

  loop_by : (x : ℕ) → x < length specs → (left : ℕ) (found : List ℕ) → IsFound specs x found → length specs ≤ left + length found
      → (q : (o : Option ℕ) × IsFurther specs found x o) → LeadsTo specs x x ⊎ (LeadsTo specs x x → ⊥)
  loop_by x lx left found f most (None, m) = elim (is_in found x) [
    | inl c ↦ inl (f.reached x c)
    | inr n ↦ inr (λ l. n (closed specs x found m x l))
  ]
  loop_by x lx zero found f most (Some y, m) = let l = found_room specs x found y f m in absurd (omega (arith, l, most))
  loop_by x lx (suc left) found f most (Some y, m) =
      loop_by x lx left (found ++ y ∷ []) (found_more specs x found y f m) (longer left found y most) (further_of (found ++ y ∷ []) x lx)

  loop_at : (x : ℕ) → x < length specs → (LeadsTo specs x x → ⊥) ⊎ LeadsTo specs x x
  loop_at x lx = swap (loop_by x lx (length specs) []
      (record { reached = λ y c. (let l = c.1 in absurd (omega (arith, l))); apart = λ k l. absurd (omega (arith, l)) }) (omega arith) (further_of [] x lx))

  loops : NoLoopBelow specs (length specs) ⊎ ((x : ℕ) × LeadsTo specs x x × NoLoopBelow specs x)
  loops = elim (first (λ x. LeadsTo specs x x → ⊥) (λ x. LeadsTo specs x x) (length specs) loop_at) [
    | inl none ↦ inl none
    | inr f ↦ inr (f.0, f.2, f.3)
  ]

  -- nothing is at fault, or something is first
  pub fault_or_none : HasNoServiceFault specs ⊎ ((r : ServiceRefusal) × IsFirstServiceFault specs r)
  fault_or_none = elim core [
    | inr m ↦ inr (Missing m.0 None, m.1)
    | inl c ↦ elim unmet [
      | inr u ↦ inr (Missing u.1 (Some u.0), (c, u.2))
      | inl n ↦ elim doubled [
        | inr d ↦ inr (Double d.0 d.1 d.2, (c, n, d.3))
        | inl o ↦ elim loops [
          | inr l ↦ inr (CycleOfNeeds l.0, (c, n, o, l.1, l.2))
          | inl l ↦ inl (record { core = c; needs = n; once = o; no_loop = l })
        ]
      ]
    ]
  ]

  -- ---- the order

  blocker : (placed : List ℕ) (x : ℕ) → x < length specs → CanCome specs placed x ⊎ ((y : ℕ) × Blocks specs placed x y)
  blocker placed x lx = elim (first (λ y. StandsOn specs x y → Contains placed y) (λ y. Blocks specs placed x y) (length specs)
      (λ y ly. elim (stands x y lx ly) [
        | inr d ↦ inl (λ s. absurd (d s))
        | inl s ↦ elim (is_in placed y) [ inl c ↦ inl (λ t. c) | inr n ↦ inr (s, n) ]
      ])) [
        | inl all ↦ inl (λ y s. all y s.other s)
        | inr f ↦ inr (f.0, f.2)
      ]

  next : (placed : List ℕ) → (o : Option ℕ) × IsNextOf specs placed o
  next placed = elim (first (λ x. (Contains placed x → ⊥) → (y : ℕ) × Blocks specs placed x y) (λ x. (Contains placed x → ⊥) × CanCome specs placed x) (length specs)
      (λ x lx. elim (is_in placed x) [
        | inl c ↦ inl (λ n. absurd (n c))
        | inr n ↦ elim (blocker placed x lx) [ inl r ↦ inr (n, r) | inr b ↦ inl (λ m. b) ]
      ])) [
        | inl all ↦ (None, all)
        | inr f ↦ (Some f.0, next_of specs placed f.0 f.1 f.2.0 f.2.1 f.3)
      ]

  order_by : NoLoopBelow specs (length specs) → (left : ℕ) (order : List ℕ) → IsNextEach specs order → length specs ≤ left + length order
      → (q : (o : Option ℕ) × IsNextOf specs order o) → (o : List ℕ) × IsBuildOrder specs o
  order_by none left order each most (None, b) = (order, built specs order each b none)
  order_by none zero order each most (Some x, n) = let l = next_room specs order x each n in absurd (omega (arith, l, most))
  order_by none (suc left) order each most (Some x, n) =
      order_by none left (order ++ x ∷ []) (next_more specs order x each n) (longer left order x most) (next (order ++ x ∷ []))

  -- where no entry stands on itself there is an order
  pub order_of : NoLoopBelow specs (length specs) → (o : List ℕ) × IsBuildOrder specs o
  order_of none = order_by none (length specs) [] (λ k l. absurd (omega (arith, l))) (omega arith) (next [])
