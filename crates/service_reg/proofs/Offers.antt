-- What the searches of offers and needs find.
use Rattle.std.proofs.Common.{inl, inr, ◌≡◌, ℕ, zero, suc, ◌+◌, ◌<◌, ◌≤◌, ◌⊎◌, List, [], ◌∷◌, length, get_or, Option, None, Some, is_some, Bool, refl, sym, ◌∙◌, ap, subst, arith, below_more}
use Rattle.std.proofs.lemmas.Bool.{cases_lt}
use Rattle.std.specs.Bool.{Decides}
use Rattle.std.specs.List.{Contains}
use Rattle.service_reg.specs.declared.service.Service.{Service}
use Rattle.service_reg.specs.declared.service.Service.TheVariants.{Fetch, Predict, Decoder, RegFile, Hazard, Exec, DataBus, System}
use Rattle.service_reg.specs.declared.service.ServiceUse.{ServiceUse}
use Rattle.service_reg.specs.Services.{use_at, Offers, IsOffered, number, IsDouble, OfferedOnce, needs_at, NeedsMet, IsFirstUnmet, Wants, StandsOn}
use Rattle.service_reg.specs.Search.{NoOffer, IsOfferer, IsPair, IsUnmetPlace, Shares}

pub no_offer_more : (specs : List ServiceUse) (s : Service) (from n : ℕ) → NoOffer specs s from n → (Offers specs n s → ⊥) → NoOffer specs s from (n + 1)
no_offer_more specs s from n before here y f l o =
    below_more (λ k. from ≤ k → Offers specs k s → ⊥) n (λ k h g. before k g h) (λ g. here) y l f o

pub offered_decides : (specs : List ServiceUse) (s : Service) (o : Option ℕ) → IsOfferer specs s 0 o → Decides (is_some o) (IsOffered specs s)
offered_decides specs s None h = (λ e. cc, λ w. absurd (h w.0 (omega arith) w.1.0 w.1.1))
offered_decides specs s (Some y) h = (λ e. (y, (h.1, h.2)), λ w. refl)

pub pair_none : (specs : List ServiceUse) (s : Service) → IsOfferer specs s 0 None → IsPair specs s None
pair_none specs s h a b d = let l = d.less in let e = d.entry in h a (omega arith) (omega (arith, l, e)) d.first

pub pair_alone : (specs : List ServiceUse) (s : Service) (y : ℕ) → IsOfferer specs s 0 (Some y) → IsOfferer specs s (y + 1) None → IsPair specs s None
pair_alone specs s y h k a b d = let l = d.less in elim (cases_lt a y) [
  | inl g ↦ h.3 a (omega arith) g d.first
  | inr g ↦ k b (omega (arith, l, g)) d.entry d.second
]

pub pair_both : (specs : List ServiceUse) (s : Service) (y z : ℕ) → IsOfferer specs s 0 (Some y) → IsOfferer specs s (y + 1) (Some z) → IsPair specs s (Some (record { a = y; b = z }))
pair_both specs s y z h k =
    let f = k.0 in
    let before : (a b : ℕ) → (a < y) ⊎ ((a ≡ y) × (b < z)) → IsDouble specs s a b → ⊥ = λ a b p d. (let l = d.less in elim p [
      | inl g ↦ h.3 a (omega arith) g d.first
      | inr g ↦ let q = g.0 in k.3 b (omega (arith, l, q)) g.1 d.second
    ]) in
    (record { less = omega (arith, f); entry = k.1; first = h.2; second = k.2 }, before)

-- ---- services by number

abbrev pub service_at : ℕ → Service
service_at zero = Fetch
service_at (suc zero) = Predict
service_at (suc (suc zero)) = Decoder
service_at (suc (suc (suc zero))) = RegFile
service_at (suc (suc (suc (suc zero)))) = Hazard
service_at (suc (suc (suc (suc (suc zero))))) = Exec
service_at (suc (suc (suc (suc (suc (suc zero)))))) = DataBus
service_at (suc (suc (suc (suc (suc (suc (suc n))))))) = System

back : (s : Service) → service_at (number s) ≡ s
back Fetch = refl
back Predict = refl
back Decoder = refl
back RegFile = refl
back Hazard = refl
back Exec = refl
back DataBus = refl
back System = refl

pub same_service : (s t : Service) → number s ≡ number t → s ≡ t
same_service s t e = sym (back s) ∙ ap service_at e ∙ back t

-- what holds of the first n services, and of that of number n
pub once_more : (specs : List ServiceUse) (n : ℕ) (t : Service) → number t ≡ n → OfferedOnce specs n → ((t ≡ Exec → ⊥) → (a b : ℕ) → IsDouble specs t a b → ⊥) → OfferedOnce specs (n + 1)
once_more specs n t e before here s l =
    elim (cases_lt (number s) n) [
      | inl h ↦ before s h
      | inr h ↦ let q : number s ≡ number t = omega (arith, l, h, e) in
          subst (λ (u : Service). (u ≡ Exec → ⊥) → (a b : ℕ) → IsDouble specs u a b → ⊥) (sym (same_service s t q)) here
    ]

-- ---- lists of services

pub service_any : (xs : List Service) (i : ℕ) (d e : Service) → i < length xs → get_or xs i d ≡ get_or xs i e
service_any [] i d e l = absurd (omega (arith, l))
service_any (x ∷ xs) zero d e l = refl
service_any (x ∷ xs) (suc i) d e l = service_any xs i d e (omega (arith, l))

-- no service of a list is in another, so they have none in common
pub share_none : (wanted offered : List Service) → ((i : ℕ) → i < length wanted → Contains offered (get_or wanted i Fetch) → ⊥) → Shares wanted offered → ⊥
share_none wanted offered none w =
    let c = w.1.0 in
    let e : w.0 ≡ get_or wanted c.0 Fetch = sym c.2 ∙ service_any wanted c.0 w.0 Fetch c.1 in
    none c.0 c.1 (subst (λ (s : Service). Contains offered s) e w.1.1)

pub each_more : (P : ℕ → Type 0) (n : ℕ) → ((k : ℕ) → k < n → P k) → P n → (k : ℕ) → k < n + 1 → P k
each_more P n before here = below_more P n before here

-- ---- what an entry stands on

pub use_any : (specs : List ServiceUse) (i : ℕ) (d e : ServiceUse) → i < length specs → get_or specs i d ≡ get_or specs i e
use_any [] i d e l = absurd (omega (arith, l))
use_any (x ∷ xs) zero d e l = refl
use_any (x ∷ xs) (suc i) d e l = use_any xs i d e (omega (arith, l))

pub stands_shares : (specs : List ServiceUse) (x y : ℕ) (p : StandsOn specs x y) → Wants specs x p.service → (Shares (use_at specs x).needs (use_at specs y).offers → ⊥) → Shares (use_at specs x).uses (use_at specs y).offers
stands_shares specs x y p (inl n) none = absurd (none (p.service, (n, p.offers)))
stands_shares specs x y p (inr u) none = (p.service, (u, p.offers))

-- where nothing of what x needs is offered by y, x stands on y exactly where what it uses is
pub stands_by_use : (specs : List ServiceUse) (x y : ℕ) (needs uses offered : List Service) → x < length specs → y < length specs →
    needs ≡ (use_at specs x).needs → uses ≡ (use_at specs x).uses → offered ≡ (use_at specs y).offers →
    (u : Bool) → (Shares needs offered → ⊥) → Decides u (Shares uses offered) → Decides u (StandsOn specs x y)
stands_by_use specs x y needs uses offered lx ly en eu eo u none d =
    let none_now : Shares (use_at specs x).needs (use_at specs y).offers → ⊥ = rw (← en, ← eo) none in
    let d_now : Decides u (Shares (use_at specs x).uses (use_at specs y).offers) = rw (← eu, ← eo) d in (
      λ t. (let w = d_now.0 t in record { entry = lx; other = ly; service = w.0; wants = inr w.1.0; offers = w.1.1 }),
      λ p. d_now.1 (stands_shares specs x y p p.wants none_now),
    )

-- the first need that is not met, by the list of an entry's needs
pub unmet_of : (specs : List ServiceUse) (x i : ℕ) (needs : List Service) (s : Service) → needs ≡ needs_at specs x → x < length specs → NeedsMet specs x → IsUnmetPlace specs needs (Some i) → s ≡ get_or needs i Fetch → IsFirstUnmet specs x s
unmet_of specs x i needs s e l met m q =
    let place : IsUnmetPlace specs (needs_at specs x) (Some i) = subst (λ (xs : List Service). IsUnmetPlace specs xs (Some i)) e m in
    let here : get_or (needs_at specs x) i Fetch ≡ s = ap (λ (xs : List Service). get_or xs i Fetch) (sym e) ∙ sym q in
    record {
      entry = l;
      entries = met;
      at = i;
      there = place.0;
      service = here;
      before = place.1;
      missing = subst (λ (t : Service). IsOffered specs t → ⊥) here place.2;
    }
