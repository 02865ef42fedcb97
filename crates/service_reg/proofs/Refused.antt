-- A first fault and no fault exclude each other, and so do two first faults.
use Rattle.std.proofs.Common.{inl, inr, ◌≡◌, ℕ, ◌<◌, List, length, get_or, None, Some, refl, sym, ◌∙◌, ap, subst, arith}
use Rattle.std.proofs.lemmas.Bool.{cases_order}
use Rattle.service_reg.specs.declared.service.Service.{Service}
use Rattle.service_reg.specs.declared.service.Service.TheVariants.{Fetch, Predict, Decoder, RegFile, Hazard, Exec, DataBus, System}
use Rattle.service_reg.specs.declared.service.ServiceUse.{ServiceUse}
use Rattle.service_reg.specs.declared.service.ServiceRefusal.{ServiceRefusal}
use Rattle.service_reg.specs.declared.service.ServiceRefusal.TheVariants.{Missing, Double, CycleOfNeeds, NoMemory}
use Rattle.service_reg.specs.Services.{IsOffered, IsMissingInCore, HasCore, NeedsMet, AreOffered, needs_at, IsFirstUnmet, number, OfferedOnce, IsFirstDouble, LeadsTo, NoLoopBelow, HasNoServiceFault, IsFirstServiceFault}
use Rattle.service_reg.proofs.Offers.{same_service}
use Rattle.service_reg.proofs.Walks.{leads_from}

-- ---- what each kind of fault rules out

number_less : (s : Service) → number s < 8
number_less Fetch = omega arith
number_less Predict = omega arith
number_less Decoder = omega arith
number_less RegFile = omega arith
number_less Hazard = omega arith
number_less Exec = omega arith
number_less DataBus = omega arith
number_less System = omega arith

core_there : (specs : List ServiceUse) (s : Service) → HasCore specs → IsMissingInCore specs s → ⊥
core_there specs Fetch h m = m h.fetch
core_there specs Decoder h m = m.1 h.decoder
core_there specs RegFile h m = m.2 h.reg_file
core_there specs Hazard h m = m.3 h.hazard
core_there specs Predict h m = m
core_there specs Exec h m = m
core_there specs DataBus h m = m
core_there specs System h m = m

met_there : (specs : List ServiceUse) (x : ℕ) (s : Service) → NeedsMet specs (length specs) → IsFirstUnmet specs x s → ⊥
met_there specs x s h m = m.missing (subst (λ (t : Service). IsOffered specs t) m.service (h x m.entry m.at m.there))

once_there : (specs : List ServiceUse) (s : Service) (a b : ℕ) → OfferedOnce specs 8 → IsFirstDouble specs s a b → ⊥
once_there specs s a b h d = h s (number_less s) d.not_exec a b d.double

pub fault_excludes : (specs : List ServiceUse) (r : ServiceRefusal) → HasNoServiceFault specs → IsFirstServiceFault specs r → ⊥
fault_excludes specs (Missing s None) h f = core_there specs s h.core f
fault_excludes specs (Missing s (Some x)) h f = met_there specs x s h.needs f.1
fault_excludes specs (Double s a b) h f = once_there specs s a b h.once f.2
fault_excludes specs (CycleOfNeeds x) h f = h.no_loop x (leads_from specs x x f.3) f.3
fault_excludes specs NoMemory h f = f

-- ---- each kind of fault has one first

one_missing : (specs : List ServiceUse) (s t : Service) → IsMissingInCore specs s → IsMissingInCore specs t → s ≡ t
one_missing specs Fetch Fetch f g = refl
one_missing specs Fetch Decoder f g = absurd (f g.0)
one_missing specs Fetch RegFile f g = absurd (f g.0)
one_missing specs Fetch Hazard f g = absurd (f g.0)
one_missing specs Decoder Fetch f g = absurd (g f.0)
one_missing specs Decoder Decoder f g = refl
one_missing specs Decoder RegFile f g = absurd (f.1 g.1)
one_missing specs Decoder Hazard f g = absurd (f.1 g.1)
one_missing specs RegFile Fetch f g = absurd (g f.0)
one_missing specs RegFile Decoder f g = absurd (g.1 f.1)
one_missing specs RegFile RegFile f g = refl
one_missing specs RegFile Hazard f g = absurd (f.2 g.2)
one_missing specs Hazard Fetch f g = absurd (g f.0)
one_missing specs Hazard Decoder f g = absurd (g.1 f.1)
one_missing specs Hazard RegFile f g = absurd (g.2 f.2)
one_missing specs Hazard Hazard f g = refl
one_missing specs Predict t f g = absurd f
one_missing specs Exec t f g = absurd f
one_missing specs DataBus t f g = absurd f
one_missing specs System t f g = absurd f
one_missing specs s Predict f g = absurd g
one_missing specs s Exec f g = absurd g
one_missing specs s DataBus f g = absurd g
one_missing specs s System f g = absurd g

unmet_before : (specs : List ServiceUse) (x : ℕ) (s : Service) → IsFirstUnmet specs x s → AreOffered specs (needs_at specs x) (length (needs_at specs x)) → ⊥
unmet_before specs x s f all = f.missing (subst (λ (t : Service). IsOffered specs t) f.service (all f.at f.there))

one_place : (specs : List ServiceUse) (x : ℕ) (s t : Service) (f : IsFirstUnmet specs x s) (g : IsFirstUnmet specs x t) → f.at < g.at → ⊥
one_place specs x s t f g l = f.missing (subst (λ (u : Service). IsOffered specs u) f.service (g.before f.at l))

one_unmet : (specs : List ServiceUse) (x : ℕ) (s t : Service) → IsFirstUnmet specs x s → IsFirstUnmet specs x t → s ≡ t
one_unmet specs x s t f g = elim (cases_order f.at g.at) [
  | inl e ↦ sym f.service ∙ ap (λ i. get_or (needs_at specs x) i Fetch) e ∙ g.service
  | inr l ↦ elim l [ inl a ↦ absurd (one_place specs x s t f g a) | inr b ↦ absurd (one_place specs x t s g f b) ]
]

same_unmet : (specs : List ServiceUse) (x y : ℕ) (s t : Service) → IsFirstUnmet specs x s → IsFirstUnmet specs y t → Missing s (Some x) ≡ Missing t (Some y)
same_unmet specs x y s t f g = elim (cases_order x y) [
  | inl e ↦ let h = one_unmet specs y s t (subst (λ (z : ℕ). IsFirstUnmet specs z s) e f) g in cc
  | inr l ↦ elim l [
    | inl a ↦ absurd (unmet_before specs x s f (g.entries x a))
    | inr b ↦ absurd (unmet_before specs y t g (f.entries y b))
  ]
]

same_pair : (specs : List ServiceUse) (s : Service) (a b c d : ℕ) → IsFirstDouble specs s a b → IsFirstDouble specs s c d → Double s a b ≡ Double s c d
same_pair specs s a b c d f g = elim (cases_order a c) [
  | inr l ↦ elim l [ inl h ↦ absurd (g.pairs a b (inl h) f.double) | inr h ↦ absurd (f.pairs c d (inl h) g.double) ]
  | inl e ↦ elim (cases_order b d) [
    | inl h ↦ cc
    | inr l ↦ elim l [ inl h ↦ absurd (g.pairs a b (inr (e, h)) f.double) | inr h ↦ absurd (f.pairs c d (inr (sym e, h)) g.double) ]
  ]
]

same_double : (specs : List ServiceUse) (s t : Service) (a b c d : ℕ) → IsFirstDouble specs s a b → IsFirstDouble specs t c d → Double s a b ≡ Double t c d
same_double specs s t a b c d f g = elim (cases_order (number s) (number t)) [
  | inl e ↦ let h : s ≡ t = same_service s t e in
      same_pair specs s a b c d f (subst (λ (u : Service). IsFirstDouble specs u c d) (sym h) g) ∙ ap (λ (u : Service). Double u c d) h
  | inr l ↦ elim l [
    | inl h ↦ absurd (g.services s h f.not_exec a b f.double)
    | inr h ↦ absurd (f.services t h g.not_exec c d g.double)
  ]
]

same_cycle : (specs : List ServiceUse) (x y : ℕ) → LeadsTo specs x x → NoLoopBelow specs x → LeadsTo specs y y → NoLoopBelow specs y → CycleOfNeeds x ≡ CycleOfNeeds y
same_cycle specs x y p f q g = elim (cases_order x y) [
  | inl e ↦ ap CycleOfNeeds e
  | inr l ↦ elim l [ inl h ↦ absurd (g x h p) | inr h ↦ absurd (f y h q) ]
]

pub one_first : (specs : List ServiceUse) (r s : ServiceRefusal) → IsFirstServiceFault specs r → IsFirstServiceFault specs s → r ≡ s
one_first specs (Missing s None) (Missing t None) f g = ap (λ (u : Service). Missing u None) (one_missing specs s t f g)
one_first specs (Missing s None) (Missing t (Some y)) f g = absurd (core_there specs s g.0 f)
one_first specs (Missing s None) (Double t c d) f g = absurd (core_there specs s g.0 f)
one_first specs (Missing s None) (CycleOfNeeds y) f g = absurd (core_there specs s g.0 f)
one_first specs (Missing s (Some x)) (Missing t None) f g = absurd (core_there specs t f.0 g)
one_first specs (Missing s (Some x)) (Missing t (Some y)) f g = same_unmet specs x y s t f.1 g.1
one_first specs (Missing s (Some x)) (Double t c d) f g = absurd (met_there specs x s g.1 f.1)
one_first specs (Missing s (Some x)) (CycleOfNeeds y) f g = absurd (met_there specs x s g.1 f.1)
one_first specs (Double s a b) (Missing t None) f g = absurd (core_there specs t f.0 g)
one_first specs (Double s a b) (Missing t (Some y)) f g = absurd (met_there specs y t f.1 g.1)
one_first specs (Double s a b) (Double t c d) f g = same_double specs s t a b c d f.2 g.2
one_first specs (Double s a b) (CycleOfNeeds y) f g = absurd (once_there specs s a b g.2 f.2)
one_first specs (CycleOfNeeds x) (Missing t None) f g = absurd (core_there specs t f.0 g)
one_first specs (CycleOfNeeds x) (Missing t (Some y)) f g = absurd (met_there specs y t f.1 g.1)
one_first specs (CycleOfNeeds x) (Double t c d) f g = absurd (once_there specs t c d f.2 g.2)
one_first specs (CycleOfNeeds x) (CycleOfNeeds y) f g = same_cycle specs x y f.3 f.4 g.3 g.4
one_first specs NoMemory s f g = absurd f
one_first specs r NoMemory f g = absurd g
