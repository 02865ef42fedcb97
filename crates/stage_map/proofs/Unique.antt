-- There is at most one first fault.
use Rattle.std.proofs.Common.{◌≡◌, ◌∙◌, ℕ, ◌<◌, ◌⊎◌, inl, inr, List, length, get_or, Option, None, Some, sym, ap, subst, arith}
use Rattle.stage_map.specs.declared.config.Stage.{Stage}
use Rattle.stage_map.specs.declared.keys.PlugUse.{PlugUse}
use Rattle.stage_map.specs.declared.keys.StageRefusal.{StageRefusal}
use Rattle.stage_map.specs.declared.keys.StageRefusal.TheVariants.{StageAbsent, StageOrder, KeyTwice, NoMemory}
use Rattle.stage_map.specs.Stages.{StageMapValue, entry_at, name_at, stage_at, writer_entry, HasOrderFault, IsFirstAbsent, IsFirstKeyTwice, IsFirstOf, IsFirstOrderFault, IsFirstPlaceFault, IsFirstStageFault, IsFirstTwice, IsFirstUseFault, IsUseFault, IsWrite}
use Rattle.stage_map.proofs.Firsts.{same_first, same_place}
use Rattle.stage_map.proofs.Refused.{absent_place, no_absence}

one_less : (a b : ℕ) → (a < b) ⊎ ((b < a) ⊎ (a ≡ b))
one_less a b = grind arith

-- of two pairs one comes before the other, or they have the same entries and the first use
one_pair : (a b c d i k : ℕ)
    → ((a < c) ⊎ ((a ≡ c) × ((b < d) ⊎ ((b ≡ d) × (i < k)))))
    ⊎ (((c < a) ⊎ ((c ≡ a) × ((d < b) ⊎ ((d ≡ b) × (k < i))))) ⊎ ((i ≡ k) × (b ≡ d)))
one_pair a b c d i k = elim (one_less a c) [
  | inl l ↦ inl (inl l)
  | inr m ↦ elim m [
    | inl g ↦ inr (inl (inl g))
    | inr e ↦ elim (one_less b d) [
      | inl l ↦ inl (inr (e, inl l))
      | inr n ↦ elim n [
        | inl g ↦ inr (inl (inr (sym e, inl g)))
        | inr f ↦ elim (one_less i k) [
          | inl l ↦ inl (inr (e, inr (f, l)))
          | inr o ↦ elim o [
            | inl g ↦ inr (inl (inr (sym e, inr (sym f, g))))
            | inr same ↦ inr (inr (same, f))
          ]
        ]
      ]
    ]
  ]
]

same_pair : (uses : List PlugUse) (n i j k l : ℕ) → IsFirstTwice uses n i j → IsFirstTwice uses n k l
    → (i ≡ k) × (entry_at uses j ≡ entry_at uses l)
same_pair uses n i j k l f g = elim (one_pair (entry_at uses i) (entry_at uses j) (entry_at uses k) (entry_at uses l) i k) [
  | inl c ↦ absurd (g.before i j f.there f.other c f.twice)
  | inr rest ↦ elim rest [ inl c ↦ absurd (f.before k l g.there g.other c g.twice) | inr same ↦ same ]
]

one_place : (stages : ℕ) (places : List (Option Stage)) (commit : Stage) (e f : ℕ) (s t : Stage)
    → IsFirstPlaceFault stages places commit e s → IsFirstPlaceFault stages places commit f t
    → StageAbsent (Some e) s ≡ StageAbsent (Some f) t
one_place stages places commit e f s t p q = elim (one_less e f) [
  | inl l ↦ absurd (q.before e l s p.fault)
  | inr m ↦ elim m [
    | inl g ↦ absurd (p.before f g t q.fault)
    | inr same ↦ let a : get_or places e None ≡ Some s = p.fault.0 in
        let b : get_or places f None ≡ Some t = q.fault.0 in
        let d : get_or places e None ≡ get_or places f None = ap (λ (k : ℕ). get_or places k None) same in
        cc
  ]
]

one_use : (stages : ℕ) (uses : List PlugUse) (places : List (Option Stage)) (commit : Stage) (e f : ℕ) (s t : Stage)
    → IsFirstUseFault stages uses places commit e s → IsFirstUseFault stages uses places commit f t
    → StageAbsent (Some e) s ≡ StageAbsent (Some f) t
one_use stages uses places commit e f s t p q =
    let same : p.at ≡ q.at = same_place uses (IsUseFault stages uses) (length uses) p.at q.at p.first q.first in
    let a : e ≡ f = p.by_entry ∙ ap (λ (k : ℕ). entry_at uses k) same ∙ sym q.by_entry in
    let b : s ≡ t = p.at_stage ∙ ap (λ (k : ℕ). stage_at uses k) same ∙ sym q.at_stage in
    cc

one_absent : (stages : ℕ) (uses : List PlugUse) (places : List (Option Stage)) (commit : Stage) (p q : Option ℕ) (s t : Stage)
    → IsFirstAbsent stages uses places commit p s → IsFirstAbsent stages uses places commit q t → StageAbsent p s ≡ StageAbsent q t
one_absent stages uses places commit None None s t f g = let e : s ≡ t = f.0 ∙ sym g.0 in cc
one_absent stages uses places commit None (Some e) s t f g = elim g [ inl p ↦ absurd (p.commits f.1) | inr u ↦ absurd (u.commits f.1) ]
one_absent stages uses places commit (Some e) None s t f g = elim f [ inl p ↦ absurd (p.commits g.1) | inr u ↦ absurd (u.commits g.1) ]
one_absent stages uses places commit (Some e) (Some d) s t f g = elim f [
  | inl p ↦ elim g [ inl q ↦ one_place stages places commit e d s t p q | inr u ↦ absurd (absent_place stages places e s u.placed p.fault) ]
  | inr u ↦ elim g [ inl q ↦ absurd (absent_place stages places d t u.placed q.fault) | inr v ↦ one_use stages uses places commit e d s t u v ]
]

one_order : (uses : List PlugUse) (key name : List ℕ) (e f : ℕ) (w v : Option ℕ)
    → IsFirstOrderFault uses key e w → IsFirstOrderFault uses name f v → StageOrder key e w ≡ StageOrder name f v
one_order uses key name e f w v p q =
    let same : p.at ≡ q.at = same_place uses (HasOrderFault uses) (length uses) p.at q.at p.first q.first in
    let named : name_at uses p.at ≡ name_at uses q.at = ap (λ (k : ℕ). name_at uses k) same in
    let writers : p.from ≡ q.from = same_first uses (IsWrite uses (name_at uses q.at)) (length uses) p.from q.from
    (subst (λ (n : List ℕ). IsFirstOf uses (IsWrite uses n) (length uses) p.from) named p.fault.writer) q.fault.writer in
    let a : key ≡ name = p.of_key ∙ named ∙ sym q.of_key in
    let b : e ≡ f = p.by_reader ∙ ap (λ (k : ℕ). entry_at uses k) same ∙ sym q.by_reader in
    let d : w ≡ v = p.by_writer ∙ ap (λ (o : Option ℕ). writer_entry uses o) writers ∙ sym q.by_writer in
    cc

one_twice : (uses : List PlugUse) (key name : List ℕ) (a b d e : ℕ)
    → IsFirstKeyTwice uses key a b → IsFirstKeyTwice uses name d e → KeyTwice key a b ≡ KeyTwice name d e
one_twice uses key name a b d e p q =
    let same : (p.at ≡ q.at) × (entry_at uses p.other ≡ entry_at uses q.other) = same_pair uses (length uses) p.at p.other q.at q.other p.first q.first in
    let f : key ≡ name = p.of_key ∙ ap (λ (k : ℕ). name_at uses k) same.0 ∙ sym q.of_key in
    let g : a ≡ d = p.by_a ∙ ap (λ (k : ℕ). entry_at uses k) same.0 ∙ sym q.by_a in
    let h : b ≡ e = p.by_b ∙ same.1 ∙ sym q.by_b in
    cc

-- The first fault is one.
pub one_fault : (m : StageMapValue) (places : List (Option Stage)) (commit : Stage) (r s : StageRefusal)
    → IsFirstStageFault m places commit r → IsFirstStageFault m places commit s → r ≡ s
one_fault m places commit (StageAbsent p s) (StageAbsent q t) f g = one_absent m.stages m.uses places commit p q s t f g
one_fault m places commit (StageAbsent p s) (StageOrder key e w) f g = absurd (no_absence m places commit p s g.0 f)
one_fault m places commit (StageAbsent p s) (KeyTwice key a b) f g = absurd (no_absence m places commit p s g.0 f)
one_fault m places commit (StageAbsent p s) NoMemory f g = absurd g
one_fault m places commit (StageOrder key e w) (StageAbsent p s) f g = absurd (no_absence m places commit p s f.0 g)
one_fault m places commit (StageOrder key e w) (StageOrder name d v) f g = one_order m.uses key name e d w v f.1 g.1
one_fault m places commit (StageOrder key e w) (KeyTwice name a b) f g = absurd (g.1 f.1.at f.1.first.there f.1.first.holds)
one_fault m places commit (StageOrder key e w) NoMemory f g = absurd g
one_fault m places commit (KeyTwice key a b) (StageAbsent p s) f g = absurd (no_absence m places commit p s f.0 g)
one_fault m places commit (KeyTwice key a b) (StageOrder name e w) f g = absurd (f.1 g.1.at g.1.first.there g.1.first.holds)
one_fault m places commit (KeyTwice key a b) (KeyTwice name d e) f g = one_twice m.uses key name a b d e f.2 g.2
one_fault m places commit (KeyTwice key a b) NoMemory f g = absurd g
one_fault m places commit NoMemory s f g = absurd f
