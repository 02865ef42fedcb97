-- Stages and keys are without fault or have a first one.
use Rattle.std.proofs.Common.{inl, inr, ◌≡◌, ℕ, zero, suc, ◌+◌, ◌<◌, ◌⊎◌, List, [], ◌∷◌, length, get_or, true, false, Option, None, Some, refl, sym, ◌∙◌, ap, subst, arith, below_more}
use Rattle.std.proofs.lemmas.Bool.{cases_Bool, cases_eq, cases_lt, false≢true}
use Rattle.stage_map.specs.declared.config.Stage.{Stage}
use Rattle.stage_map.specs.declared.keys.PlugUse.{PlugUse}
use Rattle.stage_map.specs.declared.keys.StageRefusal.{StageRefusal}
use Rattle.stage_map.specs.declared.keys.StageRefusal.TheVariants.{StageAbsent, StageOrder, KeyTwice}
use Rattle.stage_map.specs.declared.twice.Pair.{Pair}
use Rattle.stage_map.specs.Stages.{StageMapValue, rank, LacksStage, entry_at, name_at, stage_at, writes_at, writer_entry, IsFirstOf, IsPlaceFault, PlacesThere, IsUseFault, IsWrite, IsWriter, IsEarly, HasOrderFault, IsTwice, HasStages, HasNoStageFault, IsFirstStageFault}
use Rattle.stage_map.specs.Search.{kept, kept_pair, IsFirstPair}
use Rattle.stage_map.proofs.Firsts.{kept_more}
use Rattle.stage_map.proofs.Pairs.{pair_more}
use Rattle.stage_map.proofs.Writers.{fault_by}
use Rattle.stage_map.proofs.Refused.{order_refused, twice_refused}

-- ---- names

abbrev front : List ℕ → ℕ
front [] = 0
front (x ∷ xs) = x

abbrev behind : List ℕ → List ℕ
behind [] = []
behind (x ∷ xs) = xs

both : (x y : ℕ) (xs ys : List ℕ) → x ≡ y → xs ≡ ys → x ∷ xs ≡ y ∷ ys
both x y xs ys e f = cc

-- two names are the same or not
pub same_or_not : (xs ys : List ℕ) → (xs ≡ ys) ⊎ (xs ≡ ys → ⊥)
same_or_not [] [] = inl refl
same_or_not [] (y ∷ ys) = inr (λ e. cc)
same_or_not (x ∷ xs) [] = inr (λ e. cc)
same_or_not (x ∷ xs) (y ∷ ys) = elim (cases_eq x y) [
  | inr d ↦ inr (λ e. d (ap front e))
  | inl e ↦ elim (same_or_not xs ys) [
    | inl f ↦ inl (both x y xs ys e f)
    | inr d ↦ inr (λ f. d (ap behind f))
  ]
]

-- ---- the first use

one_more : (n : ℕ) → n + 1 ≡ suc n
one_more n = omega arith

first_by : (uses : List PlugUse) (Holds : ℕ → Type 0) (n : ℕ) (o : Option ℕ) → IsFirstOf uses Holds n o → Holds n ⊎ (Holds n → ⊥)
    → (p : Option ℕ) × IsFirstOf uses Holds (suc n) p
first_by uses Holds n o f (inl h) = (kept uses o n true, subst (λ (m : ℕ). IsFirstOf uses Holds m (kept uses o n true)) (one_more n) (kept_more uses Holds n o true f (λ e. h, λ g. refl)))
first_by uses Holds n o f (inr d) =
    (kept uses o n false, subst (λ (m : ℕ). IsFirstOf uses Holds m (kept uses o n false)) (one_more n) (kept_more uses Holds n o false f (λ e. cc, λ g. absurd (d g))))

-- a property that each use has or has not has a first use or none
first_of : (uses : List PlugUse) (Holds : ℕ → Type 0) (n : ℕ) → ((k : ℕ) → Holds k ⊎ (Holds k → ⊥)) → (o : Option ℕ) × IsFirstOf uses Holds n o
first_of uses Holds zero test = (None, λ k l. absurd (omega (arith, l)))
first_of uses Holds (suc n) test = let before = first_of uses Holds n test in first_by uses Holds n before.0 before.1 (test n)

is_write : (uses : List PlugUse) (name : List ℕ) (k : ℕ) → IsWrite uses name k ⊎ (IsWrite uses name k → ⊥)
is_write uses name k = elim (cases_Bool (writes_at uses k)) [
  | inr f ↦ inr (λ w. false≢true (sym f ∙ w.0))
  | inl t ↦ elim (same_or_not (name_at uses k) name) [ inl e ↦ inl (t, e) | inr d ↦ inr (λ w. d w.1) ]
]

writer : (uses : List PlugUse) (name : List ℕ) → (o : Option ℕ) × IsWriter uses name o
writer uses name = first_of uses (IsWrite uses name) (length uses) (is_write uses name)

early : (uses : List PlugUse) (k : ℕ) (o : Option ℕ) → IsEarly uses k o ⊎ (IsEarly uses k o → ⊥)
early uses k None = inl tt
early uses k (Some w) = elim (cases_lt (rank (stage_at uses k)) (rank (stage_at uses w))) [
  | inl h ↦ inl h
  | inr h ↦ inr (λ l. omega (arith, h, l))
]

misread : (uses : List PlugUse) (k : ℕ) → HasOrderFault uses k ⊎ (HasOrderFault uses k → ⊥)
misread uses k = elim (cases_Bool (writes_at uses k)) [
  | inl t ↦ inr (λ h. false≢true (sym h.1.read ∙ t))
  | inr f ↦ let w = writer uses (name_at uses k) in elim (early uses k w.0) [
    | inl e ↦ inl (w.0, record { read = f; writer = w.1; early = e })
    | inr d ↦ inr (λ h. d (fault_by uses k w.0 h w.1).early)
  ]
]

lacks : (stages : ℕ) (s : Stage) → LacksStage stages s ⊎ (LacksStage stages s → ⊥)
lacks stages s = elim (cases_lt (rank s) stages) [ inl h ↦ inr (λ l. omega (arith, h, l)) | inr h ↦ inl h ]

-- ---- the first pair

twice : (uses : List PlugUse) (i j : ℕ) → IsTwice uses i j ⊎ (IsTwice uses i j → ⊥)
twice uses i j = elim (is_write uses (name_at uses i) j) [
  | inr d ↦ inr (λ t. d (t.second, t.key))
  | inl w ↦ elim (cases_Bool (writes_at uses i)) [
    | inr f ↦ inr (λ t. false≢true (sym f ∙ t.first))
    | inl f ↦ elim (cases_lt (entry_at uses i) (entry_at uses j)) [
      | inl h ↦ inl (record { first = f; second = w.0; key = w.1; entries = h })
      | inr h ↦ inr (λ t. (let l = t.entries in omega (arith, h, l)))
    ]
  ]
]

pairs : (uses : List PlugUse) (n : ℕ) → (o : Option Pair) × IsFirstPair uses n o
pairs uses zero = (None, λ i j l. absurd (omega (arith, l)))
pairs uses (suc n) =
    let before = pairs uses n in
    let other = first_of uses (IsTwice uses n) (length uses) (twice uses n) in
    (kept_pair uses before.0 n other.0, subst (λ (m : ℕ). IsFirstPair uses m (kept_pair uses before.0 n other.0)) (one_more n) (pair_more uses n before.0 other.0 before.1 other.1))

-- ---- places

-- each number below n is good, or there is a first bad one
pub first : (Good Bad : ℕ → Type 0) (n : ℕ) → ((k : ℕ) → k < n → Good k ⊎ Bad k)
    → ((k : ℕ) → k < n → Good k) ⊎ ((k : ℕ) × (k < n) × Bad k × ((j : ℕ) → j < k → Good j))
first Good Bad zero test = inl (λ k l. absurd (omega (arith, l)))
first Good Bad (suc n) test = elim (first Good Bad n (λ k l. test k (omega (arith, l)))) [
  | inl all ↦ elim (test n (omega arith)) [
    | inl good ↦ inl (λ k l. below_more Good n all good k (omega (arith, l)))
    | inr bad ↦ inr (n, omega arith, bad, all)
  ]
  | inr f ↦ let l = f.1 in inr (f.0, omega (arith, l), f.2, f.3)
]

some_is : (a b : Stage) → Some a ≡ Some b → a ≡ b
some_is a b e = cc

place_by : (stages : ℕ) (places : List (Option Stage)) (e : ℕ) (p : Option Stage) → get_or places e None ≡ p
    → ((s : Stage) → IsPlaceFault stages places e s → ⊥) ⊎ ((s : Stage) × IsPlaceFault stages places e s)
place_by stages places e None is = inl (λ s f. (let g : None ≡ Some s = sym is ∙ f.0 in cc))
place_by stages places e (Some s) is = elim (lacks stages s) [
  | inl l ↦ inr (s, (is, l))
  | inr n ↦ inl (λ t f. n (subst (λ (u : Stage). LacksStage stages u) (sym (some_is s t (sym is ∙ f.0))) f.1))
]

-- ---- all

module _ (m : StageMapValue) (places : List (Option Stage)) (commit : Stage) where
  absent : HasStages m.stages m.uses places commit ⊎ ((r : StageRefusal) × IsFirstStageFault m places commit r)
  absent = elim (lacks m.stages commit) [
    | inl l ↦ inr (StageAbsent None commit, (refl, l))
    | inr c ↦ elim (first (λ e. (s : Stage) → IsPlaceFault m.stages places e s → ⊥) (λ e. (s : Stage) × IsPlaceFault m.stages places e s) (length places)
        (λ e l. place_by m.stages places e (get_or places e None) refl)) [
          | inr f ↦ inr (StageAbsent (Some f.0) f.2.0, inl (record { commits = c; fault = f.2.1; before = f.3 }))
          | inl p ↦ used c p (first_of m.uses (IsUseFault m.stages m.uses) (length m.uses) (λ k. lacks m.stages (stage_at m.uses k)))
        ]
  ]
    where
      used : (LacksStage m.stages commit → ⊥) → PlacesThere m.stages places (length places) → (q : (o : Option ℕ) × IsFirstOf m.uses (IsUseFault m.stages m.uses) (length m.uses) o)
          → HasStages m.stages m.uses places commit ⊎ ((r : StageRefusal) × IsFirstStageFault m places commit r)
      used c p (None, u) = inl (record { commits = c; placed = p; used = u })
      used c p (Some k, u) = inr (StageAbsent (Some (entry_at m.uses k)) (stage_at m.uses k), inr (record { commits = c; placed = p; at = k; first = u; by_entry = refl; at_stage = refl }))

  once_by : HasStages m.stages m.uses places commit → ((k : ℕ) → k < length m.uses → HasOrderFault m.uses k → ⊥) → (q : (o : Option Pair) × IsFirstPair m.uses (length m.uses) o)
      → HasNoStageFault m places commit ⊎ ((r : StageRefusal) × IsFirstStageFault m places commit r)
  once_by s o (None, never) = inl (record { stages = s; order = o; once = never })
  once_by s o (Some p, f) = inr (KeyTwice (name_at m.uses p.at) (entry_at m.uses p.at) (entry_at m.uses p.other), twice_refused m places commit p.at p.other _ s o f refl)

  order_by : HasStages m.stages m.uses places commit → (q : (o : Option ℕ) × IsFirstOf m.uses (HasOrderFault m.uses) (length m.uses) o)
      → HasNoStageFault m places commit ⊎ ((r : StageRefusal) × IsFirstStageFault m places commit r)
  order_by s (None, never) = once_by s never (pairs m.uses (length m.uses))
  order_by s (Some k, f) = inr (StageOrder (name_at m.uses k) (entry_at m.uses k) (writer_entry m.uses f.holds.0), order_refused m places commit k f.holds.0 _ s f f.holds.1 refl)

  -- no stage and no key is at fault, or one is first
  pub fault_or_none : HasNoStageFault m places commit ⊎ ((r : StageRefusal) × IsFirstStageFault m places commit r)
  fault_or_none = elim absent [
    | inr f ↦ inr f
    | inl s ↦ order_by s (first_of m.uses (HasOrderFault m.uses) (length m.uses) (misread m.uses))
  ]
