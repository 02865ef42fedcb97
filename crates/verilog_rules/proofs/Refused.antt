-- What a refusal by one rule says of all of them.
use Rattle.std.proofs.Common.{◌≡◌, ◌⊎◌, ℕ, List, [], ◌∷◌, ◌++◌, refl, sym, inl, inr, Some}
use Rattle.verilog_tree.specs.declared.tree.Tree.{Tree}
use Rattle.verilog_mean.specs.declared.refusal.MeanRefusal.{MeanRefusal}
use Rattle.verilog_mean.specs.declared.refusal.MeanRefusal.TheVariants as mean
use Rattle.verilog_mean.specs.declared.refusal.MeanRefusal.TheVariants.{NoMemory}
use Rattle.verilog_mean.specs.Erase.{plain_tree}
use Rattle.verilog_mean.specs.Names.{names_twice, bad_sizes, names_unknown, Refusals}
use Rattle.verilog_mean.specs.Kinds.{kinds_differ}
use Rattle.verilog_mean.specs.Widths.{selects_outside, widths_differ}
use Rattle.verilog_mean.specs.Drivers.{drivers_twice, drivers_missing}
use Rattle.verilog_mean.specs.Declarations.{Declaration, declarations}
use Rattle.verilog_mean.specs.Plain.{Plain}
use Rattle.verilog_mean.specs.Loops.{FirstLoop, HasNoLoop}
use Rattle.verilog_mean.specs.Sound.{IsSound}
use Rattle.verilog_rules.specs.First.{first, Refuses}
use Rattle.verilog_rules.specs.LoopPlace.{IsLoop}
use Rattle.verilog_rules.specs.Refusals.{refusals, IsFirstRefusal}

-- ---- of two lists

here : (r : MeanRefusal) (xs ys : Refusals) → first xs ≡ Some r → Refuses r (xs ++ ys)
here r [] ys h = cc
here r (x ∷ xs) ys h = inr h

before : (r : MeanRefusal) (xs ys : Refusals) → Refuses r xs → Refuses r (xs ++ ys)
before r xs ys (inl e) = inl e
before r xs ys (inr e) = here r xs ys e

behind : (r : MeanRefusal) (xs ys : Refusals) → xs ≡ [] → Refuses r ys → Refuses r (xs ++ ys)
behind r [] ys e h = h
behind r (x ∷ xs) ys e h = cc

pub both : (xs ys : Refusals) → xs ++ ys ≡ [] → (xs ≡ []) × (ys ≡ [])
both [] ys h = (refl, h)
both (x ∷ xs) ys h = cc

none : (xs ys : Refusals) → xs ≡ [] → ys ≡ [] → xs ++ ys ≡ []
none [] ys e h = h
none (x ∷ xs) ys e h = cc

-- ---- of the rules

module _ (t : Tree) (r : MeanRefusal) where
  pub by_names : Refuses r (names_twice t) → Refuses r (refusals t)
  unfolding refusals
  by_names h = before r _ _ h

  pub by_sizes : names_twice t ≡ [] → Some r ≡ first (bad_sizes t) → Refuses r (refusals t)
  unfolding refusals
  by_sizes e h = behind r _ _ e (here r _ _ (sym h))

  pub by_unknown : names_twice t ≡ [] → bad_sizes t ≡ [] → Refuses r (names_unknown t) → Refuses r (refusals t)
  unfolding refusals
  by_unknown e f h = behind r _ _ e (behind r _ _ f (before r _ _ h))

  pub by_kinds : names_twice t ≡ [] → bad_sizes t ≡ [] → names_unknown t ≡ [] → Some r ≡ first (kinds_differ t) → Refuses r (refusals t)
  unfolding refusals
  by_kinds e f g h = behind r _ _ e (behind r _ _ f (behind r _ _ g (here r _ _ (sym h))))

  pub by_selects : names_twice t ≡ [] → bad_sizes t ≡ [] → names_unknown t ≡ [] → kinds_differ t ≡ [] → Some r ≡ first (selects_outside t) → Refuses r (refusals t)
  unfolding refusals
  by_selects e f g h k = behind r _ _ e (behind r _ _ f (behind r _ _ g (behind r _ _ h (here r _ _ (sym k)))))

  pub by_widths : names_twice t ≡ [] → bad_sizes t ≡ [] → names_unknown t ≡ [] → kinds_differ t ≡ [] → selects_outside t ≡ []
      → Some r ≡ first (widths_differ t) → Refuses r (refusals t)
  unfolding refusals
  by_widths e f g h k l = behind r _ _ e (behind r _ _ f (behind r _ _ g (behind r _ _ h (behind r _ _ k (here r _ _ (sym l))))))

  pub by_drivers : names_twice t ≡ [] → bad_sizes t ≡ [] → names_unknown t ≡ [] → kinds_differ t ≡ [] → selects_outside t ≡ []
      → widths_differ t ≡ [] → Refuses r (drivers_twice t ++ drivers_missing t) → Refuses r (refusals t)
  unfolding refusals
  by_drivers e f g h k l m = behind r _ _ e (behind r _ _ f (behind r _ _ g (behind r _ _ h (behind r _ _ k (behind r _ _ l m)))))

pub no_refusals : (t : Tree) → names_twice t ≡ [] → bad_sizes t ≡ [] → names_unknown t ≡ [] → kinds_differ t ≡ [] → selects_outside t ≡ []
    → widths_differ t ≡ [] → drivers_twice t ≡ [] → drivers_missing t ≡ [] → refusals t ≡ []
unfolding refusals
no_refusals t e f g h k l m n = none _ _ e (none _ _ f (none _ _ g (none _ _ h (none _ _ k (none _ _ l (none _ _ m n))))))

-- ---- of soundness

pub is_sound : (t : Tree) → refusals t ≡ [] → HasNoLoop (plain_tree t) → IsSound t
unfolding refusals
is_sound t h loops =
    let a = both (names_twice t) _ h in
    let b = both (bad_sizes t) _ a.1 in
    let c = both (names_unknown t) _ b.1 in
    let d = both (kinds_differ t) _ c.1 in
    let e = both (selects_outside t) _ d.1 in
    let f = both (widths_differ t) _ e.1 in
    let g = both (drivers_twice t) (drivers_missing t) f.1 in
    record {
      names_once = a.0;
      sizes = b.0;
      names_known = c.0;
      kinds = d.0;
      selects = e.0;
      widths = f.0;
      drivers_once = g.0;
      driven = g.1;
      no_loop = loops;
    }

-- a list with a first is not empty
not_empty : (rs : Refusals) (r : MeanRefusal) → first rs ≡ Some r → rs ≡ [] → ⊥
not_empty [] r h e = cc
not_empty (s ∷ rs) r h e = cc

pub not_sound : (t : Tree) (r : MeanRefusal) → Refuses r (refusals t) → (r ≡ NoMemory) ⊎ (IsSound t → ⊥)
not_sound t r (inl e) = inl e
not_sound t r (inr e) =
    inr (λ s. not_empty (refusals t) r e (no_refusals t s.names_once s.sizes s.names_known s.kinds s.selects s.widths s.drivers_once s.driven))

-- the first declaration whose name depends on itself is one
first_loop : (m : Plain) (ds : List Declaration) (at : ℕ) → FirstLoop m ds at → HasNoLoop m → ⊥
first_loop m [] at h none = absurd h
first_loop m (d ∷ ds) at (inl h) none = none d.name.text h.0
first_loop m (d ∷ ds) at (inr h) none = first_loop m ds at h.1 none

loop_is : (t : Tree) (r : MeanRefusal) → IsLoop t r → HasNoLoop (plain_tree t) → ⊥
loop_is t (mean.Loop at) h none = first_loop (plain_tree t) (declarations t) at h none
loop_is t _ h none = absurd h

pub loop_not_sound : (t : Tree) (r : MeanRefusal) → (r ≡ NoMemory) ⊎ IsLoop t r → (r ≡ NoMemory) ⊎ (IsSound t → ⊥)
loop_not_sound t r (inl e) = inl e
loop_not_sound t r (inr h) = inr (λ s. loop_is t r h s.no_loop)

pub loop_first : (t : Tree) (r : MeanRefusal) → refusals t ≡ [] → (r ≡ NoMemory) ⊎ IsLoop t r → IsFirstRefusal t r
loop_first t r none (inl e) = inl (inl e)
loop_first t r none (inr h) = inr (none, h)

pub names_known : (t : Tree) → refusals t ≡ [] → names_unknown t ≡ []
unfolding refusals
names_known t h =
    let a = both (names_twice t) _ h in
    let b = both (bad_sizes t) _ a.1 in
    (both (names_unknown t) _ b.1).0
