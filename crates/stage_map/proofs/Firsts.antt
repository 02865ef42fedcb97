-- The first use with a property, kept from place to place.
use Rattle.std.proofs.Common.{◌≡◌, ℕ, ◌+◌, ◌<◌, ◌≤◌, ◌⊎◌, Bool, true, false, cond, leb, List, Option, None, Some, inl, inr, refl, arith, ap}
use Rattle.std.specs.Bool.{Decides}
use Rattle.std.proofs.lemmas.Bool.Decides.{nat_tests}
use borrow.Author.Count.{below_more}
use Rattle.stage_map.specs.declared.keys.PlugUse.{PlugUse}
use Rattle.stage_map.specs.Stages.{entry_at, ComesBefore, IsFirst, IsFirstOf}
use Rattle.stage_map.specs.Search.{kept}

-- no use comes before itself
pub no_self : (a i : ℕ) → ((a < a) ⊎ ((a ≡ a) × (i < i))) → ⊥
no_self a i c = grind arith

-- what comes before a use is no later than its entry
pub entry_less : (a b c i j : ℕ) → ((a < b) ⊎ ((a ≡ b) × (i < j))) → b < c → a < c
entry_less a b c i j h less = grind arith

-- a later place comes before none whose entry is no greater
pub no_later : (a b i j : ℕ) → ((a < b) ⊎ ((a ≡ b) × (i < j))) → b ≤ a → j < i → ⊥
no_later a b i j h most later = grind arith

-- of two uses one comes before the other, or they are one
pub one_before : (a b i j : ℕ) → ((a < b) ⊎ ((a ≡ b) × (i < j))) ⊎ (((b < a) ⊎ ((b ≡ a) × (j < i))) ⊎ (i ≡ j))
one_before a b i j = grind arith

-- the first so far stays where the next use does not come before it
first_stays : (uses : List PlugUse) (Holds : ℕ → Type 0) (k b : ℕ)
    → IsFirst uses Holds k b → (ComesBefore uses k b → Holds k → ⊥) → IsFirst uses Holds (k + 1) b
first_stays uses Holds k b f not_here = record {
  there = let h : b < k = f.there in omega arith;
  holds = f.holds;
  before = below_more (λ j. ComesBefore uses j b → Holds j → ⊥) k f.before not_here;
}

-- the next use is the first where none before it comes before it
first_here : (uses : List PlugUse) (Holds : ℕ → Type 0) (k : ℕ)
    → Holds k → ((j : ℕ) → j < k → ComesBefore uses j k → Holds j → ⊥) → IsFirst uses Holds (k + 1) k
first_here uses Holds k holds before = record {
  there = omega arith;
  holds = holds;
  before = below_more (λ j. ComesBefore uses j k → Holds j → ⊥) k before (λ c held. no_self (entry_at uses k) k c);
}

first_by : (uses : List PlugUse) (Holds : ℕ → Type 0) (k b : ℕ) (t : Bool)
    → (t ≡ true → entry_at uses b ≤ entry_at uses k) → (t ≡ false → entry_at uses k < entry_at uses b)
    → IsFirst uses Holds k b → Holds k → IsFirstOf uses Holds (k + 1) (cond t (Some b) (Some k))
first_by uses Holds k b true most less f holds = first_stays uses Holds k b f (λ c held. no_later _ _ k b c (most refl) f.there)
first_by uses Holds k b false most less f holds = first_here uses Holds k holds (λ j below c held.
    f.before j below (inl (entry_less (entry_at uses j) (entry_at uses k) (entry_at uses b) j k c (less refl))) held)

-- What is kept at the next place is the first there.
pub kept_more : (uses : List PlugUse) (Holds : ℕ → Type 0) (k : ℕ) (best : Option ℕ) (h : Bool)
    → IsFirstOf uses Holds k best → Decides h (Holds k) → IsFirstOf uses Holds (k + 1) (kept uses best k h)
kept_more uses Holds k None false never tells =
    below_more (λ j. Holds j → ⊥) k never (λ held. let e : false ≡ true = tells.1 held in cc)
kept_more uses Holds k (Some b) false f tells =
    first_stays uses Holds k b f (λ c held. let e : false ≡ true = tells.1 held in cc)
kept_more uses Holds k None true never tells = first_here uses Holds k (tells.0 refl) (λ j below c held. never j below held)
kept_more uses Holds k (Some b) true f tells =
    first_by uses Holds k b (leb (entry_at uses b) (entry_at uses k)) (λ e. grind (arith, nat_tests)) (λ e. grind (arith, nat_tests)) f (tells.0 refl)

pub same_place : (uses : List PlugUse) (Holds : ℕ → Type 0) (n i j : ℕ) → IsFirst uses Holds n i → IsFirst uses Holds n j → i ≡ j
same_place uses Holds n i j f g = elim (one_before (entry_at uses i) (entry_at uses j) i j) [
  | inl c ↦ absurd (g.before i f.there c f.holds)
  | inr rest ↦ elim rest [ inl c ↦ absurd (f.before j g.there c g.holds) | inr e ↦ e ]
]

-- There is one first.
pub same_first : (uses : List PlugUse) (Holds : ℕ → Type 0) (n : ℕ) (a b : Option ℕ)
    → IsFirstOf uses Holds n a → IsFirstOf uses Holds n b → a ≡ b
same_first uses Holds n None None f g = refl
same_first uses Holds n None (Some j) f g = absurd (f j g.there g.holds)
same_first uses Holds n (Some i) None f g = absurd (g i f.there f.holds)
same_first uses Holds n (Some i) (Some j) f g = ap Some (same_place uses Holds n i j f g)
