-- The first pair of writes of one key, kept from place to place.
use Rattle.std.proofs.Common.{◌≡◌, ℕ, ◌+◌, ◌<◌, ◌≤◌, ◌⊎◌, Bool, true, false, cond, ltb, leb, eqb, ◌&&◌, ◌||◌, List, length, Option, None, Some, inl, refl, arith}
use Rattle.std.proofs.lemmas.Bool.Decides.{nat_tests}
use borrow.Author.Count.{below_more}
use Rattle.stage_map.specs.declared.keys.PlugUse.{PlugUse}
use Rattle.stage_map.specs.declared.twice.Pair.{Pair}
use Rattle.stage_map.specs.Stages.{entry_at, IsFirst, IsFirstOf, IsFirstTwice, IsTwice, PairComesBefore}
use Rattle.stage_map.specs.Search.{kept_pair, stays, IsFirstPair}

-- of two pairs with one first use, that with the lesser second entry comes before the other
second_less : (a b c i : ℕ) → ((a < a) ⊎ ((a ≡ a) × ((b < c) ⊎ ((b ≡ c) × (i < i))))) → b < c
second_less a b c i h = grind arith

-- entries a, b at a later place i do not come before c, d at j where c, d are no greater
no_later : (a b c d e i j : ℕ) → ((a < c) ⊎ ((a ≡ c) × ((b < d) ⊎ ((b ≡ d) × (i < j)))))
    → ((c < a) ⊎ ((c ≡ a) × (d ≤ e))) → e ≤ b → j < i → ⊥
no_later a b c d e i j h most least later = grind arith

-- what comes before a pair comes before each with greater entries
still_before : (a b c d e f i j k : ℕ) → ((a < c) ⊎ ((a ≡ c) × ((b < d) ⊎ ((b ≡ d) × (i < j)))))
    → ((c < e) ⊎ ((c ≡ e) × (d < f))) → ((a < e) ⊎ ((a ≡ e) × ((b < f) ⊎ ((b ≡ f) × (i < k)))))
still_before a b c d e f i j k h less = grind arith

-- the second of the pair at k that comes first has the least entry
least : (uses : List PlugUse) (k j l : ℕ) → IsFirst uses (IsTwice uses k) (length uses) j → l < length uses → IsTwice uses k l
    → entry_at uses l < entry_at uses j → ⊥
least uses k j l f there twice less = f.before l there (inl less) twice

pair_stays : (uses : List PlugUse) (k i j : ℕ) → IsFirstTwice uses k i j
    → ((l : ℕ) → l < length uses → PairComesBefore uses k l i j → IsTwice uses k l → ⊥) → IsFirstTwice uses (k + 1) i j
pair_stays uses k i j f not_here = record {
  there = let h : i < k = f.there in omega arith;
  other = f.other;
  twice = f.twice;
  before = λ m l below there c twice.
      below_more (λ m. (l : ℕ) → l < length uses → PairComesBefore uses m l i j → IsTwice uses m l → ⊥) k
      (λ m below l there c twice. f.before m l below there c twice) not_here m below l there c twice;
}

pair_here : (uses : List PlugUse) (k j : ℕ) → IsFirst uses (IsTwice uses k) (length uses) j
    → ((m l : ℕ) → m < k → l < length uses → PairComesBefore uses m l k j → IsTwice uses m l → ⊥) → IsFirstTwice uses (k + 1) k j
pair_here uses k j f before = record {
  there = omega arith;
  other = f.there;
  twice = f.holds;
  before = λ m l below there c twice.
      below_more (λ m. (l : ℕ) → l < length uses → PairComesBefore uses m l k j → IsTwice uses m l → ⊥) k
      (λ m below l there c twice. before m l below there c twice)
      (λ l there c twice. least uses k j l f there twice (second_less (entry_at uses k) (entry_at uses l) (entry_at uses j) k c))
      m below l there c twice;
}

pair_by : (uses : List PlugUse) (k j : ℕ) (p : Pair) (t : Bool)
    → (t ≡ true → (entry_at uses p.at < entry_at uses k) ⊎ ((entry_at uses p.at ≡ entry_at uses k) × (entry_at uses p.other ≤ entry_at uses j)))
    → (t ≡ false → (entry_at uses k < entry_at uses p.at) ⊎ ((entry_at uses k ≡ entry_at uses p.at) × (entry_at uses j < entry_at uses p.other)))
    → IsFirstTwice uses k p.at p.other → IsFirst uses (IsTwice uses k) (length uses) j
    → IsFirstPair uses (k + 1) (cond t (Some p) (Some (record { at = k; other = j })))
pair_by uses k j p true most less f g = pair_stays uses k p.at p.other f (λ l there c twice.
    let not_less : entry_at uses l < entry_at uses j → ⊥ = least uses k j l g there twice in
    no_later (entry_at uses k) (entry_at uses l) (entry_at uses p.at) (entry_at uses p.other) (entry_at uses j) k p.at c (most refl) (omega arith) f.there)
pair_by uses k j p false most less f g = pair_here uses k j g (λ m l below there c twice.
    f.before m l below there
    (still_before (entry_at uses m) (entry_at uses l) (entry_at uses k) (entry_at uses j) (entry_at uses p.at) (entry_at uses p.other) m k p.at c (less refl)) twice)

stays_means : (a b c d : ℕ) (t : Bool) → t ≡ (ltb a c || (eqb a c && leb b d)) → t ≡ true → (a < c) ⊎ ((a ≡ c) × (b ≤ d))
stays_means a b c d t is e = grind (arith, nat_tests)

goes_means : (a b c d : ℕ) (t : Bool) → t ≡ (ltb a c || (eqb a c && leb b d)) → t ≡ false → (c < a) ⊎ ((c ≡ a) × (d < b))
goes_means a b c d t is e = grind (arith, nat_tests)

-- What is kept at the next place is the first pair there.
pub pair_more : (uses : List PlugUse) (k : ℕ) (best : Option Pair) (other : Option ℕ)
    → IsFirstPair uses k best → IsFirstOf uses (IsTwice uses k) (length uses) other → IsFirstPair uses (k + 1) (kept_pair uses best k other)
pair_more uses k None None never none = λ m l below there twice.
    below_more (λ m. (l : ℕ) → l < length uses → IsTwice uses m l → ⊥) k (λ m below l there twice. never m l below there twice) none m below l there twice
pair_more uses k (Some p) None f none = pair_stays uses k p.at p.other f (λ l there c twice. none l there twice)
pair_more uses k None (Some j) never g = pair_here uses k j g (λ m l below there c twice. never m l below there twice)
pair_more uses k (Some p) (Some j) f g = pair_by uses k j p (stays uses p k j)
    (λ e. stays_means (entry_at uses p.at) (entry_at uses p.other) (entry_at uses k) (entry_at uses j) (stays uses p k j) refl e)
    (λ e. goes_means (entry_at uses p.at) (entry_at uses p.other) (entry_at uses k) (entry_at uses j) (stays uses p k j) refl e) f g
