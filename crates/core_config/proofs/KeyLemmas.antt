-- The keys of a table that are refused, an entry at a time.
use Rattle.std.proofs.Common.{◌≡◌, ℕ, nat_cmp, List, [], ◌∷◌, Option, Some, None, String, Global, string_bytes, Bool, true, false, Less, Greater, if◌then◌else◌, refl, ap, ◌∙◌}
use Rattle.std.specs.Cmp.Lexicographic.{slice_cmp}
use Rattle.std.specs.List.{AllByRecursion}
use Rattle.std.specs.List.Sorted.{IsStrictlySortedBy}
use Rattle.std.specs.Map.{keys_of}
use Rattle.std.specs.Ordering.{is_lt, ordering_reverse}
use Rattle.std.specs.String.{string_cmp}
use Rattle.std.proofs.lemmas.Cmp.{nat_list_cmp_total}
use Rattle.toml.specs.Data.{Members, no_members, member}
use Rattle.toml.specs.View.{view, members_view}
use Rattle.toml.proofs.Views.{Entry}
use Rattle.core_config.specs.declared.keys.KeySet.{KeySet}
use Rattle.core_config.specs.Config.{is_refused, least_refused, lesser}

-- the first key that is refused, in the order of the table
abbrev pub first_refused : KeySet → Members → Option (List ℕ)
first_refused set no_members = None
first_refused set (member k d ms) = if is_refused set k d then Some k else first_refused set ms

pub first_refused-here : (set : KeySet) (e : Entry) (es : List Entry) → is_refused set (string_bytes e.0) (view e.1) ≡ true
    → first_refused set (members_view (e ∷ es)) ≡ Some (string_bytes e.0)
first_refused-here set e es h = ap (λ b. if b then Some (string_bytes e.0) else first_refused set (members_view es)) h

pub first_refused-later : (set : KeySet) (e : Entry) (es : List Entry) → is_refused set (string_bytes e.0) (view e.1) ≡ false
    → first_refused set (members_view (e ∷ es)) ≡ first_refused set (members_view es)
first_refused-later set e es h = ap (λ b. if b then Some (string_bytes e.0) else first_refused set (members_view es)) h

-- a key is the lesser of itself and a later one
lesser-step : (t : Bool) (k l : List ℕ) (rest : Option (List ℕ)) → lesser k rest ≡ k → slice_cmp nat_cmp k l ≡ Less
    → lesser k (if t then Some l else rest) ≡ k
lesser-step false k l rest more before = more
lesser-step true k l rest more before =
    let after : slice_cmp nat_cmp l k ≡ Greater = nat_list_cmp_total.antisymm l k ∙ ap ordering_reverse before in
    ap (λ o. if is_lt o then l else k) after

lesser-first : (set : KeySet) (k : String Global) (es : List Entry) → AllByRecursion (λ y. string_cmp k y ≡ Less) (keys_of es)
    → lesser (string_bytes k) (first_refused set (members_view es)) ≡ string_bytes k
lesser-first set k [] h = refl
lesser-first set k (e ∷ es) h =
    lesser-step (is_refused set (string_bytes e.0) (view e.1)) (string_bytes k) (string_bytes e.0) (first_refused set (members_view es)) (lesser-first set k es h.1) h.0

least_step : (t : Bool) (k : List ℕ) (a b : Option (List ℕ)) → a ≡ b → lesser k b ≡ k
    → (if t then Some (lesser k a) else a) ≡ (if t then Some k else b)
least_step false k a b e l = e
least_step true k a b e l = ap Some (ap (lesser k) e ∙ l)

-- where the keys ascend, the first is the least
pub least_refused-sorted : (set : KeySet) (es : List Entry) → IsStrictlySortedBy string_cmp (keys_of es)
    → least_refused set (members_view es) ≡ first_refused set (members_view es)
unfolding IsStrictlySortedBy
least_refused-sorted set [] h = refl
least_refused-sorted set (e ∷ es) h =
    least_step (is_refused set (string_bytes e.0) (view e.1)) (string_bytes e.0) _ _ (least_refused-sorted set es h.1) (lesser-first set e.0 es h.0)
