-- One more spec is copied.
use Rattle.std.proofs.Common.{◌≡◌, ℕ, zero, suc, ◌+◌, ◌<◌, ◌++◌, List, [], ◌∷◌, length, get_or, arith, ap, sym, ◌∙◌, refl, inl, inr, length-append}
use Rattle.std.proofs.lemmas.Bool.{cases_lt}
use Rattle.plug_api.specs.declared.spec.PlugSpec.{PlugSpec}
use Rattle.plug_api.specs.Spec.{IsSpec, no_spec}
use Rattle.plug_api.specs.SoFar.{AreSaid}

front : (xs : List PlugSpec) (y : PlugSpec) (i : ℕ) → i < length xs → get_or (xs ++ (y ∷ [])) i no_spec ≡ get_or xs i no_spec
front [] y i h = absurd (omega (arith, h))
front (x ∷ xs) y zero h = refl
front (x ∷ xs) y (suc i) h = front xs y i (omega (arith, h))

behind : (xs : List PlugSpec) (y : PlugSpec) → get_or (xs ++ (y ∷ [])) (length xs) no_spec ≡ y
behind [] y = refl
behind (x ∷ xs) y = behind xs y

pub said_step : {B : Type 0} (now : B → PlugSpec) (boxes : List B) (picks : List ℕ) (count : ℕ) (specs : List PlugSpec) (s : PlugSpec)
    → AreSaid now boxes picks count specs → ((d : B) → s ≡ now (get_or boxes (get_or picks count 0) d)) → IsSpec s
    → AreSaid now boxes picks (count + 1) (specs ++ (s ∷ []))
said_step now boxes picks count specs s before is fit =
    let last : length specs ≡ count = before.one_each in
    let here : get_or (specs ++ (s ∷ [])) count no_spec ≡ s = ap (λ k. get_or (specs ++ (s ∷ [])) k no_spec) (sym last) ∙ behind specs s in
    record {
      one_each = length-append specs (s ∷ []) ∙ ap (λ n. n + 1) last;
      are = λ d i l. elim (cases_lt i count) [
        | inl early ↦ front specs s i (omega arith) ∙ before.are d i early
        | inr late ↦ let e : i ≡ count = omega arith in rw e (here ∙ is d)
      ];
      fit = λ i l. elim (cases_lt i count) [
        | inl early ↦ rw (front specs s i (omega arith)) (before.fit i early)
        | inr late ↦ let e : i ≡ count = omega arith in rw (e, here) fit
      ];
    }
