-- Numbers of parameters: what a search by key finds, and that those which were not refused are within their bounds.
use Rattle.std.proofs.Common.{◌≡◌, ℕ, suc, ◌+◌, ◌<◌, ◌≤◌, pos, negsuc, List, [], ◌∷◌, length, get_or, drop, Option, None, Some, true, false, cond, refl, inl, inr, sym, ap, subst, ◌∙◌, add-one, drop-cons, arith, codes}
use Rattle.std.proofs.lemmas.Bool.{cases_Bool}
use Rattle.std.specs.Cmp.Lexicographic.{same_text, other_text}
use Rattle.core_words.specs.Names.{same_name}
use Rattle.stage_map.specs.declared.config.Param.{Param}
use Rattle.stage_map.specs.declared.config.ParamValue.{ParamValue}
use Rattle.stage_map.specs.declared.config.ParamValue.TheVariants.{Num, Flag, Word}
use Rattle.plug_api.specs.declared.spec.ParamFault.{ParamFault}
use Rattle.plug_kinds.specs.declared.kind.Kind.TheVariants.{Fetch, Icache, Muldiv}
use Rattle.plug_kinds.specs.declared.kind.Values.{Values}
use Rattle.plug_kinds.specs.declared.kind.Values.TheVariants.{Whole, Power}
use Rattle.plug_kinds.specs.Kinds.{Parameter, row_of, is_of, values_of, fault_by, first_of, fault_in, fault_of, given_or, number_of}

same : (xs ys : List ℕ) → xs ≡ ys → same_name xs ys ≡ true
same xs ys e = elim (cases_Bool (same_name xs ys)) [
  | inl t ↦ t
  | inr f ↦ absurd (other_text xs ys (sym f) e)
]

differs : (xs ys : List ℕ) → (xs ≡ ys → ⊥) → same_name xs ys ≡ false
differs xs ys e = elim (cases_Bool (same_name xs ys)) [
  | inl t ↦ absurd (e (same_text xs ys (sym t)))
  | inr f ↦ f
]

-- one step of the search by key
step : (default : ParamValue) (key : List ℕ) (ps : List Param) (i : ℕ) (p : Param) → i < length ps → p ≡ get_or ps i p
    → given_or default (drop i ps) key ≡ cond (same_name p.key key) p.value (given_or default (drop (i + 1) ps) key)
step default key ps i p there is = ap (λ l. given_or default l key) (drop-cons ps i p there)
    ∙ ap (λ q. cond (same_name q.key key) q.value (given_or default (drop (suc i) ps) key)) (sym is)
    ∙ ap (λ n. cond (same_name p.key key) p.value (given_or default (drop n ps) key)) (sym (add-one i))

pub given_here : (default : ParamValue) (key : List ℕ) (ps : List Param) (i : ℕ) (p : Param) → i < length ps → p ≡ get_or ps i p
    → p.key ≡ key → given_or default (drop i ps) key ≡ p.value
given_here default key ps i p there is e = step default key ps i p there is
    ∙ ap (λ b. cond b p.value (given_or default (drop (i + 1) ps) key)) (same p.key key e)

pub given_behind : (default : ParamValue) (key : List ℕ) (ps : List Param) (i : ℕ) (p : Param) → i < length ps → p ≡ get_or ps i p
    → (p.key ≡ key → ⊥) → given_or default (drop i ps) key ≡ given_or default (drop (i + 1) ps) key
given_behind default key ps i p there is e = step default key ps i p there is
    ∙ ap (λ b. cond b p.value (given_or default (drop (i + 1) ps) key)) (differs p.key key e)

-- a number from one to another
record IsWithin (low high n : ℕ) : Type 0 where
  least : low ≤ n
  most : n ≤ high

-- one of the powers of two from one number to another is within
of_power : (low high : ℕ) (v : ParamValue) → is_of (Power low high) v ≡ true → IsWithin low high (number_of v)
of_power low high (Num (pos n)) e = record { least = grind arith; most = grind arith }
of_power low high (Num (negsuc n)) e = record { least = grind arith; most = grind arith }
of_power low high (Flag b) e = record { least = grind arith; most = grind arith }
of_power low high (Word w) e = record { least = grind arith; most = grind arith }

-- an integer from one number to another is within
of_whole : (low high : ℕ) (v : ParamValue) → is_of (Whole low high) v ≡ true → IsWithin low high (number_of v)
of_whole low high (Num (pos n)) e = record { least = grind arith; most = grind arith }
of_whole low high (Num (negsuc n)) e = record { least = grind arith; most = grind arith }
of_whole low high (Flag b) e = record { least = grind arith; most = grind arith }
of_whole low high (Word w) e = record { least = grind arith; most = grind arith }

-- no fault of two is no fault of either
no_first : (a b : Option ParamFault) → first_of a b ≡ None → a ≡ None
no_first None b e = refl
no_first (Some f) b e = e

no_later : (a b : Option ParamFault) → first_of a b ≡ None → b ≡ None
no_later None b e = e
no_later (Some f) b e = grind arith

-- a value that may not be is a fault
allowed : (v : Values) (p : Param) → fault_by (Some v) p ≡ None → is_of v p.value ≡ true
allowed v p e = elim (cases_Bool (is_of v p.value)) [
  | inl t ↦ t
  | inr f ↦ grind arith
]

-- the number of a parameter whose values are within bounds, where nothing is refused
within : (known : List Parameter) (key : List ℕ) (v : Values) (low high : ℕ) (default : ParamValue) → values_of known key ≡ Some v
    → ((x : ParamValue) → is_of v x ≡ true → IsWithin low high (number_of x))
    → IsWithin low high (number_of default) → (ps : List Param) → fault_in known ps ≡ None → IsWithin low high (number_of (given_or default ps key))
within known key v low high default is bound d [] e = d
within known key v low high default is bound d (p ∷ ps) e = elim (cases_Bool (same_name p.key key)) [
  | inl t ↦
      let here : p.key ≡ key = same_text p.key key (sym t) in
      let found : fault_by (Some v) p ≡ None = ap (λ o. fault_by o p) (sym is ∙ ap (λ k. values_of known k) (sym here)) ∙ no_first _ _ e in
      subst (λ b. IsWithin low high (number_of (cond b p.value (given_or default ps key)))) (sym t) (bound p.value (allowed v p found))
  | inr f ↦
      subst (λ b. IsWithin low high (number_of (cond b p.value (given_or default ps key)))) (sym f) (within known key v low high default is bound d ps (no_later _ _ e))
]

-- of powers of two
within_power : (known : List Parameter) (key : List ℕ) (low high : ℕ) (default : ParamValue) → values_of known key ≡ Some (Power low high)
    → IsWithin low high (number_of default) → (ps : List Param) → fault_in known ps ≡ None → IsWithin low high (number_of (given_or default ps key))
within_power known key low high default is d ps e = within known key (Power low high) low high default is (of_power low high) d ps e

depth_within : (ps : List Param) → fault_of Fetch ps ≡ None → IsWithin 1 4 (number_of (given_or (Num (pos 1)) ps (codes "depth")))
depth_within ps e =
    within (row_of Fetch).params (codes "depth") (Whole 1 4) 1 4 (Num (pos 1)) refl (of_whole 1 4) (record { least = grind arith; most = grind arith }) ps e

pub depth_least : (ps : List Param) → fault_of Fetch ps ≡ None → 1 ≤ number_of (given_or (Num (pos 1)) ps (codes "depth"))
depth_least ps e = (depth_within ps e).least

pub depth_most : (ps : List Param) → fault_of Fetch ps ≡ None → number_of (given_or (Num (pos 1)) ps (codes "depth")) ≤ 4
depth_most ps e = (depth_within ps e).most

pub lines_most : (ps : List Param) → fault_of Icache ps ≡ None → number_of (given_or (Num (pos 64)) ps (codes "lines")) ≤ 1024
lines_most ps e = (within_power (row_of Icache).params (codes "lines") 2 1024 (Num (pos 64)) refl (record { least = grind arith; most = grind arith }) ps e).most

pub words_most : (ps : List Param) → fault_of Icache ps ≡ None → number_of (given_or (Num (pos 8)) ps (codes "words")) ≤ 16
words_most ps e = (within_power (row_of Icache).params (codes "words") 2 16 (Num (pos 8)) refl (record { least = grind arith; most = grind arith }) ps e).most

pub unroll_least : (ps : List Param) → fault_of Muldiv ps ≡ None → 1 ≤ number_of (given_or (Num (pos 1)) ps (codes "unroll"))
unroll_least ps e = (within_power (row_of Muldiv).params (codes "unroll") 1 4 (Num (pos 1)) refl (record { least = grind arith; most = grind arith }) ps e).least

pub unroll_most : (ps : List Param) → fault_of Muldiv ps ≡ None → number_of (given_or (Num (pos 1)) ps (codes "unroll")) ≤ 4
unroll_most ps e = (within_power (row_of Muldiv).params (codes "unroll") 1 4 (Num (pos 1)) refl (record { least = grind arith; most = grind arith }) ps e).most
