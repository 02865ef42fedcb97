-- What an item needs: the numbers of the names in its driver, and no others.
use Rattle.std.proofs.Common.{◌≡◌, ℕ, zero, suc, ◌<◌, ◌⊎◌, inl, inr, List, [], ◌∷◌, ◌++◌, length, get_or, refl, ap, sym, ◌∙◌, subst, arith, length-append, Option, Some, None}
use Rattle.std.proofs.lemmas.List.{get_or_append_left, get_or_push}
use Rattle.topo_sort.proofs.Same.{at_end}
use Rattle.verilog_mean.specs.Plain.{Expr, Exprs, Item}
use Rattle.verilog_mean.specs.Plain.Expr.{Literal, Named, Select, Cell, Not, Join, Binary, Choice}
use Rattle.verilog_mean.specs.Plain.Exprs.{NoPart, Part}
use Rattle.verilog_mean.specs.Loops.{Mentions, MentionsPart}
use Rattle.verilog_mean.specs.Order.{drive_at}
use Rattle.verilog_rules.specs.Edges.{with_number, needs_after, needs_after_parts, needs_of, edges_in}

-- a number stands in a list
abbrev pub Holds : List ℕ → ℕ → Type 0
Holds ns n = (i : ℕ) × ((i < length ns) × (get_or ns i 0 ≡ n))

held : (ns : List ℕ) (a n : ℕ) → Holds ns n → Holds (ns ++ (a ∷ [])) n
held ns a n h =
    let l = h.1.0 in
    let q = length-append ns (a ∷ []) in
    (h.0, (omega (arith, l, q), get_or_append_left ns (a ∷ []) 0 h.0 h.1.0 ∙ h.1.1))

pushed : (ns : List ℕ) (n : ℕ) → Holds (ns ++ (n ∷ [])) n
pushed ns n = let q = length-append ns (n ∷ []) in (length ns, (omega (arith, q), get_or_push ns n 0 (length ns) refl))

was_held : (ns : List ℕ) (a n : ℕ) → Holds (ns ++ (a ∷ [])) n → Holds ns n ⊎ (a ≡ n)
was_held ns a n h =
    let l = h.1.0 in
    let q = length-append ns (a ∷ []) in
    elim (at_end h.0 (length ns) (omega (arith, l, q))) [
      | inl k ↦ inl (h.0, (k, sym (get_or_append_left ns (a ∷ []) 0 h.0 k) ∙ h.1.1))
      | inr e ↦ inr (sym (get_or_push ns a 0 h.0 (sym e)) ∙ h.1.1)
    ]

with_held : (ns : List ℕ) (o : Option ℕ) (n : ℕ) → Holds ns n → Holds (with_number ns o) n
with_held ns None n h = h
with_held ns (Some a) n h = held ns a n h

with_it : (ns : List ℕ) (o : Option ℕ) (n : ℕ) → o ≡ Some n → Holds (with_number ns o) n
with_it ns o n e = subst (λ p. Holds (with_number ns p) n) (sym e) (pushed ns n)

module _ (f : List ℕ → Option ℕ) (n : ℕ) where
  with_was : (ns : List ℕ) (o : Option ℕ) → Holds (with_number ns o) n → Holds ns n ⊎ (o ≡ Some n)
  with_was ns None h = inl h
  with_was ns (Some a) h = elim (was_held ns a n h) [ inl k ↦ inl k | inr e ↦ inr (ap Some e) ]

  mutual
    stays : (e : Expr) (ns : List ℕ) → Holds ns n → Holds (needs_after f ns e) n
    stays (Literal width value) ns h = h
    stays (Named name) ns h = with_held ns (f name) n h
    stays (Select name high low) ns h = with_held ns (f name) n h
    stays (Cell name index) ns h = stays index ns h
    stays (Not inner) ns h = stays inner ns h
    stays (Join parts) ns h = stay parts ns h
    stays (Binary sign left right) ns h = stays right (needs_after f ns left) (stays left ns h)
    stays (Choice test first second) ns h = stays second (needs_after f (needs_after f ns test) first) (stays first (needs_after f ns test) (stays test ns h))

    stay : (es : Exprs) (ns : List ℕ) → Holds ns n → Holds (needs_after_parts f ns es) n
    stay NoPart ns h = h
    stay (Part e es) ns h = stay es (needs_after f ns e) (stays e ns h)

  -- the number of a name that is mentioned is listed
  module _ (y : List ℕ) (q : f y ≡ Some n) where
    mutual
      pub listed : (e : Expr) (ns : List ℕ) → Mentions e y → Holds (needs_after f ns e) n
      listed (Literal width value) ns h = absurd h
      listed (Named name) ns h = with_it ns (f name) n (ap f h ∙ q)
      listed (Select name high low) ns h = with_it ns (f name) n (ap f h ∙ q)
      listed (Cell name index) ns h = listed index ns h
      listed (Not inner) ns h = listed inner ns h
      listed (Join parts) ns h = part_listed parts ns h
      listed (Binary sign left right) ns (inl h) = stays right (needs_after f ns left) (listed left ns h)
      listed (Binary sign left right) ns (inr h) = listed right (needs_after f ns left) h
      listed (Choice test first second) ns (inl h) =
          stays second (needs_after f (needs_after f ns test) first) (stays first (needs_after f ns test) (listed test ns h))
      listed (Choice test first second) ns (inr (inl h)) = stays second (needs_after f (needs_after f ns test) first) (listed first (needs_after f ns test) h)
      listed (Choice test first second) ns (inr (inr h)) = listed second (needs_after f (needs_after f ns test) first) h

      part_listed : (es : Exprs) (ns : List ℕ) → MentionsPart es y → Holds (needs_after_parts f ns es) n
      part_listed NoPart ns h = absurd h
      part_listed (Part e es) ns (inl h) = stay es (needs_after f ns e) (listed e ns h)
      part_listed (Part e es) ns (inr h) = part_listed es (needs_after f ns e) h

  -- what is listed is the number of a name that is mentioned
  mutual
    pub mentioned : (e : Expr) (ns : List ℕ) → Holds (needs_after f ns e) n → Holds ns n ⊎ ((y : List ℕ) × (Mentions e y × (f y ≡ Some n)))
    mentioned (Literal width value) ns h = inl h
    mentioned (Named name) ns h = elim (with_was ns (f name) h) [ inl k ↦ inl k | inr e ↦ inr (name, (refl, e)) ]
    mentioned (Select name high low) ns h = elim (with_was ns (f name) h) [ inl k ↦ inl k | inr e ↦ inr (name, (refl, e)) ]
    mentioned (Cell name index) ns h = mentioned index ns h
    mentioned (Not inner) ns h = mentioned inner ns h
    mentioned (Join parts) ns h = part_mentioned parts ns h
    mentioned (Binary sign left right) ns h = elim (mentioned right (needs_after f ns left) h) [
      | inl k ↦ elim (mentioned left ns k) [
        | inl j ↦ inl j
        | inr m ↦ inr (m.0, (inl m.1.0, m.1.1))
      ]
      | inr m ↦ inr (m.0, (inr m.1.0, m.1.1))
    ]
    mentioned (Choice test first second) ns h = elim (mentioned second (needs_after f (needs_after f ns test) first) h) [
      | inl k ↦ elim (mentioned first (needs_after f ns test) k) [
        | inl j ↦ elim (mentioned test ns j) [
          | inl i ↦ inl i
          | inr m ↦ inr (m.0, (inl m.1.0, m.1.1))
        ]
        | inr m ↦ inr (m.0, (inr (inl m.1.0), m.1.1))
      ]
      | inr m ↦ inr (m.0, (inr (inr m.1.0), m.1.1))
    ]

    part_mentioned : (es : Exprs) (ns : List ℕ) → Holds (needs_after_parts f ns es) n → Holds ns n ⊎ ((y : List ℕ) × (MentionsPart es y × (f y ≡ Some n)))
    part_mentioned NoPart ns h = inl h
    part_mentioned (Part e es) ns h = elim (part_mentioned es (needs_after f ns e) h) [
      | inl k ↦ elim (mentioned e ns k) [
        | inl j ↦ inl j
        | inr m ↦ inr (m.0, (inl m.1.0, m.1.1))
      ]
      | inr m ↦ inr (m.0, (inr m.1.0, m.1.1))
    ]

pub edges_length : (f : List ℕ → Option ℕ) (items : List Item) → length (edges_in f items) ≡ length items
edges_length f [] = refl
edges_length f (i ∷ is) = ap suc (edges_length f is)

pub edges_at : (f : List ℕ → Option ℕ) (items : List Item) (k : ℕ) → get_or (edges_in f items) k [] ≡ needs_of f (drive_at items k)
edges_at f [] k = refl
edges_at f (i ∷ is) zero = refl
edges_at f (i ∷ is) (suc k) = edges_at f is k
