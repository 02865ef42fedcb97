-- A module is ordered where each driver names only what is driven before it, and registers and inputs.
-- The test computes, so that for a given module it is shown by `refl`.
use Rattle.std.proofs.Common.{◌≡◌, ℕ, suc, ◌+◌, ◌<◌, ◌≤◌, Bool, true, false, ltb, List, [], ◌∷◌, ◌&&◌, length, Option, Some, None, inl, inr, refl, ap, subst, arith}
use Rattle.std.proofs.lemmas.Bool.Decides.{nat_tests}
use Rattle.std.specs.Cmp.Lexicographic.{same_text}
use Rattle.core_words.specs.Names.{same_name}
use Rattle.verilog_mean.specs.Look.{pick, pick_if, look, or_else}
use Rattle.verilog_mean.specs.Plain.{Expr, Exprs, Item, Port, Plain}
use Rattle.verilog_mean.specs.Plain.Expr.{Literal, Named, Select, Cell, Not, Join, Binary, Choice}
use Rattle.verilog_mean.specs.Plain.Exprs.{NoPart, Part}
use Rattle.verilog_mean.specs.Plain.Port.{In, Out}
use Rattle.verilog_mean.specs.Cycle.{Source, item_source, port_source, source_of}
use Rattle.verilog_mean.specs.Cycle.Source.{Nowhere, Outside, Held, Driven}
use Rattle.verilog_mean.specs.Loops.{Mentions, MentionsPart}
use Rattle.verilog_mean.specs.Order.{IsRanked}

-- ---- the test

-- each name of an expression passes a test
abbrev mutual
  pub names_pass : (p : List ℕ → Bool) → Expr → Bool
  names_pass p (Literal width value) = true
  names_pass p (Named name) = p name
  names_pass p (Select name high low) = p name
  names_pass p (Cell name index) = names_pass p index
  names_pass p (Not inner) = names_pass p inner
  names_pass p (Join parts) = parts_pass p parts
  names_pass p (Binary s left right) = names_pass p left && names_pass p right
  names_pass p (Choice test first second) = names_pass p test && (names_pass p first && names_pass p second)

  pub parts_pass : (p : List ℕ → Bool) → Exprs → Bool
  parts_pass p NoPart = true
  parts_pass p (Part part parts) = names_pass p part && parts_pass p parts

-- each name of what drives x has a smaller rank than x
abbrev pub is_lower : (rank : List ℕ → ℕ) → (x : List ℕ) → Source → Bool
is_lower rank x Nowhere = true
is_lower rank x Outside = true
is_lower rank x Held = true
is_lower rank x (Driven e) = names_pass (λ y. ltb (rank y) (rank x)) e

abbrev pub gives_lower : (rank : List ℕ → ℕ) → Option (List ℕ × Source) → Bool
gives_lower rank None = true
gives_lower rank (Some p) = is_lower rank p.0 p.1

abbrev pub all_lower : (rank : List ℕ → ℕ) → List Item → Bool
all_lower rank [] = true
all_lower rank (i ∷ rest) = gives_lower rank (item_source i) && all_lower rank rest

-- the rank of what a thing at a place gives its value to: the place counted from 1 for a driver, else 0
abbrev pub place_of : (place : ℕ) → Source → ℕ
place_of place Nowhere = 0
place_of place Outside = 0
place_of place Held = 0
place_of place (Driven e) = suc place

abbrev pub rank_at : (place : ℕ) → Option (List ℕ × Source) → List ℕ → (later : ℕ) → ℕ
rank_at place None x later = later
rank_at place (Some p) x later = elim (same_name p.0 x) [ true ↦ place_of place p.1 | false ↦ later ]

abbrev pub rank_in : (place : ℕ) → List Item → List ℕ → ℕ
rank_in place [] x = 0
rank_in place (i ∷ rest) x = rank_at place (item_source i) x (rank_in (suc place) rest x)

-- the place of what drives a name among the items
abbrev pub rank_of : Plain → List ℕ → ℕ
rank_of m x = rank_in 0 m.items x

abbrev pub ordered : Plain → Bool
ordered m = all_lower (rank_of m) m.items

-- ---- what the test tells

both_left : (a b : Bool) → (a && b) ≡ true → a ≡ true
both_left true b h = refl
both_left false b h = h

both_right : (a b : Bool) → (a && b) ≡ true → b ≡ true
both_right true b h = h
both_right false b h = absurd (grind arith)

module _ (p : List ℕ → Bool) (y : List ℕ) where
  mutual
    name_passes : (e : Expr) → names_pass p e ≡ true → Mentions e y → p y ≡ true
    name_passes (Literal width value) h q = absurd q
    name_passes (Named name) h q = subst (λ n. p n ≡ true) q h
    name_passes (Select name high low) h q = subst (λ n. p n ≡ true) q h
    name_passes (Cell name index) h q = name_passes index h q
    name_passes (Not inner) h q = name_passes inner h q
    name_passes (Join parts) h q = part_passes parts h q
    name_passes (Binary s left right) h (inl q) = name_passes left (both_left _ _ h) q
    name_passes (Binary s left right) h (inr q) = name_passes right (both_right _ _ h) q
    name_passes (Choice test first second) h (inl q) = name_passes test (both_left _ _ h) q
    name_passes (Choice test first second) h (inr (inl q)) = name_passes first (both_left _ _ (both_right _ _ h)) q
    name_passes (Choice test first second) h (inr (inr q)) = name_passes second (both_right _ _ (both_right _ _ h)) q

    part_passes : (parts : Exprs) → parts_pass p parts ≡ true → MentionsPart parts y → p y ≡ true
    part_passes NoPart h q = absurd q
    part_passes (Part part parts) h (inl q) = name_passes part (both_left _ _ h) q
    part_passes (Part part parts) h (inr q) = part_passes parts (both_right _ _ h) q

module _ (rank : List ℕ → ℕ) (x y : List ℕ) (e : Expr) (q : Mentions e y) where
  here_lower : (name : List ℕ) (s : Source) → is_lower rank name s ≡ true → s ≡ Driven e → name ≡ x → rank y < rank x
  here_lower name s h d n =
      let a : is_lower rank x (Driven e) ≡ true = subst (λ z. is_lower rank z (Driven e) ≡ true) n (subst (λ z. is_lower rank name z ≡ true) d h) in
      let b : ltb (rank y) (rank x) ≡ true = name_passes (λ z. ltb (rank z) (rank x)) y e a q in
      grind (arith, nat_tests)

  if_lower : (name : List ℕ) (s : Source) (rest : Option Source) → is_lower rank name s ≡ true → (rest ≡ Some (Driven e) → rank y < rank x)
      → (b : Bool) → b ≡ same_name name x → pick_if b s rest ≡ Some (Driven e) → rank y < rank x
  if_lower name s rest h later true t d = here_lower name s h (let k : s ≡ Driven e = cc in k) (same_text name x t)
  if_lower name s rest h later false t d = later d

  pick_lower : (o : Option (List ℕ × Source)) (rest : Option Source) → gives_lower rank o ≡ true
      → (rest ≡ Some (Driven e) → rank y < rank x)
      → pick o x rest ≡ Some (Driven e) → rank y < rank x
  pick_lower None rest h later d = later d
  pick_lower (Some p) rest h later d = if_lower p.0 p.1 rest h later (same_name p.0 x) refl d

  item_lower : (items : List Item) → all_lower rank items ≡ true → look item_source items x ≡ Some (Driven e) → rank y < rank x
  item_lower [] h d = absurd (grind arith)
  item_lower (i ∷ rest) h d = pick_lower (item_source i) (look item_source rest x) (both_left _ _ h) (item_lower rest (both_right _ _ h)) d

  from_items : (o : Option Source) → or_else o Nowhere ≡ Driven e → o ≡ Some (Driven e)
  from_items None d = absurd (grind arith)
  from_items (Some s) d = ap Some d

  -- a port that the outside drives has no driver
  if_port : (rest : Option Source) (s : Source) → (or_else rest s ≡ Driven e → s ≡ Driven e) → (b : Bool)
      → or_else (pick_if b Outside rest) s ≡ Driven e → s ≡ Driven e
  if_port rest s later true d = absurd (grind arith)
  if_port rest s later false d = later d

  from_ports : (ports : List Port) (s : Source) → or_else (look port_source ports x) s ≡ Driven e → s ≡ Driven e
  from_ports [] s d = d
  from_ports (In width name ∷ rest) s d = if_port (look port_source rest x) s (from_ports rest s) (same_name name x) d
  from_ports (Out width name ∷ rest) s d = from_ports rest s d

-- any rank by which the items pass the test
pub lower_by : (m : Plain) (rank : List ℕ → ℕ) → all_lower rank m.items ≡ true → (x y : List ℕ) (e : Expr) → source_of m x ≡ Driven e
    → Mentions e y → rank y < rank x
lower_by m rank h x y e d q =
    item_lower rank x y e q m.items h
    (from_items rank x y e q (look item_source m.items x) (from_ports rank x y e q m.ports (or_else (look item_source m.items x) Nowhere) d))

place_of_le : (place n : ℕ) (s : Source) → place_of place s ≤ place + suc n
place_of_le place n Nowhere = omega arith
place_of_le place n Outside = omega arith
place_of_le place n Held = omega arith
place_of_le place n (Driven e) = omega arith

rank_at_le : (place n : ℕ) (o : Option (List ℕ × Source)) (x : List ℕ) (later : ℕ) → later ≤ suc place + n
    → rank_at place o x later ≤ place + suc n
rank_at_le place n None x later h = omega arith
rank_at_le place n (Some p) x later h = one (same_name p.0 x)
  where
    one : (b : Bool) → (elim b [ true ↦ place_of place p.1 | false ↦ later ]) ≤ place + suc n
    one true = place_of_le place n p.1
    one false = omega arith

rank_in_le : (place : ℕ) (items : List Item) (x : List ℕ) → rank_in place items x ≤ place + length items
rank_in_le place [] x = omega arith
rank_in_le place (i ∷ rest) x = rank_at_le place (length rest) (item_source i) x (rank_in (suc place) rest x) (rank_in_le (suc place) rest x)

pub ordered_is_ranked : (m : Plain) → ordered m ≡ true → IsRanked m (rank_of m)
ordered_is_ranked m h = record {
  lower = lower_by m (rank_of m) h;
  small = λ x. let k : rank_in 0 m.items x ≤ 0 + length m.items = rank_in_le 0 m.items x in omega arith;
}
