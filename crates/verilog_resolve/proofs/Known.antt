-- Whether an expression is fine, and how wide it is, depends on the kinds and widths of names alone.
use Rattle.std.proofs.Common.{◌≡◌, ℕ, ◌<◌, ◌≤◌, Bool, true, false, cond, List, refl, ap, sym, ◌∙◌, subst}
use Rattle.core_words.specs.Names.{same_name}
use Rattle.std.specs.Cmp.Lexicographic.{same_text}
use Rattle.verilog_mean.specs.Plain.{Expr, Exprs}
use Rattle.verilog_mean.specs.Plain.Expr.{Literal, Named, Select, Cell, Not, Join, Binary, Choice}
use Rattle.verilog_mean.specs.Plain.Exprs.{NoPart, Part}
use Rattle.verilog_mean.specs.Cycle.{width_of, width_of_parts}
use Rattle.verilog_resolve.specs.declared.names.Place.{Place}
use Rattle.verilog_resolve.specs.declared.names.Place.TheVariants.{Absent, Net, Array}
use Rattle.verilog_resolve.specs.Names.{place_width, IsNet, IsArray}
use Rattle.verilog_resolve.specs.Fine.{IsFine, AreFine, wide}
use Rattle.verilog_resolve.specs.Wires.{bare, with_net}

bare_width : (a : Place) → place_width (bare a) ≡ place_width a
bare_width Absent = refl
bare_width (Net node width) = refl
bare_width (Array base size width) = refl

bare_net : (a : Place) → IsNet (bare a) → IsNet a
bare_net Absent h = h
bare_net (Net node width) h = tt
bare_net (Array base size width) h = h

bare_array : (a : Place) → IsArray (bare a) → IsArray a
bare_array Absent h = h
bare_array (Net node width) h = h
bare_array (Array base size width) h = tt

module _ (p : List ℕ → Place) where
  widths : ◌≡◌ {A = List ℕ → ℕ} (λ x. place_width (bare (p x))) (λ x. place_width (p x))
  widths = λ i x. bare_width (p x) i

  pub known_wide : (e : Expr) → wide (λ x. bare (p x)) e ≡ wide p e
  known_wide e = ap (λ w. width_of w e) widths

  mutual
    pub known_fine : (e : Expr) → IsFine (λ x. bare (p x)) e → IsFine p e
    known_fine (Literal width value) h = h
    known_fine (Named x) h = bare_net (p x) h
    known_fine (Select x high low) h = (bare_net (p x) h.0, h.1, h.2)
    known_fine (Cell x index) h = (bare_array (p x) h.0, known_fine index h.1)
    known_fine (Not inner) h = known_fine inner h
    known_fine (Join parts) h = (h.0, (known_parts parts h.1.0, subst (λ w. width_of_parts w parts ≤ 64) widths h.1.1))
    known_fine (Binary s left right) h =
        (known_fine left h.0, (known_fine right h.1.0, subst (λ w. width_of w left ≡ width_of w right) widths h.1.1))
    known_fine (Choice test first second) h =
        (known_fine test h.0, (known_fine first h.1.0, (known_fine second h.1.1.0, subst (λ w. width_of w first ≡ width_of w second) widths h.1.1.1)))

    known_parts : (es : Exprs) → AreFine (λ x. bare (p x)) es → AreFine p es
    known_parts NoPart h = tt
    known_parts (Part e es) h = (subst (λ w. 0 < width_of w e) widths h.0, (known_fine e h.1.0, known_parts es h.1.1))

-- what is known once a name is bound
pub known_next : (p q : List ℕ → Place) (x : List ℕ) (e : Expr) (at width : ℕ) → q x ≡ Net at width → width ≡ wide p e
    → ((y : List ℕ) → same_name x y ≡ false → q y ≡ p y)
    → ◌≡◌ {A = List ℕ → Place} (λ y. bare (q y)) (with_net (λ y. bare (p y)) x (wide (λ y. bare (p y)) e))
known_next p q x e at width there fits others = λ i y. one y (same_name x y) refl i
  where
    one : (y : List ℕ) (b : Bool) → same_name x y ≡ b → bare (q y) ≡ cond b (Net 0 (wide (λ y. bare (p y)) e)) (bare (p y))
    one y true h = ap (λ z. bare (q z)) (sym (same_text x y (sym h))) ∙ ap bare there ∙ ap (Net 0) (fits ∙ sym (known_wide p e))
    one y false h = ap bare (others y h)
