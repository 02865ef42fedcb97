-- Whether an expression may become nodes depends on the places of its names alone.
use Rattle.std.proofs.Common.{◌≡◌, ℕ, ◌+◌, ◌<◌, ◌≤◌, List, refl, ap, sym, ◌∙◌, subst, inl, inr}
use Rattle.verilog_mean.specs.Plain.{Expr, Exprs}
use Rattle.verilog_mean.specs.Plain.Expr.{Literal, Named, Select, Cell, Not, Join, Binary, Choice}
use Rattle.verilog_mean.specs.Plain.Exprs.{NoPart, Part}
use Rattle.verilog_mean.specs.Cycle.{sign_width}
use Rattle.verilog_mean.specs.Loops.{Mentions, MentionsPart}
use Rattle.verilog_resolve.specs.declared.names.Place.{Place}
use Rattle.verilog_resolve.specs.Names.{place_width, IsNet, IsArray}
use Rattle.verilog_resolve.specs.Fine.{IsFine, AreFine, wide, wide_parts}

module _ (g : List ℕ → Place) where
  mutual
    pub mention_net : (e : Expr) (y : List ℕ) → IsFine g e → Mentions e y → IsNet (g y)
    mention_net (Literal width value) y f q = absurd q
    mention_net (Named x) y f q = subst (λ z. IsNet (g z)) q f
    mention_net (Select x high low) y f q = subst (λ z. IsNet (g z)) q f.0
    mention_net (Cell x index) y f q = mention_net index y f.1 q
    mention_net (Not inner) y f q = mention_net inner y f q
    mention_net (Join parts) y f q = parts_net parts y f.1.0 q
    mention_net (Binary s left right) y f (inl q) = mention_net left y f.0 q
    mention_net (Binary s left right) y f (inr q) = mention_net right y f.1.0 q
    mention_net (Choice test first second) y f (inl q) = mention_net test y f.0 q
    mention_net (Choice test first second) y f (inr (inl q)) = mention_net first y f.1.0 q
    mention_net (Choice test first second) y f (inr (inr q)) = mention_net second y f.1.1.0 q

    parts_net : (es : Exprs) (y : List ℕ) → AreFine g es → MentionsPart es y → IsNet (g y)
    parts_net NoPart y f q = absurd q
    parts_net (Part e es) y f (inl q) = mention_net e y f.1.0 q
    parts_net (Part e es) y f (inr q) = parts_net es y f.1.1 q

  module _ (k : List ℕ → Place) (arrays : (y : List ℕ) → IsArray (g y) → k y ≡ g y) where
    mutual
      pub wide_when : (e : Expr) → ((y : List ℕ) → Mentions e y → k y ≡ g y) → IsFine g e → wide k e ≡ wide g e
      wide_when (Literal width value) a f = refl
      wide_when (Named x) a f = ap place_width (a x refl)
      wide_when (Select x high low) a f = refl
      wide_when (Cell x index) a f = ap place_width (arrays x f.0)
      wide_when (Not inner) a f = wide_when inner a f
      wide_when (Join parts) a f = parts_when parts a f.1.0
      wide_when (Binary s left right) a f = ap (sign_width s) (wide_when left (λ y q. a y (inl q)) f.0)
      wide_when (Choice test first second) a f = wide_when first (λ y q. a y (inr (inl q))) f.1.0

      parts_when : (es : Exprs) → ((y : List ℕ) → MentionsPart es y → k y ≡ g y) → AreFine g es → wide_parts k es ≡ wide_parts g es
      parts_when NoPart a f = refl
      parts_when (Part e es) a f = λ i. wide_when e (λ y q. a y (inl q)) f.1.0 i + parts_when es (λ y q. a y (inr q)) f.1.1 i

    mutual
      pub fine_when : (e : Expr) → ((y : List ℕ) → Mentions e y → k y ≡ g y) → IsFine g e → IsFine k e
      fine_when (Literal width value) a f = f
      fine_when (Named x) a f = subst IsNet (sym (a x refl)) f
      fine_when (Select x high low) a f = (subst IsNet (sym (a x refl)) f.0, f.1, f.2)
      fine_when (Cell x index) a f = (subst IsArray (sym (arrays x f.0)) f.0, fine_when index a f.1)
      fine_when (Not inner) a f = fine_when inner a f
      fine_when (Join parts) a f = (f.0, (fines_when parts a f.1.0, subst (λ v. v ≤ 64) (sym (parts_when parts a f.1.0)) f.1.1))
      fine_when (Binary s left right) a f =
          let l : (y : List ℕ) → Mentions left y → k y ≡ g y = λ y q. a y (inl q) in let r : (y : List ℕ) → Mentions right y → k y ≡ g y = λ y q. a y (inr q) in
          (fine_when left l f.0, (fine_when right r f.1.0, wide_when left l f.0 ∙ f.1.1 ∙ sym (wide_when right r f.1.0)))
      fine_when (Choice test first second) a f =
          let l : (y : List ℕ) → Mentions first y → k y ≡ g y = λ y q. a y (inr (inl q)) in let r : (y : List ℕ) → Mentions second y → k y ≡ g y = λ y q. a y (inr (inr q)) in
          (fine_when test (λ y q. a y (inl q)) f.0, (fine_when first l f.1.0, (fine_when second r f.1.1.0, wide_when first l f.1.0 ∙ f.1.1.1 ∙ sym (wide_when second r f.1.1.0))))

      fines_when : (es : Exprs) → ((y : List ℕ) → MentionsPart es y → k y ≡ g y) → AreFine g es → AreFine k es
      fines_when NoPart a f = tt
      fines_when (Part e es) a f =
          let l : (y : List ℕ) → Mentions e y → k y ≡ g y = λ y q. a y (inl q) in
          (subst (λ v. 0 < v) (sym (wide_when e l f.1.0)) f.0, (fine_when e l f.1.0, fines_when es (λ y q. a y (inr q)) f.1.1))
