-- A name that is bound to its driver's node has its value.
use Rattle.std.proofs.Common.{◌≡◌, ℕ, ◌^◌, ◌<◌, ◌⊎◌, inl, inr, Bool, true, false, List, Result, Ok, Err, IfOk, sym, ◌∙◌, subst, refl}
use Rattle.std.specs.Cmp.Lexicographic.{same_text}
use Rattle.core_words.specs.Names.{same_name}
use Rattle.verilog_mean.specs.Plain.{Expr}
use Rattle.verilog_mean.specs.Cycle.{eval, width_of}
use Rattle.verilog_flat.specs.declared.node.Node.{Node}
use Rattle.verilog_resolve.specs.declared.names.Place.{Place}
use Rattle.verilog_resolve.specs.declared.names.Place.TheVariants.{Net}
use Rattle.verilog_resolve.specs.Names.{IsIn}
use Rattle.verilog_resolve.specs.Flat.{Grown, flat}
use Rattle.verilog_resolve.specs.Fine.{IsFine}
use Rattle.verilog_resolve.specs.Means.{Matches, Means}
use Rattle.verilog_resolve.proofs.Means.{keep_place, flat_means}

module _ (regs cells ins : List ℕ) (w : List ℕ → ℕ) (arrays : List ℕ → List ℕ) (val : List ℕ → ℕ) where
  pub bound : (p q : List ℕ → Place) (ns : List Node) (x : List ℕ) (e : Expr) (g : Grown) → Means regs cells ins w arrays val ns e g
      → w x ≡ width_of w e → val x ≡ eval w arrays val e → q x ≡ Net g.at g.width → ((y : List ℕ) → (y ≡ x) ⊎ (q y ≡ p y))
      → ((y : List ℕ) → Matches regs cells ins w arrays val ns y (p y)) → (y : List ℕ) → Matches regs cells ins w arrays val g.nodes y (q y)
  bound p q ns x e g i wide value there others m y =
      elim (others y) [
        | inl s ↦ subst (λ z. Matches regs cells ins w arrays val g.nodes z (q z)) (sym s)
            (subst (λ u. Matches regs cells ins w arrays val g.nodes x u) (sym there)
            (i.within, i.width ∙ sym wide, i.narrow, i.is ∙ sym value, subst (λ v. v < 2 ^ g.width) (sym value) i.bound))
        | inr s ↦ subst (λ u. Matches regs cells ins w arrays val g.nodes y u) (sym s) (keep_place regs cells ins w arrays val ns g.nodes y (p y) i.longer i.keeps (m y))
      ]

pub split_on : (b : Bool) → (b ≡ true) ⊎ (b ≡ false)
split_on true = inl refl
split_on false = inr refl

-- a name that is bound to the node of its driver
pub bind_means : (regs cells ins : List ℕ) (w : List ℕ → ℕ) (arrays : List ℕ → List ℕ) (val : List ℕ → ℕ) (p q : List ℕ → Place) (ns : List Node) (x : List ℕ) (e : Expr) (g : Grown)
    → Means regs cells ins w arrays val ns e g → w x ≡ width_of w e → val x ≡ eval w arrays val e → q x ≡ Net g.at g.width → ((y : List ℕ) → same_name x y ≡ false → q y ≡ p y)
    → ((y : List ℕ) → Matches regs cells ins w arrays val ns y (p y)) → (y : List ℕ) → Matches regs cells ins w arrays val g.nodes y (q y)
bind_means regs cells ins w arrays val p q ns x e g i wide value there others m =
    bound regs cells ins w arrays val p q ns x e g i wide value there
    (λ y. elim (split_on (same_name x y)) [ inl s ↦ inl (sym (same_text x y (sym s))) | inr s ↦ inr (others y s) ]) m

-- an expression's nodes, as they were computed
pub flat_is : (regs cells ins : List ℕ) (w : List ℕ → ℕ) (arrays : List ℕ → List ℕ) (val : List ℕ → ℕ) (p : List ℕ → Place) (ns : List Node) (e : Expr) (g : Grown)
    → flat p e ns ≡ g → IsFine p e → ((x : List ℕ) → Matches regs cells ins w arrays val ns x (p x)) → Means regs cells ins w arrays val ns e g
flat_is regs cells ins w arrays val p ns e g f fine m =
    subst (λ k. Means regs cells ins w arrays val ns e k) f (flat_means regs cells ins w arrays val p e ns fine m)

pub map_ok : {A : Type 0} {E : Type 0} (P Q : A → Type 0) → ((a : A) → P a → Q a) → (r : Result A E) → IfOk r P → IfOk r Q
map_ok P Q f (Ok a) h = f a h
map_ok P Q f (Err e) h = tt

-- what holds for the name that is bound, and for the places of the others, holds for each name
pub bind_in : (nodes cells : ℕ) (p q : List ℕ → Place) (x : List ℕ) (place : Place) → q x ≡ place → IsIn nodes cells place
    → ((y : List ℕ) → same_name x y ≡ false → q y ≡ p y) → ((y : List ℕ) → IsIn nodes cells (p y)) → (y : List ℕ) → IsIn nodes cells (q y)
bind_in nodes cells p q x place there here others m y =
    elim (split_on (same_name x y)) [
      | inl s ↦ subst (λ z. IsIn nodes cells (q z)) (same_text x y (sym s)) (subst (λ u. IsIn nodes cells u) (sym there) here)
      | inr s ↦ subst (λ u. IsIn nodes cells u) (sym (others y s)) (m y)
    ]
