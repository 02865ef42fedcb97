-- The equation of each name of a ranked module: a driven name has the value of its driver.
use Rattle.std.proofs.Common.{◌≡◌, ℕ, zero, suc, ◌<◌, ◌≤◌, List, length, get_or, inl, inr, refl, ap, ◌∙◌, arith}
use Rattle.core_words.specs.Values.{not_of, bits_of, choose, join_of}
use Rattle.verilog_mean.specs.Plain.{Expr, Exprs, Plain}
use Rattle.verilog_mean.specs.Plain.Expr.{Literal, Named, Select, Cell, Not, Join, Binary, Choice}
use Rattle.verilog_mean.specs.Plain.Exprs.{NoPart, Part}
use Rattle.verilog_mean.specs.Cycle.{State, Source, width_in, width_of, width_of_parts, sign_value, eval, eval_parts, source_of, from_source, value_to, value}
use Rattle.verilog_mean.specs.Cycle.Source.{Nowhere, Outside, Held, Driven}
use Rattle.verilog_mean.specs.Loops.{Mentions, MentionsPart}
use Rattle.verilog_mean.specs.Order.{IsRanked}

-- the value of an expression depends on the values of its names alone
module _ (w : List ℕ → ℕ) (cells : List ℕ → List ℕ) (f g : List ℕ → ℕ) where
  mutual
    pub eval-same : (e : Expr) → ((y : List ℕ) → Mentions e y → f y ≡ g y) → eval w cells f e ≡ eval w cells g e
    eval-same (Literal width value) h = refl
    eval-same (Named name) h = h name refl
    eval-same (Select name high low) h = ap (λ v. bits_of v high low) (h name refl)
    eval-same (Cell name index) h = ap (λ v. get_or (cells name) v 0) (eval-same index h)
    eval-same (Not inner) h = ap (not_of (width_of w inner)) (eval-same inner h)
    eval-same (Join parts) h = parts-same parts h
    eval-same (Binary s left right) h =
        ap (λ v. sign_value s (width_of w left) v (eval w cells f right)) (eval-same left (λ y q. h y (inl q)))
        ∙ ap (sign_value s (width_of w left) (eval w cells g left)) (eval-same right (λ y q. h y (inr q)))
    eval-same (Choice test first second) h =
        ap (λ v. choose v (eval w cells f first) (eval w cells f second)) (eval-same test (λ y q. h y (inl q)))
        ∙ ap (λ v. choose (eval w cells g test) v (eval w cells f second)) (eval-same first (λ y q. h y (inr (inl q))))
        ∙ ap (λ v. choose (eval w cells g test) (eval w cells g first) v) (eval-same second (λ y q. h y (inr (inr q))))

    parts-same : (parts : Exprs) → ((y : List ℕ) → MentionsPart parts y → f y ≡ g y)
        → eval_parts w cells f parts ≡ eval_parts w cells g parts
    parts-same NoPart h = refl
    parts-same (Part part NoPart) h = eval-same part (λ y q. h y (inl q))
    parts-same (Part part (Part next parts)) h =
        ap (λ v. join_of (width_of_parts w (Part next parts)) v (eval_parts w cells f (Part next parts))) (eval-same part (λ y q. h y (inl q)))
        ∙ ap (λ v. join_of (width_of_parts w (Part next parts)) (eval w cells g part) v) (parts-same (Part next parts) (λ y q. h y (inr q)))

module _ (m : Plain) (rank : List ℕ → ℕ) (ranked : IsRanked m rank) (s : State) (ins : List ℕ → ℕ) where
  same_source : (x : List ℕ) (f g : List ℕ → ℕ) → ((y : List ℕ) → rank y < rank x → f y ≡ g y)
      → (src : Source) → source_of m x ≡ src → from_source m s ins x f src ≡ from_source m s ins x g src
  same_source x f g agree Nowhere h = refl
  same_source x f g agree Outside h = refl
  same_source x f g agree Held h = refl
  same_source x f g agree (Driven e) h = eval-same (width_in m) s.cells f g e (λ y q. agree y (ranked.lower x y e h q))

  -- more depth than a name's rank gives the same value
  enough : (k : ℕ) (x : List ℕ) → rank x < k → value_to m s ins k x ≡ value_to m s ins (suc k) x
  unfolding value_to
  enough zero x h = absurd (omega arith)
  enough (suc k) x h = same_source x (value_to m s ins k) (value_to m s ins (suc k)) (λ y b. enough k y (omega arith)) (source_of m x) refl

  -- the one equation of each name: its value is what its source gives over the values of the same cycle
  pub value_is : (x : List ℕ) → value m s ins x ≡ from_source m s ins x (value m s ins) (source_of m x)
  unfolding value value_to
  value_is x =
      same_source x (value_to m s ins (length m.items)) (value_to m s ins (suc (length m.items)))
      (λ y b. enough (length m.items) y (let c : rank x ≤ length m.items = ranked.small x in omega arith)) (source_of m x) refl

  pub value_driven : (x : List ℕ) (e : Expr) → source_of m x ≡ Driven e → value m s ins x ≡ eval (width_in m) s.cells (value m s ins) e
  value_driven x e h = value_is x ∙ ap (from_source m s ins x (value m s ins)) h

-- the value of a register and that of an input, of any module
module _ (m : Plain) (s : State) (ins : List ℕ → ℕ) where
  pub value_held : (x : List ℕ) → source_of m x ≡ Held → value m s ins x ≡ s.regs x
  unfolding value value_to
  value_held x h = ap (from_source m s ins x (value_to m s ins (length m.items))) h

  pub value_outside : (x : List ℕ) → source_of m x ≡ Outside → value m s ins x ≡ ins x
  unfolding value value_to
  value_outside x h = ap (from_source m s ins x (value_to m s ins (length m.items))) h
