-- Ninth rule: no wire depends on itself. A wire depends on the names in its driver, those in an index too,
-- and on what they depend on. Registers and arrays are not followed.
use Rattle.std.specs.Prelude.{◌≡◌, ℕ, List, [], ◌∷◌, ◌⊎◌}
use Rattle.verilog_mean.specs.Plain.{Expr, Exprs, Plain}
use Rattle.verilog_mean.specs.Plain.Expr.{Literal, Named, Select, Cell, Not, Join, Binary, Choice}
use Rattle.verilog_mean.specs.Plain.Exprs.{NoPart, Part}
use Rattle.verilog_mean.specs.Declarations.{Declaration}
use Rattle.verilog_mean.specs.Cycle.{source_of}
use Rattle.verilog_mean.specs.Cycle.Source.{Driven}

-- an expression has a name, whose value it takes; an array's own name is not one of them
abbrev mutual
  pub Mentions : Expr → List ℕ → Type 0
  Mentions (Literal width value) y = ⊥
  Mentions (Named name) y = name ≡ y
  Mentions (Select name high low) y = name ≡ y
  Mentions (Cell name index) y = Mentions index y
  Mentions (Not inner) y = Mentions inner y
  Mentions (Join parts) y = MentionsPart parts y
  Mentions (Binary sign left right) y = Mentions left y ⊎ Mentions right y
  Mentions (Choice test first second) y = Mentions test y ⊎ (Mentions first y ⊎ Mentions second y)

  pub MentionsPart : Exprs → List ℕ → Type 0
  MentionsPart NoPart y = ⊥
  MentionsPart (Part part parts) y = Mentions part y ⊎ MentionsPart parts y

-- x has a driver that leads to y, in one step or in more
pub data Depends (m : Plain) : List ℕ → List ℕ → Type 0 where
  direct : {x y : List ℕ} {e : Expr} → source_of m x ≡ Driven e → Mentions e y → Depends m x y
  further : {x y z : List ℕ} → Depends m x y → Depends m y z → Depends m x z

abbrev pub HasNoLoop : Plain → Type 0
HasNoLoop m = (x : List ℕ) → Depends m x x → ⊥

-- a declared name depends on itself
abbrev pub LeadsBack : Plain → Declaration → Type 0
LeadsBack m d = Depends m d.name.text d.name.text

-- the place of the first declaration whose name does
abbrev pub FirstLoop : Plain → List Declaration → (at : ℕ) → Type 0
FirstLoop m [] at = ⊥
FirstLoop m (d ∷ ds) at = (LeadsBack m d × (at ≡ d.name.at)) ⊎ ((LeadsBack m d → ⊥) × FirstLoop m ds at)
