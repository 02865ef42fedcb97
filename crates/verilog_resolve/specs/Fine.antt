-- Expressions that may become nodes: their names have places, and their widths agree.
use Rattle.std.specs.Prelude.{◌≡◌, ℕ, ◌+◌, ◌^◌, ◌<◌, ◌≤◌, List, Option, Some, None}
use Rattle.verilog_mean.specs.Plain.{Expr, Exprs}
use Rattle.verilog_mean.specs.Plain.Expr.{Literal, Named, Select, Cell, Not, Join, Binary, Choice}
use Rattle.verilog_mean.specs.Plain.Exprs.{NoPart, Part}
use Rattle.verilog_mean.specs.Cycle.{width_of, width_of_parts}
use Rattle.verilog_resolve.specs.declared.expr.Operand.{Operand}
use Rattle.verilog_resolve.specs.declared.names.Place.{Place}
use Rattle.verilog_resolve.specs.Names.{place_width, IsNet, IsArray}

-- the width of an expression by the places of its names
abbrev pub wide : (p : List ℕ → Place) → Expr → ℕ
wide p e = width_of (λ x. place_width (p x)) e

abbrev pub wide_parts : (p : List ℕ → Place) → Exprs → ℕ
wide_parts p parts = width_of_parts (λ x. place_width (p x)) parts

-- there is a part
abbrev pub HasPart : Exprs → Type 0
HasPart NoPart = ⊥
HasPart (Part e es) = Unit {0}

abbrev mutual
  pub IsFine : (p : List ℕ → Place) → Expr → Type 0
  IsFine p (Literal width value) = (width ≤ 64) × (value < 2 ^ width)
  IsFine p (Named x) = IsNet (p x)
  IsFine p (Select x high low) = IsNet (p x) × (low ≤ high) × (high < 64)
  IsFine p (Cell x index) = IsArray (p x) × IsFine p index
  IsFine p (Not inner) = IsFine p inner
  IsFine p (Join parts) = HasPart parts × (AreFine p parts × (wide_parts p parts ≤ 64))
  IsFine p (Binary s left right) = IsFine p left × (IsFine p right × (wide p left ≡ wide p right))
  IsFine p (Choice test first second) = IsFine p test × (IsFine p first × (IsFine p second × (wide p first ≡ wide p second)))

  -- each part of a join is fine and has a bit
  pub AreFine : (p : List ℕ → Place) → Exprs → Type 0
  AreFine p NoPart = Unit {0}
  AreFine p (Part e es) = (0 < wide p e) × (IsFine p e × AreFine p es)

-- an operand is one of so many nodes, and at most 64 bits wide
abbrev pub IsOperand : (nodes : ℕ) → Operand → Type 0
IsOperand nodes f = (f.at < nodes) × (f.width ≤ 64)

-- the parts of a join so far, where there are some, and the bits left for the others
abbrev pub IsBegun : (nodes rest : ℕ) → Option Operand → Type 0
IsBegun nodes rest None = rest ≤ 64
IsBegun nodes rest (Some f) = (f.at < nodes) × (0 < f.width) × (f.width + rest ≤ 64)

-- a join has a part so far or one to come
abbrev pub HasOperand : Option Operand → Exprs → Type 0
HasOperand None rest = HasPart rest
HasOperand (Some f) rest = Unit {0}

-- the bits of the parts so far
abbrev pub begun_width : Option Operand → ℕ
begun_width None = 0
begun_width (Some f) = f.width
