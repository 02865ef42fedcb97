-- The declarations that the checker collects.
use Rattle.std.specs.Prelude.{ℕ, List, Option, Some, None, map}
use Rattle.verilog_rules.specs.declared.declare.Declared.{Declared}
use Rattle.verilog_rules.specs.declared.declare.Shape.{Shape}
use Rattle.verilog_tree.specs.declared.expr.Ident.{Ident}
use denote.Bor.{Bor}
use Rattle.verilog_mean.specs.Declarations.{Declaration}

abbrev pub declaration : Declared → Declaration
declaration d = record { name = d.name.now; range = d.shape.range; class = d.shape.class }

abbrev pub maybe_declaration : Option Declared → Option Declaration
maybe_declaration None = None
maybe_declaration (Some d) = Some (declaration d)

-- a declaration in a table, which is found by its key
abbrev pub entry_declaration : Bor (List ℕ) × Declared → Declaration
entry_declaration e = record { name = record { at = e.1.name.now.at; text = e.0.now }; range = e.1.shape.range; class = e.1.shape.class }

abbrev pub maybe_shape : Option Declaration → Option Shape
maybe_shape None = None
maybe_shape (Some d) = Some (record { range = d.range; class = d.class })

abbrev pub shape_in : Option Declared → Option Shape
shape_in None = None
shape_in (Some d) = Some d.shape

abbrev pub names_of : List Declaration → List (List ℕ)
names_of ds = map (λ d. d.name.text) ds

abbrev pub maybe_ident : Option (Bor Ident) → Option Ident
maybe_ident None = None
maybe_ident (Some i) = Some i.now
