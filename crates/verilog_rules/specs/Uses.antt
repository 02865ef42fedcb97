-- What a name may be used as, by its shape.
use Rattle.std.specs.Prelude.{Bool, not, ◌&&◌, is_some, List}
use Rattle.core_words.specs.Names.{same_name}
use Rattle.verilog_tree.specs.declared.expr.Ident.{Ident}
use Rattle.verilog_rules.specs.declared.declare.Shape.{Shape}
use Rattle.verilog_rules.specs.declared.kinds.Use.{Use}
use Rattle.verilog_rules.specs.declared.kinds.Use.TheVariants.{Read, Selected, Indexed, Stored, Assigned}
use Rattle.verilog_mean.specs.Declarations.{Declaration, declaration_of}
use Rattle.verilog_mean.specs.Kinds.{is_array, is_register, is_assignable, is_clock, declared_passes}

abbrev pub shape_of : Declaration → Shape
shape_of d = record { range = d.range; class = d.class }

abbrev pub allows_lem : Use → Shape → Bool
allows_lem Read s = not (is_array s.class)
allows_lem Selected s = not (is_array s.class) && is_some s.range
allows_lem Indexed s = is_array s.class
allows_lem Stored s = is_register s.class
allows_lem Assigned s = is_assignable s.class

-- a name that stands in an expression
abbrev pub named_use : List Declaration → Use → Ident → Bool
named_use ds u i = not (is_clock ds i) && declared_passes (λ d. allows_lem u (shape_of d)) (declaration_of ds i.text)

-- a name that is given a value
abbrev pub target_use : List Declaration → Use → Ident → Bool
target_use ds u i = declared_passes (λ d. allows_lem u (shape_of d)) (declaration_of ds i.text)

-- the second name of a reset
unfoldable pub may_reset : List Declaration → (before target : Ident) → Bool
may_reset ds before target = target_use ds Stored target && same_name before.text target.text
