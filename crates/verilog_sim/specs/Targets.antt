-- What is known of all names of a module, by their declarations.
use Rattle.std.specs.Prelude.{ℕ, List, Option, Some, None}
use Rattle.verilog_mean.specs.declared.class.Class.{Class}
use Rattle.verilog_mean.specs.declared.class.Class.TheVariants as class
use Rattle.verilog_mean.specs.Erase.{range_width}
use Rattle.verilog_mean.specs.Declarations.{Declaration, declaration_of}
use Rattle.verilog_resolve.specs.declared.names.Place.{Place}
use Rattle.verilog_resolve.specs.declared.names.Place.TheVariants.{Absent, Net, Array}

abbrev pub class_place : Class → (width : ℕ) → Place
class_place (class.Array cells) width = Array 0 0 width
class_place class.Input width = Net 0 width
class_place class.Output width = Net 0 width
class_place (class.Wired inline) width = Net 0 width
class_place class.Register width = Net 0 width

abbrev pub declared_place : Option Declaration → Place
declared_place None = Absent
declared_place (Some d) = class_place d.class (range_width d.range)

-- the kind and the width of each name
abbrev pub target : List Declaration → List ℕ → Place
target ds x = declared_place (declaration_of ds x)
