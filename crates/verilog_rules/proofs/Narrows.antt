-- Widths of names and of indices in a table.
use Rattle.std.proofs.Common.{◌≡◌, Option, Some, None, refl, ap}
use Rattle.verilog_rules.specs.declared.declare.Shape.{Shape}
use Rattle.verilog_mean.specs.Erase.{range_width}
use Rattle.verilog_mean.specs.Declarations.{Declaration, declared_width, class_index_width, declared_index_width}
use Rattle.verilog_rules.specs.Collected.{maybe_shape}

pub width_found : (o : Option Declaration) (s : Shape) → Some s ≡ maybe_shape o → range_width s.range ≡ declared_width o
width_found None s h = cc
width_found (Some d) s h = let e : s.range ≡ d.range = cc in ap range_width e

pub width_none : (o : Option Declaration) → None ≡ maybe_shape o → 0 ≡ declared_width o
width_none None h = refl
width_none (Some d) h = cc

pub index_found : (o : Option Declaration) (s : Shape) → Some s ≡ maybe_shape o → class_index_width s.class ≡ declared_index_width o
index_found None s h = cc
index_found (Some d) s h = let e : s.class ≡ d.class = cc in ap class_index_width e

pub index_none : (o : Option Declaration) → None ≡ maybe_shape o → 0 ≡ declared_index_width o
index_none None h = refl
index_none (Some d) h = cc

pub ruleset index_widths = (index_found, index_none)
