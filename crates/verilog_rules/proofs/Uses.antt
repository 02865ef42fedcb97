-- What a table says of the uses of a name.
use Rattle.std.proofs.Common.{◌≡◌, ◌↔◌, IsTrue, ℕ, Bool, true, false, List, Option, Some, None, sym, refl, ap}
use Rattle.std.specs.Cmp.Lexicographic.{bytes_decides}
use Rattle.core_words.specs.Names.{same_name}
use Rattle.verilog_rules.specs.declared.declare.Shape.{Shape}
use Rattle.verilog_rules.specs.declared.kinds.Use.{Use}
use Rattle.verilog_mean.specs.Declarations.{Declaration}
use Rattle.verilog_mean.specs.Kinds.{declared_passes}
use Rattle.verilog_rules.specs.Collected.{maybe_shape}
use Rattle.verilog_rules.specs.Uses.{allows_lem, shape_of}

pub passes_some : (u : Use) (o : Option Declaration) (s : Shape) → Some s ≡ maybe_shape o → allows_lem u s ≡ declared_passes (λ d. allows_lem u (shape_of d)) o
passes_some u None s h = cc
passes_some u (Some d) s h = let e : s ≡ shape_of d = cc in ap (allows_lem u) e

pub passes_none : (u : Use) (o : Option Declaration) → None ≡ maybe_shape o → true ≡ declared_passes (λ d. allows_lem u (shape_of d)) o
passes_none u None h = refl
passes_none u (Some d) h = cc

pub ruleset passes = (passes_some, passes_none)

pub is_same : (b : Bool) (x y : List ℕ) → (IsTrue b ↔ (x ≡ y)) → b ≡ same_name x y
is_same true x y h = sym ((bytes_decides x y).1 (h.0 refl))
is_same false x y h = other (same_name x y) refl
  where
    other : (c : Bool) → same_name x y ≡ c → false ≡ c
    other true e = let f : false ≡ true = h.1 ((bytes_decides x y).0 e) in f
    other false e = refl
