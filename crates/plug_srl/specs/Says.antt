-- What the unit says of itself, and its value.
use Rattle.std.specs.Prelude.{ℕ, [], ◌∷◌, codes}
use Rattle.core_words.specs.Values.{bits_of}
use Rattle.hw_words.specs.Shifts.{shifted_of}
use Rattle.plug_api.specs.declared.spec.PlugSpec.{PlugSpec}
use Rattle.unit_parts.specs.Says.{unit_spec}

-- row 33 of the instruction table; at most 128 things
abbrev pub srl_spec : PlugSpec
srl_spec = unit_spec (codes "srl") (33 ∷ []) 128

-- a shifted right by the low five bits of b, with zeros above
abbrev pub srl_value : (word pc a b : ℕ) → ℕ
srl_value word pc a b = shifted_of (bits_of b 4 0) 0 a
