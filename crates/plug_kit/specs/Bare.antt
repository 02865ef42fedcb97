-- Parts without state.
use Rattle.std.specs.Prelude.{◌≡◌, ℕ, true, List, Some}
use Rattle.plug_part.specs.Part.{Part, PartWire, PartReg, PartArray}
use Rattle.plug_part.specs.Owned.{is_among}

-- the part has no forward wire but these, no register and no array
pub record IsBare (p : Part) (wires : List ℕ) : Type 0 where
  pub only : (k : ℕ) (row : PartWire) → p.wires k ≡ Some row → is_among k wires ≡ true
  pub regs : (k : ℕ) (row : PartReg) → p.regs k ≡ Some row → ⊥
  pub arrays : (k : ℕ) (row : PartArray) → p.arrays k ≡ Some row → ⊥
