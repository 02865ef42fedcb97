-- A part of nothing.
use Rattle.std.specs.Prelude.{◌≡◌, ℕ, None}
use Rattle.service_reg.specs.declared.service.Service.{Service}
use Rattle.plug_part.specs.Part.{Part}

-- the part has no forward wire, register or array, and offers nothing
pub record IsIdle (p : Part) : Type 0 where
  pub wires : (k : ℕ) → p.wires k ≡ None
  pub regs : (k : ℕ) → p.regs k ≡ None
  pub arrays : (k : ℕ) → p.arrays k ≡ None
  pub offers : (s : Service) → p.offers s ≡ None
