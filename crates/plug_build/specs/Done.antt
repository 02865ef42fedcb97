-- What an entry has built before its first call, and what it has driven after each.
use Rattle.std.specs.Prelude.{◌≡◌, ℕ, ◌<◌, false, true, length, None}
use Rattle.hw_module.specs.declared.rows.Owner.TheVariants.{Entry}
use Rattle.hw_module.specs.Rows.{wire_at, reg_at, array_at, out_at}
use Rattle.service_reg.specs.declared.service.Service.{Service}
use Rattle.service_ports.specs.Registry.{offer_of}
use Rattle.plug_part.specs.Owned.{is_own_input, is_out_of, is_driven_by}
use Rattle.plug_build.specs.World.{World}

-- an entry owns nothing and offers nothing
pub record OwnsNothing (entry : ℕ) (w : World) : Type 0 where
  pub wires : (k : ℕ) → (wire_at w.design.wires k).owner ≡ Entry entry → ⊥
  pub regs : (k : ℕ) → (reg_at w.design.regs k).owner ≡ Entry entry → ⊥
  pub arrays : (k : ℕ) → (array_at w.design.arrays k).owner ≡ Entry entry → ⊥
  pub offers : (s : Service) → offer_of w.reg entry s ≡ None

-- the inputs of the services that an entry offers have no driver
abbrev pub AreOpen : (entry : ℕ) → World → Type 0
AreOpen entry w = (k : ℕ) → is_own_input w.reg entry k ≡ true → (wire_at w.design.wires k).driver ≡ None

-- what an entry owns is driven, the inputs of its services aside, and so are its outputs and the inputs of Predict where it
-- offers Fetch
pub record IsDone (entry : ℕ) (w : World) : Type 0 where
  pub wires : (k : ℕ) → k < length w.design.wires → (wire_at w.design.wires k).owner ≡ Entry entry → is_own_input w.reg entry k ≡ false → (wire_at w.design.wires k).driver ≡ None → ⊥
  pub regs : (k : ℕ) → k < length w.design.regs → (reg_at w.design.regs k).owner ≡ Entry entry → (reg_at w.design.regs k).next ≡ None → ⊥
  pub arrays : (k : ℕ) → k < length w.design.arrays → (array_at w.design.arrays k).owner ≡ Entry entry → (array_at w.design.arrays k).write ≡ None → ⊥
  pub outs : (p : ℕ) → is_out_of w.reg entry p ≡ true → out_at w.design.outs p ≡ None → ⊥
  pub drives : (k : ℕ) → is_driven_by w.reg entry k ≡ true → (wire_at w.design.wires k).driver ≡ None → ⊥
