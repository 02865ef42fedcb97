-- What the second call finds: the two forward wires that the first one made, and the outputs of RegFile.
use Rattle.std.specs.Prelude.{◌≡◌, ℕ, ◌<◌, false, List, [], ◌∷◌, length, None, Some}
use Rattle.hw_module.specs.declared.rows.Owner.TheVariants.{Entry}
use Rattle.hw_module.specs.declared.rows.WireRow.{WireRow}
use Rattle.hw_module.specs.Rows.{wire_at}
use Rattle.service_reg.specs.declared.service.Service.TheVariants.{RegFile}
use Rattle.service_ports.specs.Registry.{Offered, single}
use Rattle.plug_part.specs.Owned.{is_own_input}
use Rattle.plug_build.specs.World.{World}
use Rattle.plug_build.specs.Fits.{IsOutput}
use Rattle.plug_hazard.specs.declared.find.Found.{Found}

-- a forward wire of 32 bits and level 3 without a driver
abbrev pub plain_row : (e : ℕ) → WireRow
plain_row e = record { owner = Entry e; width = 32; level = 3; driver = None }

pub record IsFound (e : ℕ) (w : World) (f : Found) : Type 0 where
  pub there_a : f.wire_a < length w.design.wires
  pub there_b : f.wire_b < length w.design.wires
  pub row_a : wire_at w.design.wires f.wire_a ≡ plain_row e
  pub row_b : wire_at w.design.wires f.wire_b ≡ plain_row e
  pub free_a : is_own_input w.reg e f.wire_a ≡ false
  pub free_b : is_own_input w.reg e f.wire_b ≡ false
  pub differ : f.wire_b ≡ f.wire_a → ⊥
  pub regs : Offered
  pub offered : single w.reg RegFile ≡ Some regs
  pub outputs : regs.ports.outputs ≡ f.a ∷ f.b ∷ []
  pub a : IsOutput w.design w.pool 2 32 f.a
  pub b : IsOutput w.design w.pool 2 32 f.b
