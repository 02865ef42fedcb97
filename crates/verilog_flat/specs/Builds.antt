-- Circuits in the making.
use Rattle.std.specs.Prelude.{◌≡◌}
use Rattle.verilog_flat.specs.declared.build.Build.{Build}

-- both have as many registers, cells and input ports
abbrev pub IsSameRoom : Build → Build → Type 0
IsSameRoom a b = (a.regs ≡ b.regs) × (a.cells ≡ b.cells) × (a.ins ≡ b.ins)
