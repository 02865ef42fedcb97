-- Values within the widths of a scope, and the scope of a part: its own things.
use Rattle.std.specs.Prelude.{◌≡◌, ℕ, ◌^◌, ◌<◌, cond, get_or, Option, None, Some}
use Rattle.hw_pool.specs.Meaning.{Env}
use Rattle.hw_pool.specs.Scope.{Scope}
use Rattle.hw_module.specs.Rows.{ModuleValue, wire_at, reg_at, array_at}
use Rattle.hw_module.specs.Scope.{input_width}
use Rattle.plug_part.specs.Part.{Part, PartWire, PartReg, PartArray}
use Rattle.plug_part.specs.Owned.{is_owner}

-- what stands at an input, a forward wire, a register or in a cell of a scope is below 2 ^ its width
pub record IsBounded (s : Scope) (env : Env) : Type 0 where
  pub inputs : (k width : ℕ) → s.inputs k ≡ Some width → env.inputs k < 2 ^ width
  pub wires : (k width level : ℕ) → s.wires k ≡ Some (width, level) → env.wires k < 2 ^ width
  pub regs : (k width : ℕ) → s.regs k ≡ Some width → env.regs k < 2 ^ width
  pub cells : (k width bits i : ℕ) → s.arrays k ≡ Some (width, bits) → get_or (env.cells k) i 0 < 2 ^ width

-- nothing, which bounds nothing
abbrev pub no_scope : Scope
no_scope = record { inputs = λ k. None; wires = λ k. None; regs = λ k. None; arrays = λ k. None }

-- the widths and levels of rows
abbrev pub wire_shape : Option PartWire → Option (ℕ × ℕ)
wire_shape None = None
wire_shape (Some row) = Some (row.width, row.level)

abbrev pub reg_shape : Option PartReg → Option ℕ
reg_shape None = None
reg_shape (Some row) = Some row.width

abbrev pub array_shape : Option PartArray → Option (ℕ × ℕ)
array_shape None = None
array_shape (Some row) = Some (row.width, row.bits)

-- the readable ports, and the part's forward wires, registers and arrays
abbrev pub part_scope : Part → Scope
part_scope p = record { inputs = input_width; wires = λ k. wire_shape (p.wires k); regs = λ k. reg_shape (p.regs k); arrays = λ k. array_shape (p.arrays k) }

-- the same of an entry, by the rows of a module
abbrev pub own_scope : (entry : ℕ) → ModuleValue → Scope
own_scope entry m = record {
  inputs = input_width;
  wires = λ k. cond (is_owner (wire_at m.wires k).owner entry) (Some ((wire_at m.wires k).width, (wire_at m.wires k).level)) None;
  regs = λ k. cond (is_owner (reg_at m.regs k).owner entry) (Some (reg_at m.regs k).width) None;
  arrays = λ k. cond (is_owner (array_at m.arrays k).owner entry) (Some ((array_at m.arrays k).width, (array_at m.arrays k).bits)) None;
}
