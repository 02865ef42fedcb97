-- Things of the pipeline: their rows as they are made, one behind the other.
use Rattle.std.specs.Prelude.{◌≡◌, ℕ, zero, suc, ◌+◌, ◌*◌, ◌<◌, List, [], ◌∷◌, length, map, None, Option, Some}
use Rattle.hw_pool.specs.Nodes.{IsWidth, PoolValue}
use Rattle.hw_module.specs.declared.rows.Owner.TheVariants.{Pipe}
use Rattle.hw_module.specs.declared.rows.WireRow.{WireRow}
use Rattle.hw_module.specs.declared.rows.RegRow.{RegRow}
use Rattle.hw_module.specs.Frame.{Grows}
use Rattle.hw_module.specs.Checked.{DriversFit}
use Rattle.hw_module.specs.Rights.{Rights, Makes}
use Rattle.hw_module.specs.Rows.{ModuleValue, IsReset, wire_at, reg_at}

-- a forward wire of one bit, and a register, that are the pipeline's and have no driver
abbrev pub bare_wire : (level : ℕ) → WireRow
bare_wire level = record { owner = Pipe; width = 1; level = level; driver = None }

abbrev pub bare_reg : ℕ × Option ℕ → RegRow
bare_reg x = record { owner = Pipe; width = x.0; reset = x.1; next = None }

-- the forward wires from a number on have these levels, and the registers these widths and resets
abbrev pub AreWires : ModuleValue → (first : ℕ) → List ℕ → Type 0
AreWires d k [] = Unit {0}
AreWires d k (l ∷ ls) = (wire_at d.wires k ≡ bare_wire l) × AreWires d (k + 1) ls

abbrev pub AreRegs : ModuleValue → (first : ℕ) → List (ℕ × Option ℕ) → Type 0
AreRegs d k [] = Unit {0}
AreRegs d k (x ∷ xs) = (reg_at d.regs k ≡ bare_reg x) × AreRegs d (k + 1) xs

-- widths and resets are in their ranges
abbrev pub AreShapes : List (ℕ × Option ℕ) → Type 0
AreShapes [] = Unit {0}
AreShapes (x ∷ xs) = IsWidth x.0 × IsReset x.0 x.1 × AreShapes xs

-- the same of what is driven or not: the forward wires from a number on have these widths and levels, and the registers these widths and
-- resets
abbrev pub WiresFrom : ModuleValue → (first : ℕ) → List (ℕ × ℕ) → Type 0
WiresFrom d k [] = Unit {0}
WiresFrom d k (x ∷ xs) = (k < length d.wires) × ((wire_at d.wires k).width ≡ x.0) × ((wire_at d.wires k).level ≡ x.1) × WiresFrom d (k + 1) xs

abbrev pub RegsFrom : ModuleValue → (first : ℕ) → List (ℕ × Option ℕ) → Type 0
RegsFrom d k [] = Unit {0}
RegsFrom d k (x ∷ xs) = (k < length d.regs) × ((reg_at d.regs k).width ≡ x.0) × ((reg_at d.regs k).reset ≡ x.1) × RegsFrom d (k + 1) xs

-- n forward wires come, n registers come, and all else stays
pub record AddsWires (old new : ModuleValue) (n : ℕ) : Type 0 where
  pub grows : Grows old new n
  pub count : length new.wires ≡ length old.wires + n
  pub before : (k : ℕ) → k < length old.wires → wire_at new.wires k ≡ wire_at old.wires k
  pub regs : new.regs ≡ old.regs
  pub arrays : new.arrays ≡ old.arrays
  pub outs : new.outs ≡ old.outs
  pub makes : (r : Rights) → Makes Pipe r old new n
  pub drivers : (pool : PoolValue) → DriversFit old pool → DriversFit new pool

pub record AddsRegs (old new : ModuleValue) (n : ℕ) : Type 0 where
  pub grows : Grows old new n
  pub count : length new.regs ≡ length old.regs + n
  pub before : (k : ℕ) → k < length old.regs → reg_at new.regs k ≡ reg_at old.regs k
  pub wires : new.wires ≡ old.wires
  pub arrays : new.arrays ≡ old.arrays
  pub outs : new.outs ≡ old.outs
  pub makes : (r : Rights) → Makes Pipe r old new n
  pub drivers : (pool : PoolValue) → DriversFit old pool → DriversFit new pool

-- ---- what the pipeline has

-- the levels of its forward wires
abbrev pub wire_levels : List ℕ
wire_levels = 1 ∷ 2 ∷ 3 ∷ 5 ∷ 6 ∷ 6 ∷ 7 ∷ 7 ∷ []

abbrev pub bits : List ℕ → List (ℕ × ℕ)
bits ls = map (λ l. (1, l)) ls

abbrev pub plain : (width : ℕ) → ℕ × Option ℕ
plain width = (width, None)

abbrev pub from_zero : ℕ × Option ℕ
from_zero = (1, Some 0)

-- the program's pc, flush, flush_fence, started, stopped and valid; then the item in front: pc, word, error, legal, row, except, writes,
-- a and b
abbrev pub own_shapes : (reset_pc : ℕ) → List (ℕ × Option ℕ)
own_shapes reset_pc =
    (32, Some reset_pc) ∷ from_zero ∷ from_zero ∷ from_zero ∷ from_zero ∷ from_zero
    ∷ plain 32 ∷ plain 32 ∷ plain 1 ∷ plain 1 ∷ plain 7 ∷ plain 1 ∷ plain 1 ∷ plain 32 ∷ plain 32 ∷ []

-- a bit for each unit
abbrev pub chosen_shapes : (units : ℕ) → List (ℕ × Option ℕ)
chosen_shapes zero = []
chosen_shapes (suc n) = plain 1 ∷ chosen_shapes n

-- for each place of the tail: whether a register is written, which one, and its value
abbrev pub tail_shapes : (places : ℕ) → List (ℕ × Option ℕ)
tail_shapes zero = []
tail_shapes (suc n) = from_zero ∷ plain 5 ∷ plain 32 ∷ tail_shapes n

-- the three registers of a place, from this one on
pub record PlaceRows (d : ModuleValue) (reg : ℕ) : Type 0 where
  pub writes : reg_at d.regs reg ≡ bare_reg from_zero
  pub rd : reg_at d.regs (reg + 1) ≡ bare_reg (plain 5)
  pub value : reg_at d.regs (reg + 2) ≡ bare_reg (plain 32)

-- the pipeline's things are made, and all else stays
pub record IsMade (old new : ModuleValue) (reset_pc units places : ℕ) : Type 0 where
  pub wires : AreWires new (length old.wires) wire_levels
  pub regs : AreRegs new (length old.regs) (own_shapes reset_pc)
  pub chosen : AreRegs new (length old.regs + 15) (chosen_shapes units)
  pub tail : AreRegs new (length old.regs + 15 + units) (tail_shapes places)
  pub more_wires : length new.wires ≡ length old.wires + 8
  pub more_regs : length new.regs ≡ length old.regs + 15 + units + 3 * places
  pub wires_before : (k : ℕ) → k < length old.wires → wire_at new.wires k ≡ wire_at old.wires k
  pub regs_before : (k : ℕ) → k < length old.regs → reg_at new.regs k ≡ reg_at old.regs k
  pub arrays : new.arrays ≡ old.arrays
  pub outs : new.outs ≡ old.outs
  pub makes : (r : Rights) → Makes Pipe r old new (23 + units + 3 * places)
  pub drivers : (pool : PoolValue) → DriversFit old pool → DriversFit new pool
