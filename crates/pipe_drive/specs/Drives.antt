-- What is driven, by lists of numbers and nets.
use Rattle.std.specs.Prelude.{◌≡◌, ℕ, ◌+◌, ◌<◌, ◌≤◌, false, true, List, [], ◌∷◌, map, length, None, Some}
use Rattle.core_ports.specs.Ports.{is_input}
use Rattle.core_ports.specs.Ports as ports
use Rattle.hw_pool.specs.Nodes.{PoolValue}
use Rattle.hw_expr.specs.declared.net.Net.{Net}
use Rattle.hw_module.specs.Frame.{Grows}
use Rattle.hw_module.specs.Fits.{FitsIn}
use Rattle.hw_module.specs.declared.rows.Owner.TheVariants.{Pipe}
use Rattle.hw_module.specs.Ports.{port_at}
use Rattle.hw_module.specs.Rights.{Rights, MayDrive, Makes}
use Rattle.hw_module.specs.Rows.{ModuleValue, wire_at, reg_at, out_at}
use Rattle.plug_part.specs.Owned.{is_among}

-- the numbers that are driven
abbrev pub targets : List (ℕ × Net) → List ℕ
targets xs = map (λ x. x.0) xs

-- ---- forward wires

-- a forward wire without driver, and a net of its width and below its level
pub record CanDrive (d : ModuleValue) (pool : PoolValue) (wire : ℕ) (net : Net) : Type 0 where
  pub there : wire < length d.wires
  pub free : (wire_at d.wires wire).driver ≡ None
  pub fits : FitsIn d pool net
  pub width : net.width ≡ (wire_at d.wires wire).width
  pub below : net.level < (wire_at d.wires wire).level

abbrev pub CanDriveAll : ModuleValue → PoolValue → List (ℕ × Net) → Type 0
CanDriveAll d pool [] = Unit {0}
CanDriveAll d pool (x ∷ xs) = CanDrive d pool x.0 x.1 × CanDriveAll d pool xs

-- each has its net
abbrev pub HasDrivers : ModuleValue → List (ℕ × Net) → Type 0
HasDrivers d [] = Unit {0}
HasDrivers d (x ∷ xs) = ((wire_at d.wires x.0).driver ≡ Some x.1) × HasDrivers d xs

-- at most n drivers of these forward wires have come, and all else stays
pub record DrivesOnly (wires : List ℕ) (old new : ModuleValue) (n : ℕ) : Type 0 where
  pub grows : Grows old new n
  pub others : (k : ℕ) → is_among k wires ≡ false → wire_at new.wires k ≡ wire_at old.wires k
  pub count : length new.wires ≡ length old.wires
  pub regs : new.regs ≡ old.regs
  pub arrays : new.arrays ≡ old.arrays
  pub outs : new.outs ≡ old.outs
  pub makes : (r : Rights) → ((k : ℕ) → is_among k wires ≡ true → MayDrive Pipe r (wire_at old.wires k).owner k) → Makes Pipe r old new n

-- ---- registers from a number on

pub record CanMove (d : ModuleValue) (pool : PoolValue) (reg : ℕ) (net : Net) : Type 0 where
  pub there : reg < length d.regs
  pub own : (reg_at d.regs reg).owner ≡ Pipe
  pub free : (reg_at d.regs reg).next ≡ None
  pub fits : FitsIn d pool net
  pub width : net.width ≡ (reg_at d.regs reg).width

abbrev pub CanMoveAll : ModuleValue → PoolValue → (first : ℕ) → List Net → Type 0
CanMoveAll d pool k [] = Unit {0}
CanMoveAll d pool k (x ∷ xs) = CanMove d pool k x × CanMoveAll d pool (k + 1) xs

abbrev pub HasNexts : ModuleValue → (first : ℕ) → List Net → Type 0
HasNexts d k [] = Unit {0}
HasNexts d k (x ∷ xs) = ((reg_at d.regs k).next ≡ Some x) × HasNexts d (k + 1) xs

pub record MovesOnly (first : ℕ) (old new : ModuleValue) (n : ℕ) : Type 0 where
  pub grows : Grows old new n
  pub below : (k : ℕ) → k < first → reg_at new.regs k ≡ reg_at old.regs k
  pub above : (k : ℕ) → first + n ≤ k → reg_at new.regs k ≡ reg_at old.regs k
  pub count : length new.regs ≡ length old.regs
  pub wires : new.wires ≡ old.wires
  pub arrays : new.arrays ≡ old.arrays
  pub outs : new.outs ≡ old.outs
  pub makes : (r : Rights) → Makes Pipe r old new n

-- ---- outputs of the core

pub record CanShow (d : ModuleValue) (pool : PoolValue) (port : ℕ) (net : Net) : Type 0 where
  pub there : port < 30
  pub output : is_input (port_at port) ≡ false
  pub free : out_at d.outs port ≡ None
  pub fits : FitsIn d pool net
  pub width : net.width ≡ ports.width_of (port_at port)

abbrev pub CanShowAll : ModuleValue → PoolValue → List (ℕ × Net) → Type 0
CanShowAll d pool [] = Unit {0}
CanShowAll d pool (x ∷ xs) = CanShow d pool x.0 x.1 × CanShowAll d pool xs

abbrev pub HasOuts : ModuleValue → List (ℕ × Net) → Type 0
HasOuts d [] = Unit {0}
HasOuts d (x ∷ xs) = (out_at d.outs x.0 ≡ Some x.1) × HasOuts d xs

pub record ShowsOnly (ports : List ℕ) (old new : ModuleValue) (n : ℕ) : Type 0 where
  pub grows : Grows old new n
  pub others : (k : ℕ) → is_among k ports ≡ false → out_at new.outs k ≡ out_at old.outs k
  pub count : length new.outs ≡ length old.outs
  pub wires : new.wires ≡ old.wires
  pub regs : new.regs ≡ old.regs
  pub arrays : new.arrays ≡ old.arrays
  pub makes : (r : Rights) → ((k : ℕ) → is_among k ports ≡ true → r.outs k ≡ true) → Makes Pipe r old new n
