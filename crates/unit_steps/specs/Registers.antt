-- Registers of an entry, made and driven one behind the other.
use Rattle.std.specs.Prelude.{◌≡◌, ℕ, zero, suc, ◌+◌, ◌<◌, List, [], ◌∷◌, length, get_or, drop, Option, None, Some}
use Rattle.hw_pool.specs.Nodes.{PoolValue, IsWidth}
use Rattle.hw_pool.specs.Meaning.{Env}
use Rattle.hw_expr.specs.declared.net.Net.{Net}
use Rattle.hw_expr.specs.Nets.{InScope}
use Rattle.hw_gates.specs.Places.{Has, value_in}
use Rattle.hw_module.specs.declared.rows.Owner.TheVariants.{Entry}
use Rattle.hw_module.specs.declared.rows.RegRow.{RegRow}
use Rattle.hw_module.specs.Rows.{ModuleValue, reg_at}
use Rattle.hw_module.specs.Rights.{Rights, Makes}
use Rattle.hw_module.specs.Scope.{scope_of}
use Rattle.hw_module.specs.Checked.{DriversFit}
use Rattle.plug_build.specs.World.{BuilderValue}

-- a register of an entry, without a next value and with one
abbrev pub open_row : (entry width : ℕ) (reset : Option ℕ) → RegRow
open_row entry width reset = record { owner = Entry entry; width = width; reset = reset; next = None }

abbrev pub driven_row : (entry width : ℕ) (reset : Option ℕ) → Net → RegRow
driven_row entry width reset net = record { owner = Entry entry; width = width; reset = reset; next = Some net }

-- what so many registers hold, from one on
abbrev pub held_in : (env : Env) (first count : ℕ) → List ℕ
held_in env first zero = []
held_in env first (suc n) = env.regs first ∷ held_in env (first + 1) n

pub record IsOpenReg (m : ModuleValue) (entry reg width : ℕ) (reset : Option ℕ) : Type 0 where
  pub there : reg < length m.regs
  pub row : reg_at m.regs reg ≡ open_row entry width reset

-- registers of these widths, from `first` on, without reset and next value
abbrev pub AreOpenRegs : ModuleValue → (entry first : ℕ) → (widths : List ℕ) → Type 0
AreOpenRegs m entry first [] = Unit {0}
AreOpenRegs m entry first (w ∷ ws) = IsOpenReg m entry first w None × AreOpenRegs m entry (first + 1) ws

-- widths that nodes may have
abbrev pub AreWidths : List ℕ → Type 0
AreWidths [] = Unit {0}
AreWidths (w ∷ ws) = IsWidth w × AreWidths ws

-- a register of an entry without a next value may take a net
pub record CanTake (m : ModuleValue) (pool : PoolValue) (entry reg : ℕ) (net : Net) : Type 0 where
  pub there : reg < length m.regs
  pub own : (reg_at m.regs reg).owner ≡ Entry entry
  pub free : (reg_at m.regs reg).next ≡ None
  pub scope : InScope (scope_of m) pool net
  pub wide : net.width ≡ (reg_at m.regs reg).width

-- so may registers, from `first` on, each its net
abbrev pub CanTakeAll : ModuleValue → PoolValue → (entry first : ℕ) → List Net → Type 0
CanTakeAll m pool entry first [] = Unit {0}
CanTakeAll m pool entry first (n ∷ ns) = CanTake m pool entry first n × CanTakeAll m pool entry (first + 1) ns

-- they took them
abbrev pub HaveTaken : (old new : ModuleValue) (first : ℕ) → List Net → Type 0
HaveTaken old new first [] = Unit {0}
HaveTaken old new first (n ∷ ns) = (reg_at new.regs first ≡ record (reg_at old.regs first) { next = Some n }) × HaveTaken old new (first + 1) ns

-- a register with a next value of this function
pub record IsDrivenReg (m : ModuleValue) (pool : PoolValue) (entry reg width : ℕ) (reset : Option ℕ) (f : Env → ℕ) : Type 0 where
  pub net : Net
  pub row : reg_at m.regs reg ≡ driven_row entry width reset net
  pub has : Has pool net
  pub value_is : (env : Env) → value_in env pool net ≡ f env

-- the registers with next values of these functions
abbrev pub AreDrivenRegs : ModuleValue → PoolValue → (entry first : ℕ) → (widths : List ℕ) → (next : Env → List ℕ) → Type 0
AreDrivenRegs m pool entry first [] next = Unit {0}
AreDrivenRegs m pool entry first (w ∷ ws) next = IsDrivenReg m pool entry first w None (λ env. get_or (next env) 0 0) × AreDrivenRegs m pool entry (first + 1) ws (λ env. drop 1 (next env))

-- a builder made n registers of its entry, and did nothing else
pub record MakesRegs (n : ℕ) (old new : BuilderValue) : Type 0 where
  pub entry : new.entry ≡ old.entry
  pub wires : new.design.wires ≡ old.design.wires
  pub arrays : new.design.arrays ≡ old.design.arrays
  pub outs : new.design.outs ≡ old.design.outs
  pub count : length new.design.regs ≡ length old.design.regs + n
  pub before : (k : ℕ) → k < length old.design.regs → reg_at new.design.regs k ≡ reg_at old.design.regs k
  pub room : new.design.room + n ≡ old.design.room
  pub makes : (r : Rights) → Makes (Entry old.entry) r old.design new.design n
  pub drivers : (pool : PoolValue) → DriversFit old.design pool → DriversFit new.design pool

-- a builder gave n registers of its entry their next values, and did nothing else
pub record DrivesRegs (n : ℕ) (old new : BuilderValue) : Type 0 where
  pub entry : new.entry ≡ old.entry
  pub wires : new.design.wires ≡ old.design.wires
  pub arrays : new.design.arrays ≡ old.design.arrays
  pub outs : new.design.outs ≡ old.design.outs
  pub count : length new.design.regs ≡ length old.design.regs
  pub room : new.design.room + n ≡ old.design.room
  pub makes : (r : Rights) → Makes (Entry old.entry) r old.design new.design n
  pub scope : scope_of new.design ≡ scope_of old.design
