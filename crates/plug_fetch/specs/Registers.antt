-- The registers of the part in a module by their numbers, and what is driven there.
use Rattle.std.specs.Prelude.{◌≡◌, ℕ, ◌+◌, ◌*◌, ◌<◌, Bool, cond, length, Option, None, Some}
use Rattle.hw_pool.specs.Nodes.{PoolValue}
use Rattle.hw_pool.specs.Meaning.{Env}
use Rattle.hw_pool.specs.Scope.{Scope}
use Rattle.hw_expr.specs.declared.net.Net.{Net}
use Rattle.hw_gates.specs.Places.{Has, Is, IsIn, value_in}
use Rattle.hw_module.specs.declared.rows.Owner.TheVariants.{Entry}
use Rattle.hw_module.specs.declared.rows.RegRow.{RegRow}
use Rattle.hw_module.specs.Rows.{ModuleValue, reg_at}
use Rattle.hw_module.specs.Rights.{Rights, Makes}
use Rattle.hw_module.specs.Scope.{scope_of}
use Rattle.hw_module.specs.Checked.{DriversFit}
use Rattle.plug_build.specs.World.{BuilderValue}
use Rattle.plug_fetch.specs.declared.places.Cycle.{Cycle}
use Rattle.plug_fetch.specs.declared.places.PlaceNets.{PlaceNets}
use Rattle.plug_fetch.specs.declared.circuit.CycleBits.{CycleBits}
use Rattle.plug_fetch.specs.declared.command.CommandNets.{CommandNets}
use Rattle.plug_fetch.specs.Machine.{Now, moved_of, fills_of, put_of, held_after, put, given_after, owed_after, dropped_after, address_after, pc_after}
use Rattle.plug_fetch.specs.Builds.{Numbers}

-- ---- the registers: four for each place, then the others

abbrev pub numbers_from : (first depth : ℕ) → Numbers
numbers_from first depth = record {
  held = λ i. first + 4 * i;
  pc = λ i. first + 4 * i + 1;
  word = λ i. first + 4 * i + 2;
  error = λ i. first + 4 * i + 3;
  given = first + 4 * depth;
  owed = first + 4 * depth + 1;
  dropped = first + 4 * depth + 2;
  address = first + 4 * depth + 3;
  next_pc = first + 4 * depth + 4;
}

-- a register of an entry, without a next value and with one
abbrev pub open_row : (entry width : ℕ) (reset : Option ℕ) → RegRow
open_row entry width reset = record { owner = Entry entry; width = width; reset = reset; next = None }

abbrev pub driven_row : (entry width : ℕ) (reset : Option ℕ) → Net → RegRow
driven_row entry width reset net = record { owner = Entry entry; width = width; reset = reset; next = Some net }

-- the four registers of a place
pub record IsOpenPlace (m : ModuleValue) (entry reg : ℕ) : Type 0 where
  pub there : reg + 3 < length m.regs
  pub held : reg_at m.regs reg ≡ open_row entry 1 (Some 0)
  pub pc : reg_at m.regs (reg + 1) ≡ open_row entry 32 None
  pub word : reg_at m.regs (reg + 2) ≡ open_row entry 32 None
  pub error : reg_at m.regs (reg + 3) ≡ open_row entry 1 None

-- the other five
pub record IsOpenCommand (m : ModuleValue) (entry reg reset_pc : ℕ) : Type 0 where
  pub there : reg + 4 < length m.regs
  pub given : reg_at m.regs reg ≡ open_row entry 1 (Some 0)
  pub owed : reg_at m.regs (reg + 1) ≡ open_row entry 1 (Some 0)
  pub dropped : reg_at m.regs (reg + 2) ≡ open_row entry 1 (Some 0)
  pub address : reg_at m.regs (reg + 3) ≡ open_row entry 32 None
  pub next_pc : reg_at m.regs (reg + 4) ≡ open_row entry 32 (Some reset_pc)

-- a builder made n registers of its entry, and did nothing else
pub record MakesRegs (n : ℕ) (old new : BuilderValue) : Type 0 where
  pub entry : new.entry ≡ old.entry
  pub wires : new.design.wires ≡ old.design.wires
  pub arrays : new.design.arrays ≡ old.design.arrays
  pub outs : new.design.outs ≡ old.design.outs
  pub count : length new.design.regs ≡ length old.design.regs + n
  pub before : (k : ℕ) → k < length old.design.regs → reg_at new.design.regs k ≡ reg_at old.design.regs k
  pub room : new.design.room + n ≡ old.design.room
  pub makes : (r : Rights) → Makes (Entry old.entry) r old.design new.design n
  pub drivers : (pool : PoolValue) → DriversFit old.design pool → DriversFit new.design pool

-- ---- what is read

-- the nets have their widths
pub record IsCycle (pool : PoolValue) (c : Cycle) : Type 0 where
  pub given : Is pool c.given 1 8
  pub owed : Is pool c.owed 1 8
  pub dropped : Is pool c.dropped 1 8
  pub address : Is pool c.address 32 8
  pub next_pc : Is pool c.next_pc 32 8
  pub take : Is pool c.take 1 8
  pub redirect : Is pool c.redirect 1 8
  pub redirect_pc : Is pool c.redirect_pc 32 8
  pub ready : Is pool c.ready 1 8
  pub answered : Is pool c.answered 1 8
  pub failed : Is pool c.failed 1 8
  pub payload : Is pool c.payload 32 8
  pub guess : Is pool c.guess 32 8

-- what they take from outside is in a scope
pub record IsCycleIn (s : Scope) (pool : PoolValue) (c : Cycle) : Type 0 where
  pub given : IsIn s pool c.given
  pub owed : IsIn s pool c.owed
  pub dropped : IsIn s pool c.dropped
  pub address : IsIn s pool c.address
  pub next_pc : IsIn s pool c.next_pc
  pub take : IsIn s pool c.take
  pub redirect : IsIn s pool c.redirect
  pub redirect_pc : IsIn s pool c.redirect_pc
  pub ready : IsIn s pool c.ready
  pub answered : IsIn s pool c.answered
  pub failed : IsIn s pool c.failed
  pub payload : IsIn s pool c.payload
  pub guess : IsIn s pool c.guess

-- the cycle that nets and registers show
abbrev pub seen_in : Env → PoolValue → Cycle → (first : ℕ) → Now
seen_in env pool c first = record {
  held = λ i. env.regs (first + 4 * i);
  pc = λ i. env.regs (first + 4 * i + 1);
  word = λ i. env.regs (first + 4 * i + 2);
  error = λ i. env.regs (first + 4 * i + 3);
  given = value_in env pool c.given;
  owed = value_in env pool c.owed;
  dropped = value_in env pool c.dropped;
  address = value_in env pool c.address;
  next_pc = value_in env pool c.next_pc;
  take = value_in env pool c.take;
  redirect = value_in env pool c.redirect;
  redirect_pc = value_in env pool c.redirect_pc;
  ready = value_in env pool c.ready;
  answered = value_in env pool c.answered;
  failed = value_in env pool c.failed;
  payload = value_in env pool c.payload;
  guess = value_in env pool c.guess;
}

-- ---- the nets of a place

pub record ArePlaceNets (pool : PoolValue) (p : PlaceNets) : Type 0 where
  pub moved : Is pool p.moved 1 8
  pub held : Is pool p.held 1 8
  pub pc : Is pool p.pc 32 8
  pub word : Is pool p.word 32 8
  pub error : Is pool p.error 1 8

pub record ArePlaceNetsIn (s : Scope) (pool : PoolValue) (p : PlaceNets) : Type 0 where
  pub moved : IsIn s pool p.moved
  pub held : IsIn s pool p.held
  pub pc : IsIn s pool p.pc
  pub word : IsIn s pool p.word
  pub error : IsIn s pool p.error

-- their values: the place's registers begin at a number, and it is the last one or has a next one
module _ (env : Env) (pool : PoolValue) (c : Cycle) (reg : ℕ) (last : Bool) where
  abbrev pub moved_at : ℕ
  moved_at = moved_of (value_in env pool c.take) (env.regs reg) (cond last 0 (env.regs (reg + 4)))

  abbrev pub fills_at : (kept before : Net) → ℕ
  fills_at kept before = fills_of (value_in env pool kept) moved_at (value_in env pool before)

  abbrev pub put_at : (kept before came : Net) (own : ℕ) → ℕ
  put_at kept before came own =
      put_of (fills_at kept before) (value_in env pool came) (value_in env pool c.take) (cond last (env.regs own) (env.regs (own + 4))) (env.regs own)

-- ---- the nets of the command

pub record AreCycleBits (pool : PoolValue) (n : CycleBits) : Type 0 where
  pub response : Is pool n.response 1 8
  pub idle : Is pool n.idle 1 8
  pub kept : Is pool n.kept 1 8

pub record AreCycleBitsIn (s : Scope) (pool : PoolValue) (n : CycleBits) : Type 0 where
  pub response : IsIn s pool n.response
  pub idle : IsIn s pool n.idle
  pub kept : IsIn s pool n.kept

pub record AreCommandNets (pool : PoolValue) (n : CommandNets) : Type 0 where
  pub given : Is pool n.given 1 8
  pub owed : Is pool n.owed 1 8
  pub dropped : Is pool n.dropped 1 8
  pub address : Is pool n.address 32 8
  pub next_pc : Is pool n.next_pc 32 8

pub record AreCommandNetsIn (s : Scope) (pool : PoolValue) (n : CommandNets) : Type 0 where
  pub given : IsIn s pool n.given
  pub owed : IsIn s pool n.owed
  pub dropped : IsIn s pool n.dropped
  pub address : IsIn s pool n.address
  pub next_pc : IsIn s pool n.next_pc

-- ---- what is driven

-- a builder gave n registers of its entry their next values, and did nothing else
pub record Drives (n : ℕ) (old new : BuilderValue) : Type 0 where
  pub entry : new.entry ≡ old.entry
  pub wires : new.design.wires ≡ old.design.wires
  pub arrays : new.design.arrays ≡ old.design.arrays
  pub outs : new.design.outs ≡ old.design.outs
  pub count : length new.design.regs ≡ length old.design.regs
  pub room : new.design.room + n ≡ old.design.room
  pub makes : (r : Rights) → Makes (Entry old.entry) r old.design new.design n
  pub scope : scope_of new.design ≡ scope_of old.design

-- a register with a next value of this function
pub record IsNext (m : ModuleValue) (pool : PoolValue) (entry reg width : ℕ) (reset : Option ℕ) (f : Env → ℕ) : Type 0 where
  pub net : Net
  pub row : reg_at m.regs reg ≡ driven_row entry width reset net
  pub has : Has pool net
  pub value : (env : Env) → value_in env pool net ≡ f env

-- the registers of place i have their equations
pub record IsPlaceDriven (m : ModuleValue) (pool : PoolValue) (entry first depth i : ℕ) (now : Env → Now) : Type 0 where
  pub held : IsNext m pool entry (first + 4 * i) 1 (Some 0) (λ env. held_after depth (now env) i)
  pub pc : IsNext m pool entry (first + 4 * i + 1) 32 None (λ env. put depth (now env) i (now env).address (now env).pc)
  pub word : IsNext m pool entry (first + 4 * i + 2) 32 None (λ env. put depth (now env) i (now env).payload (now env).word)
  pub error : IsNext m pool entry (first + 4 * i + 3) 1 None (λ env. put depth (now env) i (now env).failed (now env).error)

-- so do the others
pub record IsCommandDriven (m : ModuleValue) (pool : PoolValue) (entry reg reset_pc depth : ℕ) (now : Env → Now) : Type 0 where
  pub given : IsNext m pool entry reg 1 (Some 0) (λ env. given_after depth (now env))
  pub owed : IsNext m pool entry (reg + 1) 1 (Some 0) (λ env. owed_after (now env))
  pub dropped : IsNext m pool entry (reg + 2) 1 (Some 0) (λ env. dropped_after (now env))
  pub address : IsNext m pool entry (reg + 3) 32 None (λ env. address_after (now env))
  pub next_pc : IsNext m pool entry (reg + 4) 32 (Some reset_pc) (λ env. pc_after (now env))
