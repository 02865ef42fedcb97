-- What an entry builds: its outputs, the next values of its registers, and its command, each over the part's cycle.
use Rattle.std.specs.Prelude.{◌≡◌, ℕ, ◌+◌, List, length, Option, None, Some, true}
use Rattle.hw_pool.specs.Nodes.{PoolValue}
use Rattle.hw_pool.specs.Meaning.{Env}
use Rattle.hw_expr.specs.declared.net.Net.{Net}
use Rattle.hw_gates.specs.Places.{value_in}
use Rattle.hw_module.specs.declared.rows.Owner.TheVariants.{Entry}
use Rattle.hw_module.specs.Rows.{ModuleValue, reg_at, out_at}
use Rattle.hw_module.specs.Rights.{Rights, Makes}
use Rattle.isa_model.specs.Effects.{behind}
use Rattle.service_ports.specs.declared.ports.ExecPorts.{ExecPorts}
use Rattle.plug_part.specs.Owned.{is_bus_out}
use Rattle.plug_build.specs.World.{BuilderValue}
use Rattle.dbus_law.specs.Words.{address_of}
use Rattle.plug_dbus.specs.Machine.{done_now, value_now, trap_now, cause_now, given_after, owed_after, address_after, writes_after, payload_after, mask_after}
use Rattle.plug_dbus.specs.Nets.{now_at}
use Rattle.plug_dbus.specs.Registers.{driven_row}

-- the outputs of Exec as nets
pub record ShowsOuts (pool : PoolValue) (first : ℕ) (inputs : List ℕ) (p : ExecPorts) : Type 0 where
  pub done : (env : Env) → value_in env pool p.done ≡ done_now (now_at first inputs env)
  pub result : (env : Env) → value_in env pool p.value ≡ value_now (now_at first inputs env)
  pub next_pc : (env : Env) → value_in env pool p.next_pc ≡ behind (now_at first inputs env).pc
  pub trap : (env : Env) → value_in env pool p.trap ≡ trap_now (now_at first inputs env)
  pub cause : (env : Env) → value_in env pool p.cause ≡ cause_now (now_at first inputs env)
  pub tval : (env : Env) → value_in env pool p.tval ≡ address_of (now_at first inputs env).word (now_at first inputs env).a
  pub fence : (env : Env) → value_in env pool p.fence ≡ 0

-- a register with a next value of this function
pub record IsNext (m : ModuleValue) (pool : PoolValue) (entry reg width : ℕ) (reset : Option ℕ) (f : Env → ℕ) : Type 0 where
  pub net : Net
  pub row : reg_at m.regs reg ≡ driven_row entry width reset net
  pub value_is : (env : Env) → value_in env pool net ≡ f env

pub record HasNexts (m : ModuleValue) (pool : PoolValue) (entry first : ℕ) (inputs : List ℕ) : Type 0 where
  pub given : IsNext m pool entry first 1 (Some 0) (λ env. given_after (now_at first inputs env))
  pub owed : IsNext m pool entry (first + 1) 1 (Some 0) (λ env. owed_after (now_at first inputs env))
  pub address : IsNext m pool entry (first + 2) 32 None (λ env. address_after (now_at first inputs env))
  pub writes : IsNext m pool entry (first + 3) 1 None (λ env. writes_after (now_at first inputs env))
  pub payload : IsNext m pool entry (first + 4) 32 None (λ env. payload_after (now_at first inputs env))
  pub mask : IsNext m pool entry (first + 5) 4 None (λ env. mask_after (now_at first inputs env))

-- an output of the core with what a register holds
pub record IsShown (m : ModuleValue) (pool : PoolValue) (q reg : ℕ) : Type 0 where
  pub net : Net
  pub row : out_at m.outs q ≡ Some net
  pub value_is : (env : Env) → value_in env pool net ≡ env.regs reg

pub record HasCommand (m : ModuleValue) (pool : PoolValue) (first : ℕ) : Type 0 where
  pub valid : IsShown m pool 8 first
  pub write : IsShown m pool 10 (first + 3)
  pub addr : IsShown m pool 11 (first + 2)
  pub content : IsShown m pool 12 (first + 4)
  pub mask : IsShown m pool 13 (first + 5)

-- a builder gave its entry's registers their next values and drove the command, eleven things, and did nothing else
pub record DrivesAll (old new : BuilderValue) : Type 0 where
  pub entry : new.entry ≡ old.entry
  pub wires : new.design.wires ≡ old.design.wires
  pub arrays : new.design.arrays ≡ old.design.arrays
  pub count : length new.design.regs ≡ length old.design.regs
  pub makes : (r : Rights) → ((q : ℕ) → is_bus_out q ≡ true → r.outs q ≡ true) → Makes (Entry old.entry) r old.design new.design 11
