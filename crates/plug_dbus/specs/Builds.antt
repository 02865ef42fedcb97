-- The parts of this kind: their registers by number, and what is said of their trees, whatever stands at inputs, forward wires,
-- registers and arrays.
use Rattle.std.specs.Prelude.{◌≡◌, ℕ, ◌+◌, ◌<◌, ◌≤◌, ◌||◌, Bool, true, false, eqb, get_or, None, Some}
use Rattle.hw_pool.specs.Trees.{Tree}
use Rattle.hw_pool.specs.Meaning.{Env, value}
use Rattle.bus_law.specs.Memory.{Memory}
use Rattle.isa_model.specs.Machine.{Set}
use Rattle.isa_model.specs.Effects.{behind}
use Rattle.service_reg.specs.declared.service.Service.{Service}
use Rattle.service_reg.specs.declared.service.Service.TheVariants.{Exec, DataBus}
use Rattle.service_reg.specs.Services.{number}
use Rattle.plug_part.specs.Part.{PartWire, PartReg, PartArray, PortTrees, Part, tree_at}
use Rattle.plug_part.specs.Owned.{is_among, is_bus_out}
use Rattle.plug_part.specs.Runs.{IsPartRun}
use Rattle.plug_part.specs.Things.{HasWire, HasReg, IsDriven}
use Rattle.plug_part.specs.Terms.{PartTerms}
use Rattle.plug_part.specs.Signals.{exec_signals, part_db, no_ports}
use Rattle.plug_part.specs.Meets.{MeetsLaws}
use Rattle.dbus_law.specs.Words.{address_of}
use Rattle.dbus_law.specs.Law.{TakesItsRows, dbus_terms, ReadsOnce}
use Rattle.plug_dbus.specs.Machine.{Now, done_now, value_now, trap_now, cause_now, given_after, owed_after, address_after, writes_after, payload_after, mask_after}
use Rattle.plug_dbus.specs.Nets.{now_at}

-- a service of the kind
abbrev pub is_own : Service → Bool
is_own s = eqb (number s) (number Exec) || eqb (number s) (number DataBus)

-- one cycle of the part
abbrev pub now_in : (first : ℕ) → PortTrees → Env → Now
now_in first o env = now_at first o.inputs env

-- six registers from `first` on: a command is given, a response is owed, and the command's address, write, data and mask
pub record BuildsDbus (p : Part) : Type 0 where
  pub first : ℕ
  pub ports : PortTrees
  -- it offers Exec with these ports, DataBus, and nothing else
  pub exec : p.offers Exec ≡ Some ports
  pub bus : p.offers DataBus ≡ Some no_ports
  pub none : (s : Service) → is_own s ≡ false → p.offers s ≡ None
  -- the bits among the inputs
  pub go : HasWire p (get_or ports.inputs 0 0) 1
  pub clear : HasWire p (get_or ports.inputs 6 0) 1
  -- each register has its equation
  pub given : HasReg p first 1 (Some 0) (λ env. given_after (now_in first ports env))
  pub owed : HasReg p (first + 1) 1 (Some 0) (λ env. owed_after (now_in first ports env))
  pub address : HasReg p (first + 2) 32 None (λ env. address_after (now_in first ports env))
  pub writes : HasReg p (first + 3) 1 None (λ env. writes_after (now_in first ports env))
  pub payload : HasReg p (first + 4) 32 None (λ env. payload_after (now_in first ports env))
  pub mask : HasReg p (first + 5) 4 None (λ env. mask_after (now_in first ports env))
  -- and so has each output
  pub done : (env : Env) → value env (tree_at ports.outputs 0) ≡ done_now (now_in first ports env)
  pub result : (env : Env) → value env (tree_at ports.outputs 1) ≡ value_now (now_in first ports env)
  pub next_pc : (env : Env) → value env (tree_at ports.outputs 2) ≡ behind (now_in first ports env).pc
  pub trap : (env : Env) → value env (tree_at ports.outputs 3) ≡ trap_now (now_in first ports env)
  pub cause : (env : Env) → value env (tree_at ports.outputs 4) ≡ cause_now (now_in first ports env)
  pub tval : (env : Env) → value env (tree_at ports.outputs 5) ≡ address_of (now_in first ports env).word (now_in first ports env).a
  pub fence : (env : Env) → value env (tree_at ports.outputs 6) ≡ 0
  -- the command is given on the data bus, and no other output is driven
  pub cmd_valid : IsDriven (p.outs 8) (λ env. env.regs first)
  pub cmd_write : IsDriven (p.outs 10) (λ env. env.regs (first + 3))
  pub cmd_addr : IsDriven (p.outs 11) (λ env. env.regs (first + 2))
  pub cmd_data : IsDriven (p.outs 12) (λ env. env.regs (first + 4))
  pub cmd_mask : IsDriven (p.outs 13) (λ env. env.regs (first + 5))
  pub no_other : (q : ℕ) (t : Tree) → p.outs q ≡ Some t → is_bus_out q ≡ true
  -- it has nothing else
  pub wires : (k : ℕ) (row : PartWire) → p.wires k ≡ Some row → is_among k ports.inputs ≡ true
  pub regs : (k : ℕ) (row : PartReg) → p.regs k ≡ Some row → (first ≤ k) × (k < first + 6)
  pub arrays : (k : ℕ) (row : PartArray) → p.arrays k ≡ Some row → ⊥

-- they meet the laws at 4 + 2 w cycles, where they commit, hold the data bus and take none but their rows
abbrev pub DbusPartsMeetLaws : Type 0
DbusPartsMeetLaws = (claims : ℕ → Bool) (g : PartTerms) (p : Part) → TakesItsRows claims → g.terms ≡ dbus_terms g.set claims → BuildsDbus p → MeetsLaws g p

-- and a load that is not misaligned reads its word exactly once, over each memory, and nothing else reads
abbrev pub DbusPartsReadOnce : Type 0
DbusPartsReadOnce =
    (set : Set) (claims : ℕ → Bool) (p : Part) → TakesItsRows claims → (b : BuildsDbus p) → (run : ℕ → Env) → IsPartRun p run → (mem : ℕ → Memory)
    → ReadsOnce (dbus_terms set claims) (exec_signals b.ports run) (part_db p run) mem
