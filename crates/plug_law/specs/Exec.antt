-- The law of Exec: a unit is given one instruction at a time and does what the table says of it. A unit's go stays until it
-- says done, or is cleared; it may take many cycles, and may use the data bus.
use Rattle.std.specs.Prelude.{◌≡◌, ℕ, zero, suc, ◌+◌, ◌*◌, ◌/◌, ◌<◌, ◌≤◌, Bool, true, false, cond, not, eqb, List, [], ◌∷◌, ◌&&◌, ◌⊎◌, Option, Some, None, option_to_list}
use Rattle.core_ports.specs.Trace.{Bus}
use Rattle.bus_law.specs.Memory.{Memory, Store, with_store}
use Rattle.bus_law.specs.Protocol.{is_given, is_accepted, is_write, owed}
use Rattle.bus_law.specs.Honest.{IsHonestAt, data_reply}
use Rattle.bus_law.specs.Duties.{KeepsDuties}
use Rattle.bus_law.specs.Prompt.{IsPrompt, store_at}
use Rattle.isa_csr.specs.Csrs.{Csrs}
use Rattle.isa_model.specs.Effects.{Moment, Effect, Access, write_of, rests}
use Rattle.isa_model.specs.Effects.Effect.{Traps, Rests, Does}
use Rattle.isa_model.specs.Effects.Access.{NoAccess, ReadsAt, WritesOut}
use Rattle.isa_model.specs.Run.{is_fence_word}
use Rattle.plug_law.specs.Table.{Table, IsMemoryAt}

pub record ExecSignals : Type 0 where
  -- the unit is given an instruction: its row, pc and word, and the values of registers rs1 and rs2
  pub go : ℕ → Bool
  pub row : ℕ → ℕ
  pub pc : ℕ → ℕ
  pub word : ℕ → ℕ
  pub a : ℕ → ℕ
  pub b : ℕ → ℕ
  -- what is at work is given up
  pub clear : ℕ → Bool
  -- it is done in this cycle: with a value for register rd and the pc behind it, or with a trap, its cause and its mtval
  pub done : ℕ → Bool
  pub value : ℕ → ℕ
  pub next_pc : ℕ → ℕ
  pub trap : ℕ → Bool
  pub cause : ℕ → ℕ
  pub tval : ℕ → ℕ
  -- it was a FENCE.I
  pub fence : ℕ → Bool

-- what is laid down of a part that offers Exec, before it runs
pub record Terms : Type 0 where
  pub table : Table
  -- the rows that it takes
  pub claims : ℕ → Bool
  -- it works in the stage that commits: what it is given is never given up
  pub commits : Bool
  -- it offers DataBus: the data bus is its own
  pub holds : Bool
  -- (a, b): it is done within a + b * w cycles where the bus answers within w
  pub latency : ℕ × ℕ

-- ---- what is at work

-- an instruction of an earlier cycle is at work as a cycle begins
unfoldable pub busy : ExecSignals → ℕ → Bool
busy e zero = false
busy e (suc zero) = false
busy e (suc (suc t)) = e.go (suc t) && (not (e.done (suc t)) && not (e.clear (suc t)))

-- the first cycle of the go that is at work, or the cycle itself
unfoldable pub begun : ExecSignals → ℕ → ℕ
begun e zero = 0
begun e (suc t) = cond (busy e (suc t)) (begun e t) (suc t)

-- the writes of the go at work that were accepted before a cycle, the last one first
unfoldable pub made : ExecSignals → Bus → ℕ → List Store
made e b zero = []
made e b (suc t) = cond (busy e (suc t)) (cond (is_write b t) (store_at b t ∷ made e b t) (made e b t)) []

-- the same by the cycle's end
abbrev pub made_by : ExecSignals → Bus → ℕ → List Store
made_by e b t = cond (is_write b t) (store_at b t ∷ made e b t) (made e b t)

-- the addresses that the go at work has read before a cycle, the last one first
unfoldable pub read : ExecSignals → Bus → ℕ → List ℕ
read e b zero = []
read e b (suc t) = cond (busy e (suc t)) (cond (is_accepted b t && not (is_write b t)) (b.cmd_addr t ∷ read e b t) (read e b t)) []

-- how many cycles the go at work has taken, this one included, but for those in which it rests
unfoldable pub worked : (idle : ℕ → Bool) → ExecSignals → ℕ → ℕ
worked idle e zero = 0
worked idle e (suc t) = cond (idle (suc t)) 0 1 + cond (busy e (suc t)) (worked idle e t) 0

-- ---- what the table says of it

-- the effect of the instruction in a cycle: memory as its go began, CSRs and interrupt lines of the cycle
abbrev pub effect_at : Table → ExecSignals → (mem : ℕ → Memory) (csrs : ℕ → Csrs) (moments : ℕ → Moment) → ℕ → Effect
effect_at t e mem csrs moments k = t.effect (e.row k) (e.pc k) (e.word k) (e.a k) (e.b k) (mem (begun e k)) (csrs k) (moments k)

-- what it may do on the data bus
abbrev pub access_at : Table → ExecSignals → ℕ → Access
access_at t e k = t.access (e.row k) (e.pc k) (e.word k) (e.a k) (e.b k)

-- a command is one of an access: a load reads in its block of 64 bytes, a store makes its own write
abbrev pub IsOf : Access → Bus → ℕ → Type 0
IsOf NoAccess b k = ⊥
IsOf (ReadsAt addr size) b k = (eqb (b.cmd_write k) 1 ≡ false) × (b.cmd_addr k / 64 ≡ addr / 64)
IsOf (WritesOut w) b k = (eqb (b.cmd_write k) 1 ≡ true) × (store_at b k ≡ w)

-- the value is that of an effect, where it has one
abbrev pub HasValue : Option ℕ → ℕ → Type 0
HasValue None value = Unit {0}
HasValue (Some v) value = value ≡ v

-- the outputs at done are those of an effect; what no effect fixes is free
abbrev pub Shows : Effect → (value next_pc cause tval : ℕ) (trap : Bool) → Type 0
Shows (Traps c v write) value next_pc cause tval trap = (trap ≡ true) × (cause ≡ c) × (tval ≡ v)
Shows Rests value next_pc cause tval trap = ⊥
Shows (Does v pc write change) value next_pc cause tval trap = (trap ≡ false) × (next_pc ≡ pc) × HasValue v value

-- ---- the data bus of a part

-- a bus on which nothing happens
abbrev pub no_bus : Bus
no_bus = record { cmd_valid = λ k. 0; cmd_ready = λ k. 0; cmd_write = λ k. 0; cmd_addr = λ k. 0; cmd_data = λ k. 0; cmd_mask = λ k. 0; rsp_valid = λ k. 0; rsp_error = λ k. 0; rsp_data = λ k. 0 }

-- the core's data bus, where the part offers DataBus
abbrev pub bus_of : (holds : Bool) → Bus → Bus
bus_of true db = db
bus_of false db = no_bus

-- only the writes of this bus change memory, in cycle s + 1
abbrev pub Alone : Bus → (ℕ → Memory) → ℕ → Type 0
Alone db mem s = mem (suc (suc s)) ≡ cond (is_write db (suc s)) (with_store (mem (suc s)) (Some (store_at db (suc s)))) (mem (suc s))

-- ---- the law

-- Assumed of cycle s + 1, on the part's data bus. Nothing is assumed of the pc and of a and b.
pub record ExecAssumed (x : Terms) (e : ExecSignals) (bus : Bus) (mem : ℕ → Memory) (s : ℕ) : Type 0 where
  -- what is at work stands
  pub stands : busy e (suc s) ≡ true
      → (e.go (suc s) ≡ true) × (e.row (suc s) ≡ e.row s) × (e.pc (suc s) ≡ e.pc s) × (e.word (suc s) ≡ e.word s) × (e.a (suc s) ≡ e.a s) × (e.b (suc s) ≡ e.b s)
  -- the part takes the row, and the word is one of the row
  pub claimed : e.go (suc s) ≡ true → (x.claims (e.row (suc s)) ≡ true) × (x.table.row_of (e.word (suc s)) ≡ Some (e.row (suc s)))
  -- what commits is not given up
  pub kept : x.commits ≡ true → busy e (suc s) ≡ true → e.clear (suc s) ≡ false
  -- memory stands at one place, and holds bytes
  pub memory : x.holds ≡ true → IsMemoryAt mem (suc s)
  -- the data bus answers as that memory
  pub honest : IsHonestAt data_reply bus mem (suc s)

-- kept in cycle s + 1
pub record ExecKept (t : Table) (e : ExecSignals) (bus : Bus) (mem : ℕ → Memory) (csrs : ℕ → Csrs) (moments : ℕ → Moment) (s : ℕ) : Type 0 where
  -- without a go nothing is done
  pub rests : e.go (suc s) ≡ false → e.done (suc s) ≡ false
  -- what is done is the instruction's effect, and FENCE.I alone says fence
  pub result : e.go (suc s) ≡ true → e.done (suc s) ≡ true
      → Shows (effect_at t e mem csrs moments (suc s)) (e.value (suc s)) (e.next_pc (suc s)) (e.cause (suc s)) (e.tval (suc s)) (e.trap (suc s))
      × (e.fence (suc s) ≡ is_fence_word (e.word (suc s)))
  -- where nothing is at work as the cycle begins, also in the first cycle of a go, no command is given and no response owed
  pub idle : busy e (suc s) ≡ false → (is_given bus (suc s) ≡ false) × (owed bus (suc s) ≡ None)
  -- each command is one of the instruction's access
  pub asks : is_given bus (suc s) ≡ true → IsOf (access_at t e (suc s)) bus (suc s)
  -- by the end of each of its cycles a go has made no write, or the instruction's one
  pub writes : e.go (suc s) ≡ true
      → (made_by e bus (suc s) ≡ []) ⊎ (made_by e bus (suc s) ≡ option_to_list (write_of (effect_at t e mem csrs moments (suc s))))
  -- at done it has made the instruction's write in an earlier cycle, and nothing is accepted
  pub wrote : e.go (suc s) ≡ true → e.done (suc s) ≡ true
      → (made e bus (suc s) ≡ option_to_list (write_of (effect_at t e mem csrs moments (suc s)))) × (is_accepted bus (suc s) ≡ false)
  -- the duties of who gives commands on the data bus
  pub duties : KeepsDuties bus (suc s)

-- a go that is not done has taken fewer cycles than the latency; a WFI that waits counts none
abbrev pub IsTimely : Terms → ExecSignals → (bus : Bus) → (mem : ℕ → Memory) → (csrs : ℕ → Csrs) → (moments : ℕ → Moment) → (s : ℕ) → Type 0
IsTimely x e bus mem csrs moments s =
    (w : ℕ) → 1 ≤ w → ((j : ℕ) → j ≤ s → IsPrompt bus w (suc j)) → e.go (suc s) ≡ true → e.done (suc s) ≡ false
    → worked (λ k. rests (effect_at x.table e mem csrs moments k)) e (suc s) < x.latency.0 + x.latency.1 * w

-- the law of a part on its own: what is assumed up to the cycle of the claim, and that its writes alone change memory before
abbrev pub ExecLaw : Terms → ExecSignals → (db : Bus) → (mem : ℕ → Memory) → (csrs : ℕ → Csrs) → (moments : ℕ → Moment) → Type 0
ExecLaw x e db mem csrs moments =
    (s : ℕ) → ((j : ℕ) → j ≤ s → ExecAssumed x e (bus_of x.holds db) mem j) → (x.holds ≡ true → (j : ℕ) → j < s → Alone db mem j)
    → ExecKept x.table e (bus_of x.holds db) mem csrs moments s × IsTimely x e (bus_of x.holds db) mem csrs moments s

-- The law of a part in a core. What the core tells of its events before the cycle of the claim is assumed besides: a part that
-- keeps the CSRs needs it, since its results depend on them. A part that keeps ExecLaw keeps this one.
abbrev pub ToldExecLaw : (told : ℕ → Type 0) → Terms → ExecSignals → (db : Bus) → (mem : ℕ → Memory) → (csrs : ℕ → Csrs) → (moments : ℕ → Moment) → Type 0
ToldExecLaw told x e db mem csrs moments =
    (s : ℕ) → ((j : ℕ) → j ≤ s → ExecAssumed x e (bus_of x.holds db) mem j) → (x.holds ≡ true → (j : ℕ) → j < s → Alone db mem j) → ((j : ℕ) → j < s → told j)
    → ExecKept x.table e (bus_of x.holds db) mem csrs moments s × IsTimely x e (bus_of x.holds db) mem csrs moments s
