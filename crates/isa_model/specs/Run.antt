-- Runs of the machine.
use Rattle.std.specs.Prelude.{◌≡◌, ℕ, ◌<◌, ◌≤◌, Bool, true, false, eqb, List, [], ◌∷◌, ◌++◌, ◌⊎◌, Some, None, bit_and, option_to_list}
use Rattle.bus_law.specs.Memory.{Memory, Store, word_at}
use Rattle.isa_csr.specs.Csrs.{Csrs, pending}
use Rattle.isa_model.specs.Machine.{Set, Machine, Fetched, Event, is_interrupt}
use Rattle.isa_model.specs.Machine.Fetched.{Word, Error}
use Rattle.isa_model.specs.Machine.Event.{Retire, Trap, Interrupt}
use Rattle.isa_model.specs.Step.{Moment, Done, Step}

-- a step with its cycle
pub record Entry : Type 0 where
  pub cycle : ℕ
  pub done : Done

-- the steps so far, the latest first
abbrev pub History : Type 0
History = List Entry

-- the machine after them
abbrev pub now : Machine → History → Machine
now start [] = start
now start (e ∷ past) = e.done.new

abbrev pub last_cycle : History → ℕ
last_cycle [] = 0
last_cycle (e ∷ past) = e.cycle

-- the data writes of the steps, the latest first
abbrev pub writes_of : History → List Store
writes_of [] = []
writes_of (e ∷ past) = option_to_list e.done.write ++ writes_of past

-- what a memory gives a fetch at a pc
abbrev pub FetchedFrom : Memory → ℕ → Fetched → Type 0
FetchedFrom memory pc Error = word_at memory pc ≡ None
FetchedFrom memory pc (Word w) = word_at memory pc ≡ Some w

-- the words of FENCE.I
abbrev pub is_fence_word : (word : ℕ) → Bool
is_fence_word word = eqb (bit_and word 0x707f) 0x100f

-- a retired FENCE.I ends the life of older words (RISC-V Unprivileged ISA 20191213, chapter 3)
abbrev pub is_fence : Event → Bool
is_fence (Retire pc word rd value) = is_fence_word word
is_fence (Trap pc word cause stops) = false
is_fence (Interrupt pc cause) = false

-- what may be fetched at a pc: what memory held there in some state since the start, or since the last FENCE.I
abbrev pub Possible : Machine → History → ℕ → Fetched → Type 0
Possible start [] pc fetched = FetchedFrom start.memory pc fetched
Possible start (e ∷ past) pc fetched = FetchedFrom e.done.new.memory pc fetched ⊎ ((is_fence e.done.event ≡ false) × Possible start past pc fetched)

-- an instruction may go ahead of an interrupt only where, in some cycle since the last event, none was to be taken
abbrev pub IsUnpressed : (is_interrupt : Bool) → (lines : ℕ → ℕ) → Csrs → (last cycle : ℕ) → Type 0
IsUnpressed true lines csrs last cycle = Unit {0}
IsUnpressed false lines csrs last cycle = (s : ℕ) × (last < s) × (s ≤ cycle) × (pending csrs (lines s) ≡ None)

-- what a step in a cycle sees of it
abbrev pub moment_in : (lines : ℕ → ℕ) → (cycle : ℕ) → Moment
moment_in lines cycle = record { lines = lines cycle }

-- one step more
pub record Continues (s : Set) (start : Machine) (lines : ℕ → ℕ) (past : History) (e : Entry) : Type 0 where
  pub later : last_cycle past < e.cycle
  pub fetched : Fetched
  pub possible : Possible start past (now start past).pc fetched
  pub step : Step s (now start past) fetched (moment_in lines e.cycle) e.done
  pub unpressed : IsUnpressed (is_interrupt e.done.event) lines (now start past).csrs (last_cycle past) e.cycle

-- the machine may have gone through these steps, with the interrupt lines of each cycle
abbrev pub IsRun : Set → Machine → (lines : ℕ → ℕ) → History → Type 0
IsRun s start lines [] = Unit {0}
IsRun s start lines (e ∷ past) = IsRun s start lines past × Continues s start lines past e
