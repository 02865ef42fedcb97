-- The state of the machine, its events, and the configured set of instructions.
use Rattle.std.specs.Prelude.{◌≡◌, ℕ, ◌+◌, Bool, true, false, eqb, List, ◌&&◌, ◌||◌, get_or}
use Rattle.core_ports.specs.Trace.{PortEvent}
use Rattle.bus_law.specs.Memory.{Memory}
use Rattle.isa_csr.specs.Csrs.{Csrs, reset_csrs}
use Rattle.isa_table.specs.Rows.{table, is_in_table}

-- the configured set: the numbers of the rows that are claimed, and whether CSRs and traps are there
pub record Set : Type 0 where
  pub claims : ℕ → Bool
  pub system : Bool

-- ECALL and EBREAK belong to every set
abbrev pub has_row : Set → (number : ℕ) → Bool
has_row s number = s.claims number || (eqb number 38 || eqb number 39)

-- a set claims only rows that the table has
abbrev pub IsBuilt : Set → Type 0
IsBuilt s = (number : ℕ) → s.claims number ≡ true → is_in_table table number ≡ true

-- the multiply and divide instructions, rows 41 to 48, are all claimed
abbrev pub has_mul_div : Set → Bool
has_mul_div s = s.claims 41 && (s.claims 42 && (s.claims 43 && (s.claims 44 && (s.claims 45 && (s.claims 46 && (s.claims 47 && s.claims 48))))))

-- misa: 32 bits, I, and M where it is claimed (RISC-V Privileged Architecture 20190608, 3.1.1)
abbrev pub misa_of : Set → ℕ
misa_of s = 0x40000100 + (elim (has_mul_div s) [ true ↦ 0x1000 | false ↦ 0 ])

-- registers, pc, CSRs, memory, and whether a trap has stopped the machine. In a run from `machine_from` there are
-- 32 registers of 32 bits and the pc is a multiple of 4, where they are so at its start.
pub record Machine : Type 0 where
  pub regs : List ℕ
  pub pc : ℕ
  pub csrs : Csrs
  pub memory : Memory
  pub stopped : Bool

-- the machine out of reset
abbrev pub machine_from : Set → (regs : List ℕ) → (pc : ℕ) → Memory → Machine
machine_from s regs pc memory = record { regs = regs; pc = pc; csrs = reset_csrs (misa_of s); memory = memory; stopped = false }

-- a register as read: register 0 is 0 in every state (RISC-V Unprivileged ISA 20191213, 2.1)
abbrev pub register : List ℕ → ℕ → ℕ
register regs r = elim (eqb r 0) [ true ↦ 0 | false ↦ get_or regs r 0 ]

-- what a fetch gives: a word, or an access fault
pub data Fetched : Type 0 where
  Word : ℕ → Fetched
  Error : Fetched

pub data Event : Type 0 where
  -- rd and value are 0 where no register is written
  Retire : (pc word rd value : ℕ) → Event
  -- the word of a fetch fault is 0
  Trap : (pc word cause : ℕ) (stops : Bool) → Event
  -- pc is that of the instruction that was next
  Interrupt : (pc cause : ℕ) → Event

abbrev pub is_interrupt : Event → Bool
is_interrupt (Interrupt pc cause) = true
is_interrupt (Retire pc word rd value) = false
is_interrupt (Trap pc word cause stops) = false

-- an event as the ports show it, with 0 in the fields that its kind does not use
abbrev pub trap_kind : (stops : Bool) → ℕ
trap_kind true = 3
trap_kind false = 1

abbrev pub shown : Event → PortEvent
shown (Retire pc word rd value) = record { kind = 0; pc = pc; word = word; rd = rd; value = value; cause = 0 }
shown (Trap pc word cause stops) = record { kind = trap_kind stops; pc = pc; word = word; rd = 0; value = 0; cause = cause }
shown (Interrupt pc cause) = record { kind = 2; pc = pc; word = 0; rd = 0; value = 0; cause = cause }
