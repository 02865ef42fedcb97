-- What an instruction does, apart from registers and events: from its pc, its word, the memory, the CSRs and its cycle.
use Rattle.std.specs.Prelude.{ℕ, ◌+◌, ◌-◌, ◌*◌, ◌%◌, ◌^◌, Bool, true, false, cond, eqb, ◌&&◌, ◌||◌, Option, Some, None, bit_and, bit_or}
use Rattle.core_words.specs.Values.{add_of, not_of, bits_of}
use Rattle.core_words.specs.Fields.{extend}
use Rattle.bus_law.specs.Memory.{Memory, Store, word_at, is_inside, is_window, store_of}
use Rattle.isa_table.specs.Rows.{Action, CsrChange}
use Rattle.isa_table.specs.Rows.Action.{Computes, Jumps, Branches, Loads, Stores, Fences, FencesFetches, CallsEnvironment, Breaks, AccessesCsr, Returns, Waits}
use Rattle.isa_table.specs.Rows.CsrChange.{Writes, Sets, Clears}
use Rattle.isa_csr.specs.Csrs.{Csrs, csr_read, is_read_only, csr_write, trap_return, wakes}

-- what a step sees of its cycle besides what was fetched: the interrupt lines, as a number with bits 3, 7 and 11
pub record Moment : Type 0 where
  pub lines : ℕ

-- what an instruction does in a cycle
pub data Effect : Type 0 where
  -- it traps; a store that meets an access fault makes its write
  Traps : (cause tval : ℕ) (write : Option Store) → Effect
  -- it does not take place in this cycle
  Rests : Effect
  -- it retires: its value, also where no register takes it, the pc behind it, its store, and its change of the CSRs
  Does : (value : Option ℕ) (next_pc : ℕ) (write : Option Store) (change : Csrs → Csrs) → Effect

-- no change of the CSRs
abbrev pub keeps : Csrs → Csrs
keeps c = c

-- the pc behind an instruction
abbrev pub behind : ℕ → ℕ
behind pc = add_of 32 pc 4

-- an instruction retires, goes on behind itself, and changes no CSR and no memory
abbrev pub goes_behind : (pc : ℕ) → (value : Option ℕ) → Effect
goes_behind pc value = Does value (behind pc) None keeps

-- an illegal instruction traps
abbrev pub illegal : (word : ℕ) → Effect
illegal word = Traps 2 word None

abbrev pub is_multiple : (a size : ℕ) → Bool
is_multiple a size = eqb (a % size) 0

-- ---- jumps (RISC-V Unprivileged ISA 20191213, 2.5)

-- a jump or a taken branch; one whose target is no multiple of 4 traps, with the target as tval
abbrev pub go_to : (is_aligned : Bool) → (value : Option ℕ) → (target : ℕ) → Effect
go_to true value target = Does value target None keeps
go_to false value target = Traps 0 target None

abbrev pub jump : (value : Option ℕ) → (target : ℕ) → Effect
jump value target = go_to (is_multiple target 4) value target

-- a branch that is not taken never traps for its target
abbrev pub branch : (is_taken : Bool) → (pc target : ℕ) → Effect
branch true pc target = jump None target
branch false pc target = goes_behind pc None

-- ---- loads and stores (2.6)

-- the word that a load reads: memory's, or 0 in the window; none elsewhere
abbrev pub or_window : (held : Option ℕ) → (is_in_window : Bool) → Option ℕ
or_window (Some word) is_in_window = Some word
or_window None true = Some 0
or_window None false = None

abbrev pub word_read : Memory → (addr : ℕ) → Option ℕ
word_read memory addr = or_window (word_at memory addr) (is_window addr)

-- the lane of the first byte at an address
abbrev pub lane_at : ℕ → ℕ
lane_at addr = addr % 4

-- the bytes of a word from a lane on, extended with their sign or with zeros
abbrev pub part_of : (word lane size : ℕ) → ℕ
part_of word lane size = bits_of word (8 * (lane + size) - 1) (8 * lane)

abbrev pub loaded : (word addr size : ℕ) → (is_signed : Bool) → ℕ
loaded word addr size is_signed = cond is_signed (extend (8 * size) (part_of word (lane_at addr) size)) (part_of word (lane_at addr) size)

-- a load of an address that is a multiple of its size: it traps outside memory and the window
abbrev pub load_held : (pc addr size : ℕ) → (is_signed : Bool) → (held : Option ℕ) → Effect
load_held pc addr size is_signed (Some held) = goes_behind pc (Some (loaded held addr size is_signed))
load_held pc addr size is_signed None = Traps 5 addr None

-- one of another address traps
abbrev pub load : (is_aligned : Bool) → (pc : ℕ) → Memory → (addr size : ℕ) → (is_signed : Bool) → Effect
load true pc memory addr size is_signed = load_held pc addr size is_signed (word_read memory addr)
load false pc memory addr size is_signed = Traps 4 addr None

-- the write of a store: the value in its lanes, and the mask of these
abbrev pub store_made : (addr size value : ℕ) → Store
store_made addr size value = store_of addr (value * 2 ^ (8 * lane_at addr)) ((2 ^ size - 1) * 2 ^ lane_at addr)

-- a store of an address that is a multiple of its size makes its write, and traps outside memory and the window
abbrev pub store_if : (is_taken : Bool) → (pc addr : ℕ) → Store → Effect
store_if true pc addr write = Does None (behind pc) (Some write) keeps
store_if false pc addr write = Traps 7 addr (Some write)

-- one of another address traps, and makes no write
abbrev pub store : (is_aligned : Bool) → (pc : ℕ) → Memory → (addr size value : ℕ) → Effect
store true pc memory addr size value = store_if (is_inside memory addr || is_window addr) pc addr (store_made addr size value)
store false pc memory addr size value = Traps 6 addr None

-- ---- CSRs, MRET and WFI (chapter 9; RISC-V Privileged Architecture 20190608, 2.1, 3.2.2 and 3.2.3)

-- the value that a CSR access writes
abbrev pub changed : CsrChange → (old operand : ℕ) → ℕ
changed Writes old operand = operand
changed Sets old operand = bit_or old operand
changed Clears old operand = bit_and old (not_of 32 operand)

-- what an access makes of the CSRs
abbrev pub csr_change : (writes : Bool) → (number value : ℕ) → Csrs → Csrs
csr_change true number value c = csr_write c number value
csr_change false number value c = c

-- an access of a CSR that is there; one that writes a read-only CSR is refused
abbrev pub access_held : (is_refused : Bool) → (pc word number : ℕ) → CsrChange → (operand : ℕ) → (writes : Bool) → (old : ℕ) → Effect
access_held true pc word number change operand writes old = illegal word
access_held false pc word number change operand writes old = Does (Some old) (behind pc) None (csr_change writes number (changed change old operand))

-- an access of a CSR that is not there is refused too
abbrev pub access : (pc word number : ℕ) → CsrChange → (operand : ℕ) → (writes : Bool) → (old : Option ℕ) → Effect
access pc word number change operand writes None = illegal word
access pc word number change operand writes (Some old) = access_held (writes && is_read_only number) pc word number change operand writes old

-- a WFI retires in a cycle with an interrupt that is enabled by mie and pending, and waits in the others
abbrev pub wait : (wakes : Bool) → (pc : ℕ) → Effect
wait true pc = goes_behind pc None
wait false pc = Rests

-- ---- the effect of an action, where the set has what it needs

abbrev pub effect_of : (pc word : ℕ) → Memory → Csrs → Moment → Action → Effect
effect_of pc word memory csrs moment (Computes value) = goes_behind pc (Some value)
effect_of pc word memory csrs moment (Jumps value target) = jump (Some value) target
effect_of pc word memory csrs moment (Branches is_taken target) = branch is_taken pc target
effect_of pc word memory csrs moment (Loads addr size is_signed) = load (is_multiple addr size) pc memory addr size is_signed
effect_of pc word memory csrs moment (Stores addr size value) = store (is_multiple addr size) pc memory addr size value
effect_of pc word memory csrs moment Fences = goes_behind pc None
effect_of pc word memory csrs moment FencesFetches = goes_behind pc None
effect_of pc word memory csrs moment CallsEnvironment = Traps 11 0 None
effect_of pc word memory csrs moment Breaks = Traps 3 0 None
effect_of pc word memory csrs moment (AccessesCsr number change operand writes) = access pc word number change operand writes (csr_read csrs moment.lines number)
effect_of pc word memory csrs moment Returns = Does None csrs.mepc None trap_return
effect_of pc word memory csrs moment Waits = wait (wakes csrs moment.lines) pc

-- the actions that need System
abbrev pub needs_system : Action → Bool
needs_system (AccessesCsr number change operand writes) = true
needs_system Returns = true
needs_system Waits = true
needs_system (Computes value) = false
needs_system (Jumps value target) = false
needs_system (Branches is_taken target) = false
needs_system (Loads addr size is_signed) = false
needs_system (Stores addr size value) = false
needs_system Fences = false
needs_system FencesFetches = false
needs_system CallsEnvironment = false
needs_system Breaks = false

-- ---- parts of an effect

-- its write on the data bus
abbrev pub write_of : Effect → Option Store
write_of (Traps cause tval write) = write
write_of Rests = None
write_of (Does value next_pc write change) = write

-- the CSRs after it, apart from the entry of a trap
abbrev pub csrs_of : Effect → (old : Csrs) → Csrs
csrs_of (Traps cause tval write) old = old
csrs_of Rests old = old
csrs_of (Does value next_pc write change) old = change old

-- it does not take place in this cycle
abbrev pub rests : Effect → Bool
rests (Traps cause tval write) = false
rests Rests = true
rests (Does value next_pc write change) = false

-- what an action may do on the data bus: a load or a store of an address that is no multiple of its size does nothing there
pub data Access : Type 0 where
  NoAccess : Access
  ReadsAt : (addr size : ℕ) → Access
  WritesOut : Store → Access

-- an access with an address that is a multiple of its size
abbrev pub access_if : (is_aligned : Bool) → Access → Access
access_if true a = a
access_if false a = NoAccess

abbrev pub access_of : Action → Access
access_of (Loads addr size is_signed) = access_if (is_multiple addr size) (ReadsAt addr size)
access_of (Stores addr size value) = access_if (is_multiple addr size) (WritesOut (store_made addr size value))
access_of (Computes value) = NoAccess
access_of (Jumps value target) = NoAccess
access_of (Branches is_taken target) = NoAccess
access_of Fences = NoAccess
access_of FencesFetches = NoAccess
access_of CallsEnvironment = NoAccess
access_of Breaks = NoAccess
access_of (AccessesCsr number change operand writes) = NoAccess
access_of Returns = NoAccess
access_of Waits = NoAccess

-- the write of an access
abbrev pub written_by : Access → Option Store
written_by NoAccess = None
written_by (ReadsAt addr size) = None
written_by (WritesOut write) = Some write
