-- One step of the machine.
use Rattle.std.specs.Prelude.{◌≡◌, ℕ, Bool, true, false, not, eqb, List, ◌||◌, ◌⊎◌, set, Option, Some, None}
use Rattle.core_words.specs.Fields.{rd_of, rs1_of, rs2_of}
use Rattle.bus_law.specs.Memory.{Store, with_store}
use Rattle.isa_table.specs.Rows.{TableRow, Action, row_of}
use Rattle.isa_csr.specs.Csrs.{Csrs, trap_entry, pending}
use Rattle.isa_model.specs.Machine.{Set, has_row, Machine, register, Fetched, Event}
use Rattle.isa_model.specs.Machine.Fetched.{Word, Error}
use Rattle.isa_model.specs.Machine.Event.{Retire, Trap, Interrupt}
pub use Rattle.isa_model.specs.Effects.{Moment, behind}
use Rattle.isa_model.specs.Effects.{Effect, illegal, effect_of, needs_system}
use Rattle.isa_model.specs.Effects.Effect.{Traps, Rests, Does}

-- what a step gives: its event, its write on the data bus, and the machine after it.
-- A store writes where it retires and where it traps with cause 7, which leaves memory as it is.
pub record Done : Type 0 where
  pub event : Event
  pub write : Option Store
  pub new : Machine

-- a trap enters the handler where the set has System, and stops the machine where it has not; it writes no register
abbrev pub trap : (system : Bool) → Machine → (word cause tval : ℕ) → Option Store → Done
trap true m word cause tval write = record { event = Trap m.pc word cause false; write = write; new = record m { csrs = trap_entry m.csrs m.pc cause tval; pc = m.csrs.mtvec } }
trap false m word cause tval write = record { event = Trap m.pc word cause true; write = write; new = record m { stopped = true } }

-- the value that is written to register rd: none for register 0
abbrev pub value_for : (rd : ℕ) → Option ℕ → Option ℕ
value_for rd None = None
value_for rd (Some value) = elim (eqb rd 0) [ true ↦ None | false ↦ Some value ]

abbrev pub retirement : Machine → (word rd : ℕ) → Option ℕ → Event
retirement m word rd None = Retire m.pc word 0 0
retirement m word rd (Some value) = Retire m.pc word rd value

abbrev pub with_register : List ℕ → (rd : ℕ) → Option ℕ → List ℕ
with_register regs rd None = regs
with_register regs rd (Some value) = set regs rd value

-- an instruction retires: its value goes to rd, and its store to memory
abbrev pub retire : Machine → (word : ℕ) (value : Option ℕ) (next_pc : ℕ) → Option Store → (change : Csrs → Csrs) → Done
retire m word value next_pc write change =
    let put = value_for (rd_of word) value in
    record {
      event = retirement m word (rd_of word) put;
      write = write;
      new = record { regs = with_register m.regs (rd_of word) put; pc = next_pc; csrs = change m.csrs; memory = with_store m.memory write; stopped = false };
    }

-- how a machine does what an instruction does; none where it does not take place in this cycle
abbrev pub done_of : (system : Bool) → Machine → (word : ℕ) → Effect → Option Done
done_of system m word (Traps cause tval write) = Some (trap system m word cause tval write)
done_of system m word Rests = None
done_of system m word (Does value next_pc write change) = Some (retire m word value next_pc write change)

-- where the set has no System, the instructions that need it are illegal
abbrev pub if_allowed : (is_allowed : Bool) → (word : ℕ) → Effect → Effect
if_allowed true word effect = effect
if_allowed false word effect = illegal word

-- the effect of an action on a machine
abbrev pub effect_in : (system : Bool) → Machine → (word : ℕ) → Moment → Action → Effect
effect_in system m word moment action = if_allowed (not (needs_system action) || system) word (effect_of m.pc word m.memory m.csrs moment action)

-- the effect of a word's row; a word of no row of the set is an illegal instruction
abbrev pub effect_of_row : (system : Bool) → Machine → (word : ℕ) → Moment → Option TableRow → Effect
effect_of_row system m word moment None = illegal word
effect_of_row system m word moment (Some row) = effect_in system m word moment (row.action m.pc word (register m.regs (rs1_of word)) (register m.regs (rs2_of word)))

-- what a word's row does; none where it does not take place in this cycle
abbrev pub act_of_row : (system : Bool) → Machine → (word : ℕ) → Moment → Option TableRow → Option Done
act_of_row system m word moment row = done_of system m word (effect_of_row system m word moment row)

-- The trap or the retirement that follows from what was fetched. Of an instruction's traps the first counts, in the order of
-- causes 1, 2, 3 or 11, 0, 4 or 6, 5 or 7.
unfoldable pub outcome_of : Set → Machine → Fetched → Moment → Option Done
outcome_of s m Error moment = Some (trap s.system m 0 1 m.pc None)
outcome_of s m (Word w) moment = act_of_row s.system m w moment (row_of (has_row s) w)

-- an interrupt is taken in place of the next instruction
abbrev pub interrupt : Machine → (cause : ℕ) → Done
interrupt m cause = record { event = Interrupt m.pc cause; write = None; new = record m { csrs = trap_entry m.csrs m.pc cause 0; pc = m.csrs.mtvec } }

-- From old, with what was fetched, the machine may do this in a moment: take an interrupt that is enabled and
-- pending, or trap or retire. A stopped machine does nothing.
pub record Step (s : Set) (old : Machine) (fetched : Fetched) (moment : Moment) (done : Done) : Type 0 where
  pub goes : old.stopped ≡ false
  pub how : ((cause : ℕ) × (pending old.csrs moment.lines ≡ Some cause) × (done ≡ interrupt old cause)) ⊎ (outcome_of s old fetched moment ≡ Some done)
