-- What a core is made of, as the theorem sees it: its table and plan, and the laws that its parts keep in a run.
use Rattle.std.specs.Prelude.{◌≡◌, ℕ, ◌%◌, ◌≤◌, Bool, true, false, List, length, set, Some}
use Rattle.core_ports.specs.Trace.{Trace, instruction_bus, data_bus, lines_at}
use Rattle.bus_law.specs.Memory.{Memory}
use Rattle.bus_law.specs.Protocol.{memory_at}
use Rattle.isa_csr.specs.Csrs.{Csrs}
use Rattle.isa_model.specs.Machine.{Set, Machine, Fetched, misa_of, machine_from}
use Rattle.isa_model.specs.Effects.{Moment}
use Rattle.isa_model.specs.Step.{outcome_of}
use Rattle.isa_model.specs.Run.{moment_in}
use Rattle.plug_law.specs.Table.{Table, IsTable}
use Rattle.plug_law.specs.Outcome.{outcome_by}
use Rattle.plug_law.specs.Fetch.{FetchLaw}
use Rattle.plug_law.specs.Predict.{PredictLaw, seen_by}
use Rattle.plug_law.specs.Exec.{ExecSignals, Terms, ToldExecLaw}
use Rattle.plug_law.specs.System.{SystemSignals, SystemAssumed, SystemLaw, csrs_at}
use Rattle.plug_law.specs.Decode.{DecodeLaw, is_call}
use Rattle.plug_law.specs.RegFile.{RegLaw}
use Rattle.plug_law.specs.Hazard.{HazardLaw}
use Rattle.plug_law.specs.Pipeline.{Pipe, Shape, member}

-- ---- what is chosen before any run

pub record Core : Type 0 where
  -- the instructions of the core, and their table
  pub set : Set
  pub table : Table
  pub shape : Shape
  -- the entry that a row belongs to
  pub owner : (row : ℕ) → ℕ
  -- of each entry: the rows that it takes, whether it offers DataBus, and its latency
  pub claims : (entry row : ℕ) → Bool
  pub holds : (entry : ℕ) → Bool
  pub latency : (entry : ℕ) → ℕ × ℕ
  -- the entry that offers System, where one does
  pub system_entry : ℕ
  pub fetch_latency : ℕ × ℕ
  -- whether Predict is offered, and what it answers
  pub predicts : Bool
  pub predict : ℕ → ℕ → ℕ
  -- the stages behind decode whose results Hazard uses
  pub bypassed : ℕ → Bool
  -- the registers out of reset
  pub start : List ℕ

-- what is laid down of an entry that offers Exec
abbrev pub terms_at : Core → (entry : ℕ) → Terms
terms_at g entry = record { table = g.table; claims = g.claims entry; commits = g.shape.commits entry; holds = g.holds entry; latency = g.latency entry }

-- the choices fit together
pub record IsCore (g : Core) : Type 0 where
  pub table : IsTable g.table
  -- what the machine does is what the table says
  pub means : (m : Machine) (f : Fetched) (o : Moment) → outcome_of g.set m f o ≡ outcome_by g.set.system g.table m f o
  pub system : g.shape.system ≡ g.set.system
  pub reset : g.shape.reset_pc % 4 ≡ 0
  pub stages : g.shape.stages ≤ 4
  pub size : length g.start ≡ 32
  -- each row but ECALL and EBREAK belongs to an entry that offers Exec and takes it
  pub owns : (word row : ℕ) → g.table.row_of word ≡ Some row → is_call row ≡ false
      → (member (g.owner row) g.shape.entries ≡ true) × (g.claims (g.owner row) row ≡ true)
  -- the data bus is some entry's
  pub data_entry : g.shape.holds ≡ true → (k : ℕ) × (member k g.shape.entries ≡ true) × (g.holds k ≡ true)
  -- the entry that offers System works in the stage that commits, and the rows that need CSRs are its own
  pub system_commits : g.set.system ≡ true → (member g.system_entry g.shape.entries ≡ true) × (g.shape.commits g.system_entry ≡ true)
  pub system_owns : g.set.system ≡ true → (word row : ℕ) → g.table.row_of word ≡ Some row → g.table.of_system row ≡ true → g.owner row ≡ g.system_entry
  pub no_system : g.set.system ≡ false → (word row : ℕ) → g.table.row_of word ≡ Some row → g.table.of_system row ≡ false

-- the machine out of reset
abbrev pub begin_at : Core → Memory → Machine
begin_at g memory = machine_from g.set (set g.start 0 0) g.shape.reset_pc memory

-- ---- memory and CSRs in a run

-- the interrupt lines of each cycle
abbrev pub moment_at : Trace → ℕ → Moment
moment_at run' = moment_in (lines_at run')

-- the memory as each cycle begins
abbrev pub mem_of : Memory → Trace → ℕ → Memory
mem_of memory run' = memory_at memory (data_bus run')

-- a part that is given nothing, and one that is told nothing: they stand for the part that offers System, where none does
abbrev pub no_exec : ExecSignals
no_exec = record {
  go = λ k. false;
  row = λ k. 0;
  pc = λ k. 0;
  word = λ k. 0;
  a = λ k. 0;
  b = λ k. 0;
  clear = λ k. false;
  done = λ k. false;
  value = λ k. 0;
  next_pc = λ k. 0;
  trap = λ k. false;
  cause = λ k. 0;
  tval = λ k. 0;
  fence = λ k. false;
}

abbrev pub no_events : SystemSignals
no_events = record { event = λ k. false; kind = λ k. 0; pc = λ k. 0; cause = λ k. 0; tval = λ k. 0; take_irq = λ k. false; irq_cause = λ k. 0; base = λ k. 0 }

abbrev pub exec_of : (system : Bool) → ExecSignals → ExecSignals
exec_of true e = e
exec_of false e = no_exec

abbrev pub events_of : (system : Bool) → SystemSignals → SystemSignals
events_of true y = y
events_of false y = no_events

-- the part that offers System, and what it is told
abbrev pub sys_of : Core → Pipe → ExecSignals
sys_of g p = exec_of g.set.system (p.unit g.system_entry)

abbrev pub told_of : Core → Pipe → SystemSignals
told_of g p = events_of g.set.system p.system

-- the CSRs as each cycle begins: those of reset where no part offers System
abbrev pub csrs_in : Core → Pipe → Trace → Memory → ℕ → Csrs
csrs_in g p run' memory = csrs_at (misa_of g.set) g.table (sys_of g p) (told_of g p) (mem_of memory run') (moment_at run')

-- what an entry is told of a cycle's event: the one that offers System alone is told
abbrev pub told_to : Core → Pipe → (entry cycle : ℕ) → Type 0
told_to g p entry cycle = g.set.system ≡ true → entry ≡ g.system_entry → SystemAssumed (p.unit g.system_entry) p.system cycle

-- ---- the parts keep their laws in a run
pub record Laws (g : Core) (p : Pipe) (run' : Trace) (memory : Memory) : Type 0 where
  pub fetch : FetchLaw g.fetch_latency g.predicts g.predict g.shape.reset_pc p.fetch (instruction_bus run') (mem_of memory run')
  pub predict : g.predicts ≡ true → PredictLaw g.predict (seen_by p.fetch)
  pub decode : DecodeLaw g.table g.owner p.decode
  pub regs : RegLaw p.regs g.start
  pub hazard : HazardLaw g.bypassed p.hazard p.regs
  pub exec : (k : ℕ) → member k g.shape.entries ≡ true
      → ToldExecLaw (told_to g p k) (terms_at g k) (p.unit k) (data_bus run') (mem_of memory run') (csrs_in g p run' memory) (moment_at run')
  pub system : g.set.system ≡ true → SystemLaw (terms_at g g.system_entry) (misa_of g.set) (p.unit g.system_entry) p.system (data_bus run') (mem_of memory run') (moment_at run')
