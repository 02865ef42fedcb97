-- The invariant of the pipeline, and what it says of a cycle.
use Rattle.std.proofs.Common.{◌≡◌, ℕ, zero, suc, ◌%◌, ◌<◌, ◌≤◌, Bool, true, false, cond, not, eqb, ◌∷◌, ◌++◌, ◌&&◌, ◌⊎◌, set, length, Option, Some, None}
use Rattle.std.specs.Prelude.{option_to_list}
use Rattle.core_ports.specs.Trace.{Bus, Trace, data_bus, instruction_bus, lines_at}
use Rattle.bus_law.specs.Honest.{Honest}
use Rattle.bus_law.specs.Memory.{IsMemory, Memory, Store, with_store}
use Rattle.bus_law.specs.Prompt.{store_at}
use Rattle.bus_law.specs.Protocol.{is_write, writes_before}
use Rattle.isa_csr.specs.Csrs.{IsCsrs, pending}
use Rattle.isa_model.specs.Effects.{Moment}
use Rattle.isa_model.specs.Machine.{Fetched, Machine}
use Rattle.isa_model.specs.Run.{FetchedFrom, History, IsRun, Possible, last_cycle, now, writes_of}
use Rattle.isa_model.specs.Step.{Done, interrupt, outcome_of}
use Rattle.plug_law.specs.Exec.{ExecAssumed, begun, bus_of, busy, made}
use Rattle.plug_law.specs.Fetch.{FetchAssumed, fetched_as, owes_pc}
use Rattle.pipe_law.proofs.Fetched.{Held}
use Rattle.plug_law.specs.Outcome.{source_a, source_b}
use Rattle.plug_law.specs.Pipeline.{Pipe, Shape, Slot, event, fresh, fresh_except, irq, member, takes}
use Rattle.plug_law.specs.RegFile.{regs_at}
use Rattle.plug_law.specs.System.{SystemAssumed}
use Rattle.pipe_law.proofs.Outcome.{Good}
use Rattle.pipe_law.proofs.Registers.{Fits, applied}
use Rattle.pipe_law.proofs.Stage.{StageLaws, StageSteps}
use Rattle.pipe_law.specs.Core.{Core, IsCore, begin_at, csrs_in, mem_of, moment_at, sys_of, terms_at, told_of}

-- the write that is accepted and has no event yet, as a cycle begins
unfoldable pub pend : Shape → Pipe → Trace → ℕ → Option Store
pend sh p run' zero = None
pend sh p run' (suc zero) = None
pend sh p run' (suc (suc k)) = cond (event sh p (suc k)) None (cond (is_write (data_bus run') (suc k)) (Some (store_at (data_bus run') (suc k))) (pend sh p run' (suc k)))

abbrev pub done_or : Option Done → Done → Done
done_or None other = other
done_or (Some d) other = d

abbrev pub fetched_in : Slot → Fetched
fetched_in x = fetched_as x.error x.word

-- what the machine does in a cycle with an event
unfoldable pub did : Core → Pipe → Trace → ℕ → Machine → Done
did core p run' t m =
    cond (irq core.shape p t) (interrupt m (p.system.irq_cause t)) (done_or (outcome_of core.set m (fetched_in (p.slot t)) (moment_at run' t)) (interrupt m 0))

abbrev pub grow : Bool → (k : ℕ) → Done → History → History
grow false k d h = h
grow true k d h = record { cycle = k; done = d } ∷ h

-- since the last event there was a cycle in which no interrupt was to be taken
abbrev pub Seen : Machine → (moments : ℕ → Moment) → ℕ → History → Type 0
Seen begin moments t h = (u : ℕ) × (last_cycle h < u) × (u < t) × (pending (now begin h).csrs (moments u).lines ≡ None)

abbrev pub bus_at : Core → Trace → (entry : ℕ) → Bus
bus_at core run' k = bus_of (core.holds k) (data_bus run')

module _ (core : Core) (p : Pipe) (run' : Trace) (memory : Memory) (n : ℕ) where
  -- the item in front is started: it is the machine's next, and its unit works
  pub record Started (t : ℕ) (h : History) : Type 0 where
    -- it is there, is the next of the program, and is one that a unit executes
    pub valid : p.valid t ≡ true
    pub path : (p.slot t).pc ≡ p.apc t
    pub flush : p.flush t ≡ false
    pub plain : (p.slot t).except ≡ false
    -- it was seen without an interrupt, and its unit is at work
    pub seen : Seen (begin_at core memory) (moment_at run') t h
    pub busy : busy (p.unit (core.owner (p.slot t).row)) t ≡ true
    -- on the machine's memory, with the writes that wait for the event
    pub memory_is : mem_of memory run' (begun (p.unit (core.owner (p.slot t).row)) t) ≡ (now (begin_at core memory) h).memory
    pub made : made (p.unit (core.owner (p.slot t).row)) (bus_at core run' (core.owner (p.slot t).row)) t ≡ option_to_list (pend core.shape p run' t)

  -- the cycle in which the item in front was taken, and what Decode and Hazard said of it then
  pub record Item (t : ℕ) : Type 0 where
    pub cycle : ℕ
    pub before : suc cycle < t
    pub taken : takes core.shape p (suc cycle) ≡ true
    pub is : p.slot t ≡ fresh core.shape p (suc cycle)
    pub chosen : (k : ℕ) → member k core.shape.entries ≡ true → p.chosen k t ≡ (eqb (p.decode.unit (suc cycle)) k && not (fresh_except core.shape p (suc cycle)))

  -- as a cycle begins, after a history
  pub record Inv (t : ℕ) (h : History) : Type 0 where
    -- the machine's registers are the register file under the results on their way, 32 of them, and each result names one
    pub regs : (now (begin_at core memory) h).regs ≡ set (applied (p.tail t) (regs_at p.regs core.start t)) 0 0
    pub size : length (regs_at p.regs core.start t) ≡ 32
    pub fits : Fits (p.tail t)
    -- the machine's pc is the program's, but for a core that has stopped, and a multiple of 4
    pub pc : p.stopped t ≡ false → (now (begin_at core memory) h).pc ≡ p.apc t
    pub whole : p.apc t % 4 ≡ 0
    -- its CSRs are those of the part that offers System, and hold addresses of instructions
    pub is_csrs : IsCsrs (now (begin_at core memory) h).csrs
    pub csrs : (now (begin_at core memory) h).csrs ≡ csrs_in core p run' memory t
    -- it has stopped where the core has
    pub halted : (now (begin_at core memory) h).stopped ≡ p.stopped t
    -- the item in front is decoded as its word says, and its entry is chosen
    pub good : p.valid t ≡ true → Good core.table (p.slot t)
    pub chosen : p.valid t ≡ true → (k : ℕ) → member k core.shape.entries ≡ true → p.chosen k t ≡ (not (p.slot t).except && eqb (core.owner (p.slot t).row) k)
    -- its operands are registers of the machine
    pub a : p.valid t ≡ true → p.flush t ≡ false → (p.slot t).except ≡ false → core.table.uses_a (p.slot t).row ≡ true → (p.slot t).a ≡ source_a (now (begin_at core memory) h) (p.slot t).word
    pub b : p.valid t ≡ true → p.flush t ≡ false → (p.slot t).except ≡ false → core.table.uses_b (p.slot t).row ≡ true → (p.slot t).b ≡ source_b (now (begin_at core memory) h) (p.slot t).word
    -- it was taken in an earlier cycle
    pub item : p.valid t ≡ true → Item t
    -- what fetch owes is what Predict says of the item in front
    pub chain : p.valid t ≡ true → owes_pc p.fetch core.predict core.shape.reset_pc t ≡ cond (p.slot t).error None (Some (core.predict (p.slot t).pc (p.slot t).word))
    -- where it is started, its unit works for the machine
    pub started : p.started t ≡ true → Started t h
    -- a core that has stopped has nothing in front, or drops it; words in flight before a FENCE.I are dropped too
    pub stop : p.stopped t ≡ true → (p.flush t ≡ true) ⊎ (p.valid t ≡ false)
    pub fence : p.flush_fence t ≡ true → p.flush t ≡ true
    -- the item in front may be fetched by the machine, and so may what is in flight, where memory does not hold it still
    pub truth : p.valid t ≡ true → p.flush_fence t ≡ false → Possible (begin_at core memory) h (p.slot t).pc (fetched_in (p.slot t))
    pub held : (pc : ℕ) (got : Fetched) → Held p.fetch (mem_of memory run') t pc got → Possible (begin_at core memory) h pc got ⊎ FetchedFrom (mem_of memory run' t) pc got
    -- only an item that is started has a write that waits for its event; with it the machine's memory is the bus's
    pub idle : p.started t ≡ false → pend core.shape p run' t ≡ None
    pub memory_is : mem_of memory run' t ≡ with_store (now (begin_at core memory) h).memory (pend core.shape p run' t)
    -- the accepted writes are those of the machine's steps and the one that waits
    pub log : writes_before (data_bus run') t ≡ option_to_list (pend core.shape p run' t) ++ writes_of h
    -- the history is a run of the machine, and each of its steps was in an earlier cycle
    pub runs : IsRun core.set (begin_at core memory) (lines_at run') h
    pub last : last_cycle h < t
    -- only the unit of the item in front is at work
    pub work : (k : ℕ) → member k core.shape.entries ≡ true → busy (p.unit k) t ≡ true → (p.started t ≡ true) × (core.owner (p.slot t).row ≡ k)
    -- what the laws of the units, of Fetch and of System assume is so up to here
    pub exec : (k : ℕ) → member k core.shape.entries ≡ true → (i : ℕ) → suc i ≤ t → suc i < n → ExecAssumed (terms_at core k) (p.unit k) (bus_at core run' k) (mem_of memory run') i
    pub asks : (i : ℕ) → suc i ≤ t → suc i < n → FetchAssumed p.fetch (instruction_bus run') (mem_of memory run') core.predicts core.predict i
    pub tells : (i : ℕ) → suc i < t → SystemAssumed (sys_of core p) (told_of core p) i

-- a cycle of a run, with what holds as it begins
pub record Here : Type 0 where
  pub core : Core
  pub p : Pipe
  pub run' : Trace
  pub memory : Memory
  pub n : ℕ
  pub is_core : IsCore core
  pub laws : StageLaws core p run' memory
  pub steps : StageSteps core.shape p run'
  pub is_memory : IsMemory memory
  pub honest : Honest (instruction_bus run') (data_bus run') memory n
  pub q : ℕ
  pub h : History
  pub inv : Inv core p run' memory n (suc q) h
  pub within : suc q < n
