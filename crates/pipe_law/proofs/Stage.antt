-- What the proof needs of the stage that commits: of its step, and of the parts as it sees them. The parts and the step of a
-- pipeline that commits in execute have it (Execute); those of another pipeline may have it too.
use Rattle.std.proofs.Common.{◌≡◌, ℕ, suc, ◌<◌, ◌≤◌, true, false, cond, not, eqb, ◌∷◌, ◌&&◌, ◌||◌, ◌⊎◌, length}
use Rattle.core_words.specs.Fields.{rd_of, rs1_of, rs2_of}
use Rattle.core_ports.specs.Ports.{db_cmd_valid, db_cmd_write, db_cmd_addr, db_cmd_data, db_cmd_mask}
use Rattle.core_ports.specs.Trace.{Bus, Trace, data_bus, has_event, instruction_bus, on_port, port_event}
use Rattle.bus_law.specs.Duties.{KeepsDuties}
use Rattle.bus_law.specs.Memory.{Memory}
use Rattle.isa_model.specs.Machine.{misa_of, register}
use Rattle.isa_model.specs.Run.{FetchedFrom}
use Rattle.plug_law.specs.Exec.{Alone, ExecAssumed, ExecKept, bus_of}
use Rattle.plug_law.specs.Fetch.{FetchAssumed, FetchSignals, offered}
use Rattle.pipe_law.proofs.Fetched.{Held}
use Rattle.plug_law.specs.Hazard.{value_or, writer}
use Rattle.plug_law.specs.Pipeline.{Idle, Late, Pipe, Shape, asked, ends, enters, event, fence, faulty, fresh, fresh_except, in_front, irq, kill, leaves, member, next_pc, places, retires, run, shift, takes, target, told, trap_cause, trap_value, traps, value, writes}
use Rattle.plug_law.specs.Predict.{PredictLaw, seen_by}
use Rattle.plug_law.specs.RegFile.{regs_at}
use Rattle.plug_law.specs.System.{SystemLaw}
use Rattle.pipe_law.proofs.Outcome.{Good}
use Rattle.pipe_law.specs.Core.{Core, csrs_in, mem_of, moment_at, terms_at, told_to}

-- of Fetch: it offers what may be fetched, and keeps the duties of its bus
pub record FetchSafe (f : FetchSignals) (ib : Bus) (mem : ℕ → Memory) (s : ℕ) : Type 0 where
  pub truth : f.valid (suc s) ≡ true → FetchedFrom (mem (suc s)) (f.pc (suc s)) (offered f (suc s)) ⊎ Held f mem s (f.pc (suc s)) (offered f (suc s))
  pub duties : KeepsDuties ib (suc s)

-- the parts as the stage that commits sees them
pub record StageLaws (core : Core) (p : Pipe) (run' : Trace) (memory : Memory) : Type 0 where
  -- what is offered may be fetched
  pub fetch : (s : ℕ) → ((j : ℕ) → j ≤ s → FetchAssumed p.fetch (instruction_bus run') (mem_of memory run') core.predicts core.predict j) → FetchSafe p.fetch (instruction_bus run') (mem_of memory run') s
  pub predict : core.predicts ≡ true → PredictLaw core.predict (seen_by p.fetch)
  -- the item that is taken is decoded right, belongs to its row's owner, and has the operands of the registers and results
  pub good : (s : ℕ) → takes core.shape p (suc s) ≡ true → Good core.table (fresh core.shape p (suc s))
  pub unit : (s : ℕ) → takes core.shape p (suc s) ≡ true → fresh_except core.shape p (suc s) ≡ false → p.decode.unit (suc s) ≡ core.owner (p.decode.row (suc s))
  pub a : (s : ℕ) → takes core.shape p (suc s) ≡ true → fresh_except core.shape p (suc s) ≡ false → core.table.uses_a (p.decode.row (suc s)) ≡ true
      → p.hazard.a (suc s) ≡ value_or (writer core.bypassed (in_front core.shape p (suc s) ∷ places 2 (p.tail (suc s))) (rs1_of (fresh core.shape p (suc s)).word)) (register (regs_at p.regs core.start (suc s)) (rs1_of (fresh core.shape p (suc s)).word))
  pub b : (s : ℕ) → takes core.shape p (suc s) ≡ true → fresh_except core.shape p (suc s) ≡ false → core.table.uses_b (p.decode.row (suc s)) ≡ true
      → p.hazard.b (suc s) ≡ value_or (writer core.bypassed (in_front core.shape p (suc s) ∷ places 2 (p.tail (suc s))) (rs2_of (fresh core.shape p (suc s)).word)) (register (regs_at p.regs core.start (suc s)) (rs2_of (fresh core.shape p (suc s)).word))
  -- each unit keeps its law, but for progress, and so does System
  pub exec : (k : ℕ) → member k core.shape.entries ≡ true → (s : ℕ) → ((j : ℕ) → j ≤ s → ExecAssumed (terms_at core k) (p.unit k) (bus_of (core.holds k) (data_bus run')) (mem_of memory run') j)
      → (core.holds k ≡ true → (j : ℕ) → j < s → Alone (data_bus run') (mem_of memory run') j)
      → ((j : ℕ) → j < s → told_to core p k j)
      → ExecKept core.table (p.unit k) (bus_of (core.holds k) (data_bus run')) (mem_of memory run') (csrs_in core p run' memory) (moment_at run') s
  pub system : core.set.system ≡ true → SystemLaw (terms_at core core.system_entry) (misa_of core.set) (p.unit core.system_entry) p.system (data_bus run') (mem_of memory run') (moment_at run')

-- the step of that stage
pub record StageSteps (sh : Shape) (p : Pipe) (run' : Trace) : Type 0 where
  -- after reset
  pub apc_first : p.apc 1 ≡ sh.reset_pc
  pub flush_first : p.flush 1 ≡ false
  pub flush_fence_first : p.flush_fence 1 ≡ false
  pub started_first : p.started 1 ≡ false
  pub stopped_first : p.stopped 1 ≡ false
  pub valid_first : p.valid 1 ≡ false
  pub tail_first : Idle (p.tail 1)
  pub we_first : p.regs.we 0 ≡ false
  -- the registers: the item in front is fixed only where there is one
  pub apc : (s : ℕ) → p.apc (suc (suc s)) ≡ cond (event sh p (suc s)) (cond (asked sh p (suc s) || faulty sh p (suc s)) (target sh p (suc s)) (next_pc sh p (suc s))) (p.apc (suc s))
  pub flush : (s : ℕ) → p.flush (suc (suc s)) ≡ (irq sh p (suc s) || (traps sh p (suc s) || (retires sh p (suc s) && fence sh p (suc s))))
  pub flush_fence : (s : ℕ) → p.flush_fence (suc (suc s)) ≡ (retires sh p (suc s) && fence sh p (suc s))
  pub started : (s : ℕ) → p.started (suc (suc s)) ≡ (run sh p (suc s) && not (ends sh p (suc s)))
  pub stopped : (s : ℕ) → p.stopped (suc (suc s)) ≡ (not sh.system && (p.stopped (suc s) || traps sh p (suc s)))
  pub valid : (s : ℕ) → p.valid (suc (suc s)) ≡ (not (kill sh p (suc s) || irq sh p (suc s)) && (takes sh p (suc s) || not (enters sh p (suc s))))
  pub slot : (s : ℕ) → p.valid (suc (suc s)) ≡ true → p.slot (suc (suc s)) ≡ cond (enters sh p (suc s)) (fresh sh p (suc s)) (p.slot (suc s))
  pub chosen : (k s : ℕ) → p.valid (suc (suc s)) ≡ true → member k sh.entries ≡ true
      → p.chosen k (suc (suc s)) ≡ cond (enters sh p (suc s)) (eqb (p.decode.unit (suc s)) k && not (fresh_except sh p (suc s))) (p.chosen k (suc s))
  -- what leaves the committing stage: where it writes nothing, the rest of it is free
  pub late : ℕ → Late
  pub late_writes : (s : ℕ) → (late (suc s)).writes ≡ writes sh p (suc s)
  pub late_rd : (s : ℕ) → writes sh p (suc s) ≡ true → (late (suc s)).rd ≡ rd_of (p.slot (suc s)).word
  pub late_value : (s : ℕ) → writes sh p (suc s) ≡ true → (late (suc s)).value ≡ value sh p (suc s)
  pub tail : (s : ℕ) → p.tail (suc (suc s)) ≡ shift (late (suc s)) (p.tail (suc s))
  pub tail_short : (s : ℕ) → length (p.tail (suc s)) ≤ 2
  pub we : (s : ℕ) → p.regs.we (suc s) ≡ (leaves (late (suc s)) (p.tail (suc s))).writes
  pub wa : (s : ℕ) → p.regs.wa (suc s) ≡ (leaves (late (suc s)) (p.tail (suc s))).rd
  pub wd : (s : ℕ) → p.regs.wd (suc s) ≡ (leaves (late (suc s)) (p.tail (suc s))).value
  -- inputs of the parts
  pub take : (s : ℕ) → p.fetch.take (suc s) ≡ takes sh p (suc s)
  pub redirect : (s : ℕ) → p.fetch.redirect (suc s) ≡ kill sh p (suc s)
  pub redirect_pc : (s : ℕ) → p.fetch.redirect_pc (suc s) ≡ p.apc (suc s)
  pub fetch_fence : (s : ℕ) → p.fetch.fence (suc s) ≡ (kill sh p (suc s) && p.flush_fence (suc s))
  pub go : (k s : ℕ) → member k sh.entries ≡ true → (p.unit k).go (suc s) ≡ (cond (sh.commits k) (run sh p (suc s)) (p.valid (suc s)) && p.chosen k (suc s))
  pub go_row : (k s : ℕ) → member k sh.entries ≡ true → (p.unit k).row (suc s) ≡ (p.slot (suc s)).row
  pub go_pc : (k s : ℕ) → member k sh.entries ≡ true → (p.unit k).pc (suc s) ≡ (p.slot (suc s)).pc
  pub go_word : (k s : ℕ) → member k sh.entries ≡ true → (p.unit k).word (suc s) ≡ (p.slot (suc s)).word
  pub go_a : (k s : ℕ) → member k sh.entries ≡ true → (p.unit k).a (suc s) ≡ (p.slot (suc s)).a
  pub go_b : (k s : ℕ) → member k sh.entries ≡ true → (p.unit k).b (suc s) ≡ (p.slot (suc s)).b
  pub clear : (k s : ℕ) → member k sh.entries ≡ true → (p.unit k).clear (suc s) ≡ (not (sh.commits k) && (kill sh p (suc s) || irq sh p (suc s)))
  pub sys_event : (s : ℕ) → sh.system ≡ true → p.system.event (suc s) ≡ event sh p (suc s)
  pub sys_pc : (s : ℕ) → sh.system ≡ true → p.system.pc (suc s) ≡ p.apc (suc s)
  pub sys_kind : (s : ℕ) → event sh p (suc s) ≡ true → sh.system ≡ true → p.system.kind (suc s) ≡ cond (asked sh p (suc s)) 2 (cond (faulty sh p (suc s)) 1 0)
  pub sys_cause : (s : ℕ) → event sh p (suc s) ≡ true → sh.system ≡ true → p.system.cause (suc s) ≡ cond (asked sh p (suc s)) (p.system.irq_cause (suc s)) (trap_cause sh p (suc s))
  pub sys_tval : (s : ℕ) → event sh p (suc s) ≡ true → sh.system ≡ true → p.system.tval (suc s) ≡ cond (asked sh p (suc s)) 0 (trap_value sh p (suc s))
  -- outputs of the core
  pub shows : (s : ℕ) → has_event run' (suc s) ≡ event sh p (suc s)
  pub tells : (s : ℕ) → event sh p (suc s) ≡ true → port_event run' (suc s) ≡ told sh p (suc s)
  pub no_data : (s : ℕ) → sh.holds ≡ false → (on_port run' db_cmd_valid (suc s) ≡ 0) × (on_port run' db_cmd_write (suc s) ≡ 0)
      × (on_port run' db_cmd_addr (suc s) ≡ 0) × (on_port run' db_cmd_data (suc s) ≡ 0) × (on_port run' db_cmd_mask (suc s) ≡ 0)
