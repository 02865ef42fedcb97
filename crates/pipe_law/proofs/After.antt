-- The machine after a cycle: one that ends an item, one that takes an interrupt, or one without an event.
use Rattle.std.proofs.Common.{◌≡◌, ℕ, suc, ◌%◌, ◌<◌, Bool, true, false, cond, not, eqb, ◌∷◌, ◌++◌, ◌&&◌, ◌||◌, ◌⊎◌, inl, inr, refl, ap, ◌∙◌, sym, subst, arith, Option, Some, None}
use Rattle.std.specs.Prelude.{option_to_list}
use Rattle.std.proofs.Math.Nat.{le_refl}
use Rattle.core_words.specs.Fields.{rd_of}
use Rattle.core_ports.specs.Trace.{Bus, data_bus, lines_at}
use Rattle.bus_law.proofs.ByStores.{memory_by_stores}
use Rattle.bus_law.specs.Memory.{Memory, with_store, word_at}
use Rattle.bus_law.specs.Prompt.{store_at}
use Rattle.bus_law.specs.Protocol.{is_write, writes_before}
use Rattle.isa_csr.specs.Csrs.{Csrs, IsCsrs, trap_entry}
use Rattle.isa_model.specs.Effects.{Moment, csrs_of}
use Rattle.isa_model.specs.Machine.{Fetched, Machine}
use Rattle.isa_model.specs.Machine.Fetched.{Error, Word}
use Rattle.isa_model.specs.Run.{Continues, FetchedFrom, History, IsRun, IsUnpressed, Possible, is_fence, last_cycle, now, writes_of}
use Rattle.isa_model.specs.Step.{interrupt, outcome_of}
use Rattle.plug_law.specs.Exec.{ExecSignals, effect_at}
use Rattle.plug_law.specs.Pipeline.{Shape, Slot, asked, ends, event, faulty, irq, kill, made_late, next_pc, retires, run, target, trap_cause, trap_value, traps, tval, value, writes}
use Rattle.plug_law.specs.System.{SystemSignals, csrs_at}
use Rattle.pipe_law.proofs.Basics.{and_no_l, and_no_r, and_yes, both, cond_false, cond_true, or_true}
use Rattle.pipe_law.proofs.Cycle.{asked_is, end_event, ends_run, event_none, faulty_is, irq_event, irq_no_run, irq_parts, no_end, no_event, no_run_no_end, retires_is, started_runs, writes_is}
use Rattle.pipe_law.proofs.End.{End, ended, idle_accepts, put_now, quiet_after, quiet_cycle, sys_rests}
use Rattle.pipe_law.proofs.Invariant.{Here, did, done_or, fetched_in, grow, pend}
use Rattle.pipe_law.proofs.Irq.{event_is, irq_pending, irq_system, kind_is, pc_is, runs_on, seen_now, target_sys, target_whole, told_cause, told_tval}
use Rattle.pipe_law.proofs.Possible.{entered, possible_now}
use Rattle.pipe_law.proofs.Registers.{put}
use Rattle.pipe_law.proofs.Unit.{Head, at_pc, go_parts, head, no_fence, none_is_done, not_stopped, silent_writes}
use Rattle.pipe_law.specs.Core.{begin_at, csrs_in, mem_of, moment_at, sys_of, told_of}
use Rattle.plug_law.specs.Pipeline as wire

module _ (c : Here) where
  open c use {core, p, run', memory, n, is_core, laws, steps, is_memory, honest, q, h, inv, within}

  -- short names
  abbrev sh : Shape
  sh = core.shape

  abbrev moments : ℕ → Moment
  moments = moment_at run'

  abbrev db : Bus
  db = data_bus run'

  abbrev mem : ℕ → Memory
  mem = mem_of memory run'

  abbrev csr : ℕ → Csrs
  csr = csrs_in core p run' memory

  abbrev begin : Machine
  begin = begin_at core memory

  abbrev m : Machine
  m = now (begin_at core memory) h

  abbrev x : Slot
  x = p.slot (suc q)

  -- the part that offers System, and its signals
  abbrev sys : ExecSignals
  sys = sys_of core p

  abbrev ys : SystemSignals
  ys = told_of core p

  -- the CSRs after the part's own done
  abbrev after : Csrs
  after = cond (sys.done (suc q) && not (sys.clear (suc q))) (csrs_of (effect_at core.table sys mem (λ i. csr (suc q)) moments (suc q)) (csr (suc q))) (csr (suc q))

  abbrev pub h2 : History
  h2 = grow (event sh p (suc q)) (suc q) (did core p run' (suc q) (now (begin_at core memory) h)) h

  abbrev pub m2 : Machine
  m2 = now (begin_at core memory) (grow (event sh p (suc q)) (suc q) (did core p run' (suc q) (now (begin_at core memory) h)) h)

  -- what a cycle does to the machine
  pub record After : Type 0 where
    pub regs : m2.regs ≡ put (made_late sh p (suc q)) m.regs
    pub csrs : m2.csrs ≡ csr (suc (suc q))
    pub are_csrs : IsCsrs m2.csrs
    pub pc : p.stopped (suc (suc q)) ≡ false → m2.pc ≡ p.apc (suc (suc q))
    pub whole : p.apc (suc (suc q)) % 4 ≡ 0
    pub halted : m2.stopped ≡ p.stopped (suc (suc q))
    pub memory_is : mem (suc (suc q)) ≡ with_store m2.memory (pend sh p run' (suc (suc q)))
    pub log : writes_before db (suc (suc q)) ≡ option_to_list (pend sh p run' (suc (suc q))) ++ writes_of h2
    pub runs : IsRun core.set begin (lines_at run') h2
    pub last : last_cycle h2 < suc (suc q)
    pub keeps : (pc : ℕ) (got : Fetched) → p.flush_fence (suc (suc q)) ≡ false → Possible begin h pc got → Possible begin h2 pc got
    pub old : (pc : ℕ) (got : Fetched) → FetchedFrom (mem (suc q)) pc got → Possible begin h2 pc got ⊎ FetchedFrom (mem (suc (suc q))) pc got
    pub fresh : (p.started (suc q) ≡ false) ⊎ (ends sh p (suc q) ≡ true) → (pc : ℕ) (got : Fetched) → FetchedFrom (mem (suc q)) pc got → Possible begin h2 pc got
    pub idle : run sh p (suc q) && not (ends sh p (suc q)) ≡ false → pend sh p run' (suc (suc q)) ≡ None

  -- an event makes the history longer by its step
  h2_event : event sh p (suc q) ≡ true → h2 ≡ record { cycle = suc q; done = did core p run' (suc q) m } ∷ h
  h2_event e = ap (λ b. grow b (suc q) (did core p run' (suc q) m) h) e

  -- without one it stays
  pub h2_none : event sh p (suc q) ≡ false → h2 ≡ h
  h2_none e = ap (λ b. grow b (suc q) (did core p run' (suc q) m) h) e

  -- without a write memory stays
  memory_same : is_write db (suc q) ≡ false → mem (suc (suc q)) ≡ mem (suc q)
  memory_same e = memory_by_stores memory db (suc q) ∙ cond_false (is_write db (suc q)) (with_store (mem (suc q)) (Some (store_at db (suc q)))) (mem (suc q)) e

  -- and so do the writes
  log_same : is_write db (suc q) ≡ false → writes_before db (suc (suc q)) ≡ writes_before db (suc q)
  unfolding writes_before
  log_same e = cond_false (is_write db (suc q)) (store_at db (suc q) ∷ writes_before db (suc q)) (writes_before db (suc q)) e

  -- after an event no write waits
  pub pend_event : event sh p (suc q) ≡ true → pend sh p run' (suc (suc q)) ≡ None
  unfolding pend
  pend_event e = cond_true (event sh p (suc q)) None (cond (is_write db (suc q)) (Some (store_at db (suc q))) (pend sh p run' (suc q))) e

  -- without one a write that is accepted waits
  pub pend_none : event sh p (suc q) ≡ false → pend sh p run' (suc (suc q)) ≡ cond (is_write db (suc q)) (Some (store_at db (suc q))) (pend sh p run' (suc q))
  unfolding pend
  pend_none e = cond_false (event sh p (suc q)) None (cond (is_write db (suc q)) (Some (store_at db (suc q))) (pend sh p run' (suc q))) e

  -- the CSRs of the next cycle
  csr_next : csr (suc (suc q)) ≡ cond (ys.event (suc q) && not (eqb (ys.kind (suc q)) 0)) (trap_entry after (ys.pc (suc q)) (ys.cause (suc q)) (ys.tval (suc q))) after
  unfolding csrs_at
  csr_next = refl

  abbrev told_now : Bool
  told_now = ys.event (suc q) && not (eqb (ys.kind (suc q)) 0)

  -- without a trap or interrupt
  csr_quiet : told_now ≡ false → csr (suc (suc q)) ≡ after
  csr_quiet e = csr_next ∙ cond_false told_now (trap_entry after (ys.pc (suc q)) (ys.cause (suc q)) (ys.tval (suc q))) after e

  -- with one
  csr_told : told_now ≡ true → csr (suc (suc q)) ≡ trap_entry after (ys.pc (suc q)) (ys.cause (suc q)) (ys.tval (suc q))
  csr_told e = csr_next ∙ cond_true told_now (trap_entry after (ys.pc (suc q)) (ys.cause (suc q)) (ys.tval (suc q))) after e

  -- the program's pc after an event
  apc_event : event sh p (suc q) ≡ true → (b : Bool) → (asked sh p (suc q) || faulty sh p (suc q)) ≡ b → p.apc (suc (suc q)) ≡ cond b (target sh p (suc q)) (next_pc sh p (suc q))
  apc_event e b z =
      steps.apc q ∙ cond_true (event sh p (suc q)) (cond (asked sh p (suc q) || faulty sh p (suc q)) (target sh p (suc q)) (next_pc sh p (suc q))) (p.apc (suc q)) e
      ∙ ap (λ b. cond b (target sh p (suc q)) (next_pc sh p (suc q))) z

  -- the stop
  stopped_is : (t : Bool) → traps sh p (suc q) ≡ t → (b : Bool) → core.set.system ≡ b → p.stopped (suc (suc q)) ≡ (not b && (p.stopped (suc q) || t))
  stopped_is t a b f = steps.stopped q ∙ (λ i. not ((is_core.system ∙ f) i) && (p.stopped (suc q) || a i))

  -- ---- a cycle that ends an item
  module _ (e : ends sh p (suc q) ≡ true) where
    -- the machine's step
    en : End c
    en = ended c e

    -- the item that ends
    hd : Head c
    hd = head c (ends_run sh p (suc q) e)

    -- its end is an event
    ev : event sh p (suc q) ≡ true
    ev = end_event sh p (suc q) e

    -- so the step of this cycle is that of the item
    did_end : did core p run' (suc q) m ≡ en.done
    unfolding did en
    did_end = cond_false (irq sh p (suc q)) (interrupt m (p.system.irq_cause (suc q))) (done_or (outcome_of core.set m (fetched_in x) (moments (suc q))) (interrupt m 0)) hd.quiet
        ∙ ap (λ o. done_or o (interrupt m 0)) en.outcome

    -- the history after it
    h2_end : h2 ≡ record { cycle = suc q; done = en.done } ∷ h
    h2_end = h2_event ev ∙ ap (λ d. record { cycle = suc q; done = d } ∷ h) did_end

    -- and the machine
    m2_end : m2 ≡ en.done.new
    m2_end = ap (now begin) h2_end

    -- System is told of a trap or a retirement
    kind_end : (f : core.set.system ≡ true) (t : Bool) → traps sh p (suc q) ≡ t → ys.kind (suc q) ≡ cond t 1 0
    kind_end f t a =
        kind_is c ev f ∙ (λ i. cond (hd.calm i) 2 (cond (sym (faulty_is sh p (suc q) e) i) 1 0)) ∙ ap (λ b. cond b 1 0) a

    -- the CSRs after it are the machine's
    end_csrs : (t : Bool) → traps sh p (suc q) ≡ t → (b : Bool) → core.set.system ≡ b
        → cond t (cond b (trap_entry m.csrs m.pc (trap_cause sh p (suc q)) (trap_value sh p (suc q))) m.csrs) after ≡ csr (suc (suc q))
    unfolding en
    end_csrs true a true f =
        let z : told_now ≡ true = and_yes (ys.event (suc q)) (not (eqb (ys.kind (suc q)) 0)) (event_is c q ∙ and_yes core.set.system (event sh p (suc q)) f ev) (ap (λ v. not (eqb v 0)) (kind_end f true a)) in
        sym (csr_told z ∙ (λ i. trap_entry ((en.kept_csrs a ∙ sym inv.csrs) i)
        ((pc_is c f ∙ sym hd.path ∙ at_pc c hd) i)
        ((told_cause c ev f ∙ cond_false (asked sh p (suc q)) (p.system.irq_cause (suc q)) (trap_cause sh p (suc q)) hd.calm) i)
        ((told_tval c ev f ∙ cond_false (asked sh p (suc q)) 0 (trap_value sh p (suc q)) hd.calm) i)))
    end_csrs true a false f =
        let z : told_now ≡ false = and_no_l (ys.event (suc q)) (not (eqb (ys.kind (suc q)) 0)) (event_is c q ∙ and_no_l core.set.system (event sh p (suc q)) f) in
        inv.csrs ∙ sym (en.kept_csrs a) ∙ sym (csr_quiet z)
    end_csrs false a true f = sym (csr_quiet (and_no_r (ys.event (suc q)) (not (eqb (ys.kind (suc q)) 0)) (ap (λ v. not (eqb v 0)) (kind_end f false a))))
    end_csrs false a false f = sym (csr_quiet (and_no_l (ys.event (suc q)) (not (eqb (ys.kind (suc q)) 0)) (event_is c q ∙ and_no_l core.set.system (event sh p (suc q)) f)))

    -- the program's pc after it
    apc_end : (t : Bool) → traps sh p (suc q) ≡ t → p.apc (suc (suc q)) ≡ cond t (target sh p (suc q)) (next_pc sh p (suc q))
    apc_end t a = apc_event ev t ((λ i. hd.calm i || sym (faulty_is sh p (suc q) e) i) ∙ a)

    -- is the machine's
    end_pc : (t : Bool) → traps sh p (suc q) ≡ t → (b : Bool) → core.set.system ≡ b → p.stopped (suc (suc q)) ≡ false → en.done.new.pc ≡ p.apc (suc (suc q))
    unfolding en
    end_pc true a true f z = en.facts.enters a f ∙ sym (apc_end true a ∙ target_sys c f)
    end_pc true a false f z = both (p.stopped (suc (suc q))) (stopped_is true a false f ∙ or_true (p.stopped (suc q)) true refl) z
    end_pc false a b f z = en.facts.goes a ∙ sym (apc_end false a)

    -- and a multiple of 4
    end_whole : (t : Bool) → traps sh p (suc q) ≡ t → p.apc (suc (suc q)) % 4 ≡ 0
    unfolding en
    end_whole true a = ap (λ v. v % 4) (apc_end true a) ∙ target_whole c
    end_whole false a = ap (λ v. v % 4) (apc_end false a) ∙ en.whole_next a

    -- the machine's CSRs hold addresses of instructions
    end_are_csrs : (t : Bool) → traps sh p (suc q) ≡ t → (b : Bool) → core.set.system ≡ b → IsCsrs (cond t (cond b (trap_entry m.csrs m.pc (trap_cause sh p (suc q)) (trap_value sh p (suc q))) m.csrs) after)
    unfolding en
    end_are_csrs true a true f = entered m.csrs m.pc (trap_cause sh p (suc q)) (trap_value sh p (suc q)) (ap (λ v. v % 4) (sym (at_pc c hd) ∙ hd.path) ∙ inv.whole) inv.is_csrs
    end_are_csrs true a false f = inv.is_csrs
    end_are_csrs false a b f = en.are_csrs a

    -- the CSRs of the step
    facts_csrs : en.done.new.csrs ≡ cond (traps sh p (suc q)) (cond core.set.system (trap_entry m.csrs m.pc (trap_cause sh p (suc q)) (trap_value sh p (suc q))) m.csrs) after
    unfolding en
    facts_csrs = en.facts.csrs

    -- the step continues the run of the machine
    next_end : Continues core.set begin (lines_at run') h (record { cycle = suc q; done = en.done })
    unfolding en
    next_end =
        let se = seen_now c (ends_run sh p (suc q) e) in
        record {
          later = inv.last;
          fetched = fetched_in x;
          possible = subst (λ v. Possible begin h v (fetched_in x)) (at_pc c hd) (inv.truth hd.valid (no_fence c hd.flush));
          step = record { goes = en.halted; how = inr en.outcome };
          unpressed = subst (λ b. IsUnpressed b (lines_at run') m.csrs (last_cycle h) (suc q)) (sym en.facts.plain) (se.0, se.1, (let z : se.0 < suc (suc q) = se.2 in omega arith), se.3);
        }

    -- memory is the machine's
    memory_end : mem (suc q) ≡ en.done.new.memory
    unfolding en
    memory_end = inv.memory_is ∙ sym en.facts.memory

    -- what memory holds may be fetched
    possible_end : (pc : ℕ) (got : Fetched) → FetchedFrom (mem (suc q)) pc got → Possible begin h2 pc got
    possible_end pc got f = subst (λ y. Possible begin y pc got) (sym h2_end) (inl (subst (λ y. FetchedFrom y pc got) memory_end f))

    -- and what might be fetched before still may, unless FENCE.I retired
    keep_end : (pc : ℕ) (got : Fetched) → p.flush_fence (suc (suc q)) ≡ false → Possible begin h pc got → Possible begin h2 pc got
    unfolding en
    keep_end pc got f y = subst (λ z. Possible begin z pc got) (sym h2_end) (inr (by (is_fence en.done.event) refl, y))
      where
        by : (b : Bool) → is_fence en.done.event ≡ b → is_fence en.done.event ≡ false
        by true g = both (p.flush_fence (suc (suc q))) (steps.flush_fence q ∙ ap (λ b. b && wire.fence sh p (suc q)) (retires_is sh p (suc q) e) ∙ en.facts.fenced g) f
        by false g = g

    -- all facts after an end
    after_end : After
    unfolding en
    after_end = record {
      regs = ap (λ y. y.regs) m2_end ∙ en.facts.regs ∙ ap (λ b. put (record { writes = b; rd = rd_of x.word; value = value sh p (suc q) }) m.regs) (sym (writes_is sh p (suc q) e (silent_writes c hd.valid)));
      csrs = ap (λ y. y.csrs) m2_end ∙ facts_csrs ∙ end_csrs (traps sh p (suc q)) refl core.set.system refl;
      are_csrs = subst IsCsrs (sym (ap (λ y. y.csrs) m2_end ∙ facts_csrs)) (end_are_csrs (traps sh p (suc q)) refl core.set.system refl);
      pc = λ z. ap (λ y. y.pc) m2_end ∙ end_pc (traps sh p (suc q)) refl core.set.system refl z;
      whole = end_whole (traps sh p (suc q)) refl;
      halted = ap (λ y. y.stopped) m2_end ∙ en.facts.stopped ∙ sym (stopped_is (traps sh p (suc q)) refl core.set.system refl ∙ ap (λ b. not core.set.system && (b || traps sh p (suc q))) (not_stopped c hd));
      memory_is = memory_same en.no_put ∙ memory_end ∙ ap (λ y. y.memory) (sym m2_end) ∙ ap (with_store m2.memory) (sym (pend_event ev));
      log = log_same en.no_put ∙ inv.log ∙ ap (λ o. option_to_list o ++ writes_of h) (sym en.facts.wrote) ∙ ap writes_of (sym h2_end) ∙ ap (λ o. option_to_list o ++ writes_of h2) (sym (pend_event ev));
      runs = subst (λ y. IsRun core.set begin (lines_at run') y) (sym h2_end) (inv.runs, next_end);
      last = subst (λ y. last_cycle y < suc (suc q)) (sym h2_end) (le_refl (suc (suc q)));
      keeps = keep_end;
      old = λ pc got f. inl (possible_end pc got f);
      fresh = λ w pc got f. possible_end pc got f;
      idle = λ w. pend_event ev;
    }

  -- ---- a cycle with an interrupt
  module _ (i : irq sh p (suc q) ≡ true) where
    -- an interrupt is taken
    ip : (sh.system ≡ true) × (p.system.take_irq (suc q) ≡ true) × (p.started (suc q) ≡ false) × (kill sh p (suc q) ≡ false)
    ip = irq_parts sh p (suc q) i

    -- there is System
    i_sys : core.set.system ≡ true
    i_sys = irq_system c i

    -- it is an event
    i_event : event sh p (suc q) ≡ true
    i_event = irq_event sh p (suc q) i

    -- and the event is told as an interrupt
    i_asked : asked sh p (suc q) ≡ true
    i_asked = asked_is sh p (suc q) ip.3 ∙ i

    -- nothing ends
    i_end : ends sh p (suc q) ≡ false
    i_end = no_run_no_end sh p (suc q) (irq_no_run sh p (suc q) i)

    -- the machine's pc is the program's
    pub i_pc : m.pc ≡ p.apc (suc q)
    i_pc = inv.pc (runs_on c q i_sys)

    -- no write waits
    i_pend : pend sh p run' (suc q) ≡ None
    i_pend = inv.idle ip.2

    -- and none is accepted
    i_put : is_write db (suc q) ≡ false
    i_put = quiet_cycle c (idle_accepts c ip.2)

    -- the part that offers System is not done
    i_rests : sys.done (suc q) ≡ false
    i_rests = sys_rests c (λ k a o. none_is_done c i_end k a (λ g. (go_parts c k a g).runs o))

    -- the CSRs after it are the machine's
    i_csrs : trap_entry m.csrs m.pc (p.system.irq_cause (suc q)) 0 ≡ csr (suc (suc q))
    i_csrs =
        let k : ys.kind (suc q) ≡ 2 = kind_is c i_event i_sys ∙ cond_true (asked sh p (suc q)) 2 (cond (faulty sh p (suc q)) 1 0) i_asked in
        let z : told_now ≡ true = and_yes (ys.event (suc q)) (not (eqb (ys.kind (suc q)) 0)) (event_is c q ∙ and_yes core.set.system (event sh p (suc q)) i_sys i_event) (ap (λ v. not (eqb v 0)) k) in
        sym (csr_told z ∙ (λ o. trap_entry ((quiet_after c i_rests ∙ sym inv.csrs) o)
        ((pc_is c i_sys ∙ sym i_pc) o)
        ((told_cause c i_event i_sys ∙ cond_true (asked sh p (suc q)) (p.system.irq_cause (suc q)) (trap_cause sh p (suc q)) i_asked) o)
        ((told_tval c i_event i_sys ∙ cond_true (asked sh p (suc q)) 0 (trap_value sh p (suc q)) i_asked) o)))

    -- the step of this cycle is the interrupt
    did_irq : did core p run' (suc q) m ≡ interrupt m (p.system.irq_cause (suc q))
    unfolding did
    did_irq = cond_true (irq sh p (suc q)) (interrupt m (p.system.irq_cause (suc q))) (done_or (outcome_of core.set m (fetched_in x) (moments (suc q))) (interrupt m 0)) i

    -- the history after it
    h2_irq : h2 ≡ record { cycle = suc q; done = interrupt m (p.system.irq_cause (suc q)) } ∷ h
    h2_irq = h2_event i_event ∙ ap (λ d. record { cycle = suc q; done = d } ∷ h) did_irq

    -- and the machine
    m2_irq : m2 ≡ (interrupt m (p.system.irq_cause (suc q))).new
    m2_irq = ap (now begin) h2_irq

    -- the program's pc after it
    i_apc : p.apc (suc (suc q)) ≡ target sh p (suc q)
    i_apc = apc_event i_event true (ap (λ b. b || faulty sh p (suc q)) i_asked)

    -- memory is the machine's
    i_memory : mem (suc q) ≡ m.memory
    i_memory = inv.memory_is ∙ ap (with_store m.memory) i_pend

    -- what memory holds may be fetched
    possible_irq : (pc : ℕ) (got : Fetched) → FetchedFrom (mem (suc q)) pc got → Possible begin h2 pc got
    possible_irq pc got f = subst (λ y. Possible begin y pc got) (sym h2_irq) (inl (subst (λ y. FetchedFrom y pc got) i_memory f))

    -- the interrupt continues the run of the machine
    next_irq : Continues core.set begin (lines_at run') h (record { cycle = suc q; done = interrupt m (p.system.irq_cause (suc q)) })
    next_irq =
        let got = got_at m.memory m.pc in
        record {
          later = inv.last;
          fetched = got.0;
          possible = possible_now begin h m.pc got.0 got.1;
          step = record { goes = inv.halted ∙ runs_on c q i_sys; how = inl (p.system.irq_cause (suc q), irq_pending c i, refl) };
          unpressed = tt;
        }
      where
        by : (y : Memory) (pc : ℕ) (o : Option ℕ) → word_at y pc ≡ o → (got : Fetched) × FetchedFrom y pc got
        by y pc None z = (Error, z)
        by y pc (Some w) z = (Word w, z)

        got_at : (y : Memory) (pc : ℕ) → (got : Fetched) × FetchedFrom y pc got
        got_at y pc = by y pc (word_at y pc) refl

    -- all facts after an interrupt
    after_irq : After
    after_irq = record {
      regs = ap (λ y. y.regs) m2_irq ∙ ap (λ b. put (record { writes = b; rd = rd_of x.word; value = value sh p (suc q) }) m.regs) (sym (no_end sh p (suc q) i_end).2);
      csrs = ap (λ y. y.csrs) m2_irq ∙ i_csrs;
      are_csrs = subst IsCsrs (sym (ap (λ y. y.csrs) m2_irq)) (entered m.csrs m.pc (p.system.irq_cause (suc q)) 0 (ap (λ v. v % 4) i_pc ∙ inv.whole) inv.is_csrs);
      pc = λ z. ap (λ y. y.pc) m2_irq ∙ sym (i_apc ∙ target_sys c i_sys);
      whole = ap (λ v. v % 4) i_apc ∙ target_whole c;
      halted = ap (λ y. y.stopped) m2_irq ∙ inv.halted ∙ runs_on c q i_sys ∙ sym (runs_on c (suc q) i_sys);
      memory_is = memory_same i_put ∙ i_memory ∙ ap (λ y. y.memory) (sym m2_irq) ∙ ap (with_store m2.memory) (sym (pend_event i_event));
      log = log_same i_put ∙ inv.log ∙ ap (λ o. option_to_list o ++ writes_of h) i_pend ∙ ap writes_of (sym h2_irq) ∙ ap (λ o. option_to_list o ++ writes_of h2) (sym (pend_event i_event));
      runs = subst (λ y. IsRun core.set begin (lines_at run') y) (sym h2_irq) (inv.runs, next_irq);
      last = subst (λ y. last_cycle y < suc (suc q)) (sym h2_irq) (le_refl (suc (suc q)));
      keeps = λ pc got f y. subst (λ z. Possible begin z pc got) (sym h2_irq) (inr (refl, y));
      old = λ pc got f. inl (possible_irq pc got f);
      fresh = λ w pc got f. possible_irq pc got f;
      idle = λ w. pend_event i_event;
    }

  -- ---- a cycle without an event
  module _ (no : event sh p (suc q) ≡ false) where
    -- there is no event
    ne : (ends sh p (suc q) ≡ false) × (irq sh p (suc q) ≡ false)
    ne = no_event sh p (suc q) no

    -- nothing traps, retires or writes
    nx : (traps sh p (suc q) ≡ false) × (retires sh p (suc q) ≡ false) × (writes sh p (suc q) ≡ false)
    nx = no_end sh p (suc q) ne.0

    -- the machine stays
    m2_none : m2 ≡ m
    m2_none = ap (now begin) (h2_none no)

    -- and so do its CSRs
    n_csrs : m.csrs ≡ csr (suc (suc q))
    n_csrs =
        let z : told_now ≡ false = and_no_l (ys.event (suc q)) (not (eqb (ys.kind (suc q)) 0)) (event_is c q ∙ and_no_r core.set.system (event sh p (suc q)) no) in
        inv.csrs ∙ sym (csr_quiet z ∙ quiet_after c (sys_rests c (λ k a o. none_is_done c ne.0 k a (λ g. (go_parts c k a g).runs o))))

    -- the program's pc
    n_apc : p.apc (suc (suc q)) ≡ p.apc (suc q)
    n_apc = steps.apc q ∙ cond_false (event sh p (suc q)) (cond (asked sh p (suc q) || faulty sh p (suc q)) (target sh p (suc q)) (next_pc sh p (suc q))) (p.apc (suc q)) no

    -- and the stop
    n_stop : p.stopped (suc (suc q)) ≡ p.stopped (suc q)
    n_stop = by core.set.system refl
      where
        or_none : (b : Bool) → (b || false) ≡ b
        or_none true = refl
        or_none false = refl

        by : (b : Bool) → core.set.system ≡ b → p.stopped (suc (suc q)) ≡ p.stopped (suc q)
        by true f = runs_on c (suc q) f ∙ sym (runs_on c q f)
        by false f = stopped_is false nx.0 false f ∙ or_none (p.stopped (suc q))

    -- the write that is accepted now
    memory_none : (b : Bool) → is_write db (suc q) ≡ b → mem (suc (suc q)) ≡ with_store m.memory (cond b (Some (store_at db (suc q))) (pend sh p run' (suc q)))
    memory_none true z =
        memory_by_stores memory db (suc q) ∙ cond_true (is_write db (suc q)) (with_store (mem (suc q)) (Some (store_at db (suc q)))) (mem (suc q)) z
        ∙ ap (λ y. with_store y (Some (store_at db (suc q)))) (inv.memory_is ∙ ap (with_store m.memory) (put_now c z).first)
    memory_none false z = memory_same z ∙ inv.memory_is

    -- a write that is accepted is the one that waits
    log_none : (b : Bool) → is_write db (suc q) ≡ b → writes_before db (suc (suc q)) ≡ option_to_list (cond b (Some (store_at db (suc q))) (pend sh p run' (suc q))) ++ writes_of h
    unfolding writes_before
    log_none true z = cond_true (is_write db (suc q)) (store_at db (suc q) ∷ writes_before db (suc q)) (writes_before db (suc q)) z
        ∙ ap (λ y. store_at db (suc q) ∷ y) (inv.log ∙ ap (λ o. option_to_list o ++ writes_of h) (put_now c z).first)
    log_none false z = cond_false (is_write db (suc q)) (store_at db (suc q) ∷ writes_before db (suc q)) (writes_before db (suc q)) z ∙ inv.log

    -- what memory held may be fetched, or is there still
    old_none : (b : Bool) → is_write db (suc q) ≡ b → (pc : ℕ) (got : Fetched) → FetchedFrom (mem (suc q)) pc got → Possible begin h pc got ⊎ FetchedFrom (mem (suc (suc q))) pc got
    old_none true z pc got f = inl (possible_now begin h pc got (subst (λ y. FetchedFrom y pc got) (inv.memory_is ∙ ap (with_store m.memory) (put_now c z).first) f))
    old_none false z pc got f = inr (subst (λ y. FetchedFrom y pc got) (sym (memory_same z)) f)

    -- where nothing is started, memory is the machine's
    fresh_none : (p.started (suc q) ≡ false) ⊎ (ends sh p (suc q) ≡ true) → (pc : ℕ) (got : Fetched) → FetchedFrom (mem (suc q)) pc got → Possible begin h pc got
    fresh_none (inl z) pc got f = possible_now begin h pc got (subst (λ y. FetchedFrom y pc got) (inv.memory_is ∙ ap (with_store m.memory) (inv.idle z)) f)
    fresh_none (inr e) pc got f = both (ends sh p (suc q)) e ne.0

    -- what does not run on is not started
    not_started : run sh p (suc q) && not (ends sh p (suc q)) ≡ false → (b : Bool) → p.started (suc q) ≡ b → p.started (suc q) ≡ false
    not_started w true z = both (run sh p (suc q) && not (ends sh p (suc q))) (and_yes (run sh p (suc q)) (not (ends sh p (suc q))) (started_runs sh p (suc q) (inv.started z).valid z) (ap not ne.0)) w
    not_started w false z = z

    -- where nothing is started, no write waits
    idle_none : p.started (suc q) ≡ false → (b : Bool) → is_write db (suc q) ≡ b → cond b (Some (store_at db (suc q))) (pend sh p run' (suc q)) ≡ None
    idle_none w true z = both (p.started (suc q)) (put_now c z).works w
    idle_none w false z = inv.idle w

    -- all facts after a cycle without an event
    after_none : After
    after_none = record {
      regs = ap (λ y. y.regs) m2_none ∙ ap (λ b. put (record { writes = b; rd = rd_of x.word; value = value sh p (suc q) }) m.regs) (sym nx.2);
      csrs = ap (λ y. y.csrs) m2_none ∙ n_csrs;
      are_csrs = subst IsCsrs (sym (ap (λ y. y.csrs) m2_none)) inv.is_csrs;
      pc = λ z. ap (λ y. y.pc) m2_none ∙ inv.pc (sym n_stop ∙ z) ∙ sym n_apc;
      whole = ap (λ v. v % 4) n_apc ∙ inv.whole;
      halted = ap (λ y. y.stopped) m2_none ∙ inv.halted ∙ sym n_stop;
      memory_is = memory_none (is_write db (suc q)) refl ∙ (λ i. with_store (sym m2_none i).memory (sym (pend_none no) i));
      log = log_none (is_write db (suc q)) refl ∙ (λ i. option_to_list (sym (pend_none no) i) ++ writes_of (sym (h2_none no) i));
      runs = subst (λ y. IsRun core.set begin (lines_at run') y) (sym (h2_none no)) inv.runs;
      last = subst (λ y. last_cycle y < suc (suc q)) (sym (h2_none no)) (let z : last_cycle h < suc q = inv.last in omega arith);
      keeps = λ pc got f y. subst (λ z. Possible begin z pc got) (sym (h2_none no)) y;
      old = λ pc got f. subst (λ z. Possible begin z pc got ⊎ FetchedFrom (mem (suc (suc q))) pc got) (sym (h2_none no)) (old_none (is_write db (suc q)) refl pc got f);
      fresh = λ w pc got f. subst (λ z. Possible begin z pc got) (sym (h2_none no)) (fresh_none w pc got f);
      idle = λ w. pend_none no ∙ idle_none (not_started w (p.started (suc q)) refl) (is_write db (suc q)) refl;
    }

  -- all facts after any cycle
  pub after_cycle : After
  after_cycle = by_end (ends sh p (suc q)) refl
    where
      by_irq : (b : Bool) → irq sh p (suc q) ≡ b → ends sh p (suc q) ≡ false → After
      by_irq true i e = after_irq i
      by_irq false i e = after_none (event_none sh p (suc q) e i)

      by_end : (b : Bool) → ends sh p (suc q) ≡ b → After
      by_end true e = after_end e
      by_end false e = by_irq (irq sh p (suc q)) refl e

  -- the step of a cycle in which an item ends
  pub did_is_done : (e : ends sh p (suc q) ≡ true) → did core p run' (suc q) m ≡ (ended c e).done
  unfolding en
  did_is_done e = did_end e

  -- and of one in which an interrupt is taken
  pub did_is_irq : irq sh p (suc q) ≡ true → did core p run' (suc q) m ≡ interrupt m (p.system.irq_cause (suc q))
  did_is_irq i = did_irq i
