-- The pipeline follows the machine.
use Rattle.std.proofs.Common.{◌≡◌, ℕ, zero, suc, ◌%◌, ◌<◌, ◌≤◌, Bool, true, false, cond, not, eqb, List, [], ◌∷◌, ◌++◌, ◌&&◌, ◌⊎◌, inl, inr, set, length, refl, ap, ◌∙◌, sym, subst, arith, Option, Some, None, is_some}
use Rattle.std.specs.Prelude.{option_to_list}
use Rattle.std.proofs.Math.Nat.{le_refl}
use Rattle.core_ports.specs.Trace.{Bus, Trace, data_bus, has_event, instruction_bus, port_event, lines_at}
use Rattle.bus_law.specs.Duties.{KeepsDuties, breaks_form, breaks_standing, breaks_waiting, is_mask, is_repeated}
use Rattle.bus_law.specs.Honest.{Honest}
use Rattle.bus_law.specs.Memory.{IsMemory, Memory, Store, with_store, written}
use Rattle.bus_law.specs.Prompt.{store_at}
use Rattle.bus_law.specs.Protocol.{is_accepted, is_given, is_write, memory_at, owed, writes_before}
use Rattle.isa_csr.specs.Csrs.{reset_csrs}
use Rattle.isa_model.specs.Machine.{Fetched, Machine, misa_of, shown}
use Rattle.isa_model.specs.Run.{FetchedFrom, History, IsRun, now, writes_of}
use Rattle.isa_follow.specs.Follows.{Follows, Goes, Made}
use Rattle.plug_law.specs.Exec.{ExecAssumed, busy}
use Rattle.plug_law.specs.Fetch.{FetchAssumed}
use Rattle.pipe_law.proofs.Fetched.{Held}
use Rattle.plug_law.specs.Pipeline.{Idle, Late, Pipe, Shape, ends, event, irq, kill, member, run}
use Rattle.plug_law.specs.RegFile.{regs_at}
use Rattle.plug_law.specs.System.{csrs_at}
use Rattle.pipe_law.proofs.After.{did_is_done, did_is_irq}
use Rattle.pipe_law.proofs.Basics.{and_l, and_no_l, both, cond_false}
use Rattle.pipe_law.proofs.Cycle.{end_event, event_by, irq_event, irq_parts, run_valid, takes_parts}
use Rattle.pipe_law.proofs.End.{ended}
use Rattle.pipe_law.proofs.Invariant.{Here, Inv, bus_at, did, grow, pend}
use Rattle.pipe_law.proofs.Memories.{memory_at_is}
use Rattle.pipe_law.proofs.Next.{bus_honest, next}
use Rattle.pipe_law.proofs.Registers.{Fits, applied}
use Rattle.pipe_law.proofs.Told.{data_kept, made_next, memory_event, told_of_end, told_of_irq}
use Rattle.pipe_law.proofs.Unit.{fetch_kept}
use Rattle.pipe_law.specs.Core.{Core, IsCore, begin_at, csrs_in, mem_of, terms_at}
use Rattle.pipe_law.proofs.Stage.{StageLaws, StageSteps}

-- a tail without results changes no register
none_applied : (xs : List Late) (regs : List ℕ) → Idle xs → applied xs regs ≡ regs
none_applied [] regs h = refl
none_applied (x ∷ xs) regs h = cond_false x.writes (set (applied xs regs) x.rd x.value) (applied xs regs) h.0 ∙ none_applied xs regs h.1

-- and names none
pub none_fits : (xs : List Late) → Idle xs → Fits xs
none_fits [] h = tt
none_fits (x ∷ xs) h = ((λ w. both x.writes w h.0), none_fits xs h.1)

-- of the first cycle alone
at_zero : (A : ℕ → Type 0) (i : ℕ) → suc i ≤ 1 → A 0 → A i
at_zero A zero g f = f
at_zero A (suc i) g f = absurd (omega arith)

-- in cycle 0 no duty can be broken
duties_first : (b : Bus) → KeepsDuties b 0
unfolding breaks_standing breaks_waiting breaks_form is_given
duties_first b = record { stands = refl; waits = refl; forms = refl }

-- duties by cycle, of all cycles
duties : (b : Bus) (n : ℕ) → ((q : ℕ) → suc q < n → KeepsDuties b (suc q)) → (k : ℕ) → k < n → KeepsDuties b k
duties b n f zero l = duties_first b
duties b n f (suc q) l = f q l

-- a bus without commands keeps its duties
pub silent_duties : (b : Bus) → ((k : ℕ) → is_given b k ≡ false) → (k : ℕ) → KeepsDuties b k
unfolding breaks_standing breaks_waiting breaks_form
silent_duties b g zero = duties_first b
silent_duties b g (suc k) = record {
  stands = and_no_l (is_given b k) (not (is_accepted b k) && not (is_repeated b k)) (g k);
  waits = and_no_l (is_given b (suc k)) (is_some (owed b (suc k))) (g (suc k));
  forms = and_no_l (is_given b (suc k)) (not (eqb (b.cmd_addr (suc k) % 4) 0 && is_mask (eqb (b.cmd_write (suc k)) 1) (b.cmd_mask (suc k)))) (g (suc k));
}

module _ (core : Core) (p : Pipe) (run' : Trace) (memory : Memory) (n : ℕ)
    (is_core : IsCore core) (laws : StageLaws core p run' memory) (steps : StageSteps core.shape p run') (is_memory : IsMemory memory) (honest : Honest (instruction_bus run') (data_bus run') memory n) where
  -- short names
  abbrev sh : Shape
  sh = core.shape

  abbrev db : Bus
  db = data_bus run'

  abbrev mem : ℕ → Memory
  mem = mem_of memory run'

  abbrev begin : Machine
  begin = begin_at core memory

  -- the steps before each cycle
  unfoldable pub hist : ℕ → History
  hist zero = []
  hist (suc zero) = []
  hist (suc (suc q)) = grow (event sh p (suc q)) (suc q) (did core p run' (suc q) (now begin (hist (suc q)))) (hist (suc q))

  -- ---- the first cycle

  -- the register file is that of the start
  rf_first : regs_at p.regs core.start 1 ≡ core.start
  unfolding regs_at
  rf_first = cond_false (p.regs.we 0) (set core.start (p.regs.wa 0) (p.regs.wd 0)) core.start steps.we_first

  -- in cycle 0 nothing is written
  writes_first : is_write db 0 ≡ false
  unfolding is_write is_accepted is_given
  writes_first = refl

  -- memory as cycle 1 begins
  memory_first : mem 1 ≡ memory
  unfolding memory_at
  memory_first = cond_false (is_write db 0) (written memory (db.cmd_addr 0) (db.cmd_data 0) (db.cmd_mask 0)) memory writes_first

  -- no write was made
  log_first : writes_before db 1 ≡ []
  unfolding writes_before
  log_first = cond_false (is_write db 0) (store_at db 0 ∷ []) [] writes_first

  -- no unit is at work
  busy_first : (k : ℕ) → busy (p.unit k) 1 ≡ false
  unfolding busy
  busy_first k = refl

  -- the CSRs are those of reset
  csr_first : csrs_in core p run' memory 1 ≡ reset_csrs (misa_of core.set)
  unfolding csrs_at
  csr_first = refl

  -- no write waits
  pend_first : pend sh p run' 1 ≡ None
  unfolding pend
  pend_first = refl

  -- what is in flight is what memory holds
  held_first : (pc : ℕ) (got : Fetched) → Held p.fetch mem 1 pc got → FetchedFrom (mem 1) pc got
  unfolding Held
  held_first pc got (inl o) = o
  held_first pc got (inr o) = absurd o.1

  -- nothing is given
  go_first : (k : ℕ) → member k sh.entries ≡ true → (p.unit k).go 1 ≡ false
  go_first k a = steps.go k 0 a ∙ and_no_l (cond (sh.commits k) (run sh p 1) (p.valid 1)) (p.chosen k 1) (by (sh.commits k))
    where
      no_run : (b : Bool) → run sh p 1 ≡ b → run sh p 1 ≡ false
      no_run true r = both (p.valid 1) (run_valid sh p 1 r) steps.valid_first
      no_run false r = r

      by : (b : Bool) → cond b (run sh p 1) (p.valid 1) ≡ false
      by true = no_run (run sh p 1) refl
      by false = steps.valid_first

  -- what Exec's law assumes of cycle 1
  exec_first : (k : ℕ) → member k sh.entries ≡ true → 1 < n → ExecAssumed (terms_at core k) (p.unit k) (bus_at core run' k) mem 0
  exec_first k a z = record {
    stands = λ e. both (busy (p.unit k) 1) e (busy_first k);
    claimed = λ e. both ((p.unit k).go 1) e (go_first k a);
    kept = λ o e. both (busy (p.unit k) 1) e (busy_first k);
    memory = λ o. memory_at_is memory db is_memory 1;
    honest = bus_honest (core.holds k) db mem 1 (honest.accesses 1 z);
  }

  -- what Fetch's law assumes of it
  asks_first : 1 < n → FetchAssumed p.fetch (instruction_bus run') mem core.predicts core.predict 0
  asks_first z = record {
    takes = λ e. (takes_parts sh p 1 (sym (steps.take 0) ∙ e)).0;
    whole = ap (λ v. v % 4) (steps.redirect_pc 0 ∙ steps.apc_first) ∙ is_core.reset;
    fences = λ e. steps.redirect 0 ∙ and_l (kill sh p 1) (p.flush_fence 1) (sym (steps.fetch_fence 0) ∙ e);
    predicted = λ e. laws.predict e 0;
    honest = honest.fetches 1 z;
  }

  -- the invariant as cycle 1 begins
  first : Inv core p run' memory n 1 []
  first = record {
    regs = ap (λ r. set r 0 0) (sym (none_applied (p.tail 1) (regs_at p.regs core.start 1) steps.tail_first ∙ rf_first));
    size = ap length rf_first ∙ is_core.size;
    fits = none_fits (p.tail 1) steps.tail_first;
    pc = λ z. sym steps.apc_first;
    whole = ap (λ v. v % 4) steps.apc_first ∙ is_core.reset;
    is_csrs = record { mtvec = refl; mepc = refl };
    csrs = sym csr_first;
    halted = sym steps.stopped_first;
    good = λ v. both (p.valid 1) v steps.valid_first;
    chosen = λ v. both (p.valid 1) v steps.valid_first;
    a = λ v. both (p.valid 1) v steps.valid_first;
    b = λ v. both (p.valid 1) v steps.valid_first;
    item = λ v. both (p.valid 1) v steps.valid_first;
    chain = λ v. both (p.valid 1) v steps.valid_first;
    started = λ e. both (p.started 1) e steps.started_first;
    stop = λ e. both (p.stopped 1) e steps.stopped_first;
    fence = λ e. both (p.flush_fence 1) e steps.flush_fence_first;
    truth = λ v. both (p.valid 1) v steps.valid_first;
    held = λ pc got o. inr (held_first pc got o);
    idle = λ e. pend_first;
    memory_is = memory_first ∙ ap (with_store memory) (sym pend_first);
    log = log_first ∙ ap (λ o. option_to_list o ++ []) (sym pend_first);
    runs = tt;
    last = omega arith;
    work = λ k a e. both (busy (p.unit k) 1) e (busy_first k);
    exec = λ k a i g z. at_zero (λ i. suc i < n → ExecAssumed (terms_at core k) (p.unit k) (bus_at core run' k) mem i) i g (exec_first k a) z;
    asks = λ i g z. at_zero (λ i. suc i < n → FetchAssumed p.fetch (instruction_bus run') mem core.predicts core.predict i) i g asks_first z;
    tells = λ i g. absurd (omega arith);
  }

  -- ---- each cycle
  abbrev pub here_with : (q : ℕ) (h : History) → Inv core p run' memory n (suc q) h → suc q < n → Here
  here_with q h inv l = record {
    core = core;
    p = p;
    run' = run';
    memory = memory;
    n = n;
    is_core = is_core;
    laws = laws;
    steps = steps;
    is_memory = is_memory;
    honest = honest;
    q = q;
    h = h;
    inv = inv;
    within = l;
  }

  -- the invariant as each cycle begins
  pub inv_at : (q : ℕ) → suc q ≤ n → Inv core p run' memory n (suc q) (hist (suc q))
  unfolding hist
  inv_at zero l = first
  inv_at (suc q) l = next (here_with q (hist (suc q)) (inv_at q (omega arith)) (omega arith))

  abbrev pub here : (q : ℕ) → suc q < n → Here
  here q l = here_with q (hist (suc q)) (inv_at q (omega arith)) l

  -- ---- the event of a cycle

  -- an end shows the machine's step on the ports
  goes_end : (q : ℕ) → (l : suc q < n) → ends sh p (suc q) ≡ true → Goes true (suc q) (port_event run' (suc q)) (hist (suc q)) (hist (suc (suc q))) (pend sh p run' (suc q))
  unfolding hist
  goes_end q l e =
      let c = here q l in
      let en = ended c e in
      let ev = end_event sh p (suc q) e in
      let di : did core p run' (suc q) (now begin (hist (suc q))) ≡ en.done = did_is_done c e in (
        did core p run' (suc q) (now begin (hist (suc q))),
        ap (λ b. grow b (suc q) (did core p run' (suc q) (now begin (hist (suc q)))) (hist (suc q))) ev,
        ap (λ d. shown d.event) di ∙ en.facts.told ∙ sym (steps.tells q ev ∙ told_of_end c e),
        ap (λ d. d.write) di ∙ en.facts.wrote,
      )

  -- an interrupt shows the machine's step on the ports
  goes_irq : (q : ℕ) → (l : suc q < n) → irq sh p (suc q) ≡ true → Goes true (suc q) (port_event run' (suc q)) (hist (suc q)) (hist (suc (suc q))) (pend sh p run' (suc q))
  unfolding hist
  goes_irq q l i =
      let c = here q l in
      let ev = irq_event sh p (suc q) i in
      let di = did_is_irq c i in (
        did core p run' (suc q) (now begin (hist (suc q))),
        ap (λ b. grow b (suc q) (did core p run' (suc q) (now begin (hist (suc q)))) (hist (suc q))) ev,
        ap (λ d. shown d.event) di ∙ sym (steps.tells q ev ∙ told_of_irq c i),
        ap (λ d. d.write) di ∙ sym ((inv_at q (omega arith)).idle (irq_parts sh p (suc q) i).2),
      )

  -- each cycle does
  goes_by : (q : ℕ) → (l : suc q < n) → (b : Bool) → event sh p (suc q) ≡ b → Goes b (suc q) (port_event run' (suc q)) (hist (suc q)) (hist (suc (suc q))) (pend sh p run' (suc q))
  unfolding hist
  goes_by q l true e = by (event_by sh p (suc q) e)
    where
      by : (ends sh p (suc q) ≡ true) ⊎ (irq sh p (suc q) ≡ true) → Goes true (suc q) (port_event run' (suc q)) (hist (suc q)) (hist (suc (suc q))) (pend sh p run' (suc q))
      by (inl z) = goes_end q l z
      by (inr z) = goes_irq q l z
  goes_by q l false e = ap (λ b. grow b (suc q) (did core p run' (suc q) (now begin (hist (suc q)))) (hist (suc q))) e

  -- in cycle 0 there is no event
  begins : has_event run' 0 ≡ false
  unfolding has_event
  begins = refl

  -- of all cycles
  events_at : (k : ℕ) → k < n → Goes (has_event run' k) k (port_event run' k) (hist k) (hist (suc k)) (pend sh p run' k)
  unfolding hist
  events_at zero l = subst (λ b. Goes b 0 (port_event run' 0) [] [] (pend sh p run' 0)) (sym begins) refl
  events_at (suc q) l = subst (λ b. Goes b (suc q) (port_event run' (suc q)) (hist (suc q)) (hist (suc (suc q))) (pend sh p run' (suc q))) (sym (steps.shows q)) (goes_by q l (event sh p (suc q)) refl)

  -- the history is a run of the machine
  runs_at : (k : ℕ) → k ≤ n → IsRun core.set begin (lines_at run') (hist k)
  unfolding hist
  runs_at zero l = tt
  runs_at (suc q) l = (inv_at q l).runs

  -- after each event memory is the machine's
  memory_after : (k : ℕ) → k < n → has_event run' k ≡ true → (now begin (hist (suc k))).memory ≡ mem (suc k)
  unfolding hist
  memory_after zero l e = both (has_event run' 0) e begins
  memory_after (suc q) l e = memory_event (here q l) (sym (steps.shows q) ∙ e)

  -- the accepted writes are those of the run, and the one that waits
  writes_at : (k : ℕ) → k ≤ n → writes_before db k ≡ option_to_list (pend sh p run' k) ++ writes_of (hist k)
  unfolding hist writes_before pend
  writes_at zero l = refl
  writes_at (suc q) l = (inv_at q l).log

  -- a write that waits is one that some next step makes
  made_by_pend : (q : ℕ) → suc q < n → (o : Option Store) → pend sh p run' (suc (suc q)) ≡ o → Made core.set begin (hist (suc (suc q))) o
  unfolding hist
  made_by_pend q l None z = tt
  made_by_pend q l (Some w) z = made_next (here q l) w z

  -- of all cycles
  made_at : (k : ℕ) → k ≤ n → Made core.set begin (hist k) (pend sh p run' k)
  unfolding pend
  made_at zero l = tt
  made_at (suc zero) l = tt
  made_at (suc (suc q)) l = made_by_pend q l (pend sh p run' (suc (suc q))) refl

  -- ---- the duties

  -- the duties on the instruction bus
  fetch_at : (q : ℕ) → suc q < n → KeepsDuties (instruction_bus run') (suc q)
  fetch_at q l = (fetch_kept (here q l)).duties

  -- without DataBus no command is given
  no_given : sh.holds ≡ false → (i : ℕ) → is_given db i ≡ false
  unfolding is_given
  no_given e zero = refl
  no_given e (suc i) = ap (λ v. eqb v 1) (steps.no_data i e).0

  -- the duties on the data bus
  data_duties : (b : Bool) → sh.holds ≡ b → (k : ℕ) → k < n → KeepsDuties db k
  data_duties true e k l = let d = is_core.data_entry e in duties db n (λ q z. data_kept (here q z) d.0 d.1 d.2) k l
  data_duties false e k l = silent_duties db (no_given e) k

  -- the run follows the machine
  pub stage_follows : Follows core.set begin run' n
  unfolding hist
  stage_follows = record {
    history = hist;
    waiting = pend sh p run';
    begins = refl;
    events = events_at;
    runs = runs_at n (le_refl n);
    memory = memory_after;
    writes = writes_at;
    made = made_at;
    fetch_duties = duties (instruction_bus run') n fetch_at;
    data_duties = data_duties sh.holds refl;
  }

  -- its history
  pub history_is : hist ≡ stage_follows.history
  unfolding stage_follows
  history_is = refl
