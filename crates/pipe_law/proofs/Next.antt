-- What the laws assume of this cycle and the next, and the invariant in the next cycle.
use Rattle.std.proofs.Common.{◌≡◌, ℕ, zero, suc, ◌%◌, ◌<◌, ◌≤◌, Bool, true, false, cond, not, eqb, ◌&&◌, ◌||◌, length, refl, ap, ◌∙◌, sym, subst, arith, Some, None}
use Rattle.std.proofs.lemmas.Bool.Decides.{nat_tests}
use Rattle.core_ports.specs.Trace.{Bus, data_bus, instruction_bus}
use Rattle.bus_law.specs.Honest.{IsHonestAt, Responds, data_reply}
use Rattle.bus_law.specs.Memory.{Memory}
use Rattle.bus_law.specs.Protocol.{is_accepted, is_given, owed}
use Rattle.isa_model.specs.Effects.{Moment}
use Rattle.isa_model.specs.Machine.{Machine}
use Rattle.isa_model.specs.Run.{now}
use Rattle.plug_law.specs.Exec.{ExecAssumed, ExecSignals, bus_of, busy, no_bus}
use Rattle.plug_law.specs.Fetch.{FetchAssumed}
use Rattle.plug_law.specs.Pipeline.{Shape, Slot, asked, ends, event, except_cause, faulty, finished, irq, kill, leaves, made_late, member, run, takes, through, trap_cause, trap_value, tval}
use Rattle.plug_law.specs.RegFile.{regs_at}
use Rattle.plug_law.specs.System.{SystemAssumed, SystemSignals}
use Rattle.pipe_law.proofs.After.{after_cycle, h2}
use Rattle.pipe_law.proofs.Basics.{and_l, and_r, and_yes, both, cond_false, cond_true, eqb_refl, not_true, or_true, same}
use Rattle.pipe_law.proofs.Cycle.{end_event, faulty_is, run_valid, started_runs, takes_parts, traps_is}
use Rattle.pipe_law.proofs.End.{sys_is}
use Rattle.pipe_law.proofs.Front.{a_next, b_next, chain_next, chosen_next, good_next, item_next, late_fits, regs_next, rf_next}
use Rattle.pipe_law.proofs.Invariant.{Here, Inv, bus_at}
use Rattle.pipe_law.proofs.Irq.{event_is, kind_is, pc_is, told_cause, told_tval}
use Rattle.pipe_law.proofs.Memories.{memory_at_is}
use Rattle.pipe_law.proofs.Outcome.{not_excepted, row_is, tval_of}
use Rattle.pipe_law.proofs.Registers.{Fits, fits_shift, length_put}
use Rattle.pipe_law.proofs.Unit.{cause_is, finished_is, go_parts, head, kept, trap_is, tval_is}
use Rattle.pipe_law.proofs.Words.{fence_next, held_next, stop_next, truth_next}
use Rattle.pipe_law.proofs.Work.{busy_parts, started_parts, w_plain, w_slot, w_started, w_valid, work_next, works_on}
use Rattle.pipe_law.specs.Core.{begin_at, mem_of, moment_at, sys_of, terms_at, told_of}
use Rattle.plug_law.specs.Pipeline as wire

-- a bus on which nothing happens is honest
pub no_bus_owed : (i : ℕ) → owed no_bus i ≡ None
unfolding owed is_accepted is_given
no_bus_owed zero = refl
no_bus_owed (suc zero) = refl
no_bus_owed (suc (suc i)) = no_bus_owed (suc i)

-- a bus on which nothing happens is honest
pub no_bus_honest : (mem : ℕ → Memory) (i : ℕ) → IsHonestAt data_reply no_bus mem i
no_bus_honest mem i = record { starts = λ z. refl; responds = subst (Responds data_reply no_bus mem i) (sym (no_bus_owed i)) refl }

-- so is the data bus of each part
pub bus_honest : (b : Bool) (db : Bus) (mem : ℕ → Memory) (i : ℕ) → IsHonestAt data_reply db mem i → IsHonestAt data_reply (bus_of b db) mem i
bus_honest true db mem i h = h
bus_honest false db mem i h = no_bus_honest mem i

-- of the cycles so far and this one
by_case : {A : Type 0} (i r : ℕ) → suc i ≤ suc (suc r) → (suc i ≤ suc r → A) → (i ≡ suc r → A) → A
by_case {A = A} i r g f d = by (eqb i (suc r)) refl
  where
    less : (i r : ℕ) → suc i ≤ suc r → eqb i r ≡ false → suc i ≤ r
    less i r g z = grind (arith, nat_tests)

    by : (b : Bool) → eqb i (suc r) ≡ b → A
    by true z = d (same i (suc r) z)
    by false z = f (less i (suc r) g z)

module _ (c : Here) where
  open c use {core, p, run', memory, n, is_core, laws, steps, is_memory, honest, q, h, inv, within}

  -- short names
  abbrev sh : Shape
  sh = core.shape

  abbrev moments : ℕ → Moment
  moments = moment_at run'

  abbrev ib : Bus
  ib = instruction_bus run'

  abbrev db : Bus
  db = data_bus run'

  abbrev mem : ℕ → Memory
  mem = mem_of memory run'

  abbrev bus : ℕ → Bus
  bus = bus_at core run'

  abbrev m : Machine
  m = now (begin_at core memory) h

  abbrev x : Slot
  x = p.slot (suc q)

  abbrev u : ℕ
  u = core.owner (p.slot (suc q)).row

  -- the part that offers System, and its signals
  abbrev sys : ExecSignals
  sys = sys_of core p

  abbrev ys : SystemSignals
  ys = told_of core p

  -- ---- what Exec's law assumes

  -- a go of the next cycle is its item's owner's
  next_go : (k : ℕ) → member k sh.entries ≡ true → (p.unit k).go (suc (suc q)) ≡ true
      → (p.valid (suc (suc q)) ≡ true) × ((p.slot (suc (suc q))).except ≡ false) × (core.owner (p.slot (suc (suc q))).row ≡ k)
  next_go k a e =
      let z = sym (steps.go k (suc q) a) ∙ e in
      let v = by (sh.commits k) (and_l (cond (sh.commits k) (run sh p (suc (suc q))) (p.valid (suc (suc q)))) (p.chosen k (suc (suc q))) z) in
      let y = sym (chosen_next c v k a) ∙ and_r (cond (sh.commits k) (run sh p (suc (suc q))) (p.valid (suc (suc q)))) (p.chosen k (suc (suc q))) z in (
        v,
        not_true (p.slot (suc (suc q))).except (and_l (not (p.slot (suc (suc q))).except) (eqb (core.owner (p.slot (suc (suc q))).row) k) y),
        same (core.owner (p.slot (suc (suc q))).row) k (and_r (not (p.slot (suc (suc q))).except) (eqb (core.owner (p.slot (suc (suc q))).row) k) y),
      )
    where
      by : (b : Bool) → cond b (run sh p (suc (suc q))) (p.valid (suc (suc q))) ≡ true → p.valid (suc (suc q)) ≡ true
      by true r = run_valid sh p (suc (suc q)) r
      by false v = v

  -- a unit is given only its rows, with words of these
  claimed_next : (k : ℕ) → member k sh.entries ≡ true → (p.unit k).go (suc (suc q)) ≡ true
      → (core.claims k ((p.unit k).row (suc (suc q))) ≡ true) × (core.table.row_of ((p.unit k).word (suc (suc q))) ≡ Some ((p.unit k).row (suc (suc q))))
  claimed_next k a e =
      let g = next_go k a e in
      let gd = good_next c g.0 in
      let np = not_excepted core.set.system core.table is_core.table m (p.slot (suc (suc q))) (moments 0) gd g.1 in
      let r : core.table.row_of (p.slot (suc (suc q))).word ≡ Some (p.slot (suc (suc q))).row = row_is core.set.system core.table is_core.table m (p.slot (suc (suc q))) (moments 0) gd g.1 in (
        (λ i. core.claims (sym g.2 i) (steps.go_row k (suc q) a i)) ∙ (is_core.owns (p.slot (suc (suc q))).word (p.slot (suc (suc q))).row r np.2).1,
        ap core.table.row_of (steps.go_word k (suc q) a) ∙ r ∙ ap Some (sym (steps.go_row k (suc q) a)),
      )

  -- what is at work stays given
  go_next : (k : ℕ) → member k sh.entries ≡ true → busy (p.unit k) (suc (suc q)) ≡ true → (p.unit k).go (suc (suc q)) ≡ true
  go_next k a e =
      let b = busy_parts c k a e in
      let w = w_slot c b.0 b.1 in
      let v = w_valid c b.0 b.1 in
      steps.go k (suc q) a ∙ and_yes (cond (sh.commits k) (run sh p (suc (suc q))) (p.valid (suc (suc q)))) (p.chosen k (suc (suc q)))
      (by (sh.commits k) (started_runs sh p (suc (suc q)) v (w_started c b.0 b.1)) v)
      (chosen_next c v k a ∙ and_yes (not (p.slot (suc (suc q))).except) (eqb (core.owner (p.slot (suc (suc q))).row) k) (ap not (ap (λ y. y.except) w ∙ w_plain c b.0 b.1))
      (ap (λ i. eqb i k) (ap (λ y. core.owner y.row) w ∙ b.2) ∙ eqb_refl k))
    where
      by : (b : Bool) → run sh p (suc (suc q)) ≡ true → p.valid (suc (suc q)) ≡ true → cond b (run sh p (suc (suc q))) (p.valid (suc (suc q))) ≡ true
      by true r v = r
      by false r v = v

  -- what Exec's law assumes of the next cycle
  assumed_new : (k : ℕ) → member k sh.entries ≡ true → suc (suc q) < n → ExecAssumed (terms_at core k) (p.unit k) (bus k) mem (suc q)
  assumed_new k a z = record {
    stands = λ e.
        let b = busy_parts c k a e in
        let w = w_slot c b.0 b.1 in (
          go_next k a e,
          steps.go_row k (suc q) a ∙ ap (λ y. y.row) w ∙ sym (steps.go_row k q a),
          steps.go_pc k (suc q) a ∙ ap (λ y. y.pc) w ∙ sym (steps.go_pc k q a),
          steps.go_word k (suc q) a ∙ ap (λ y. y.word) w ∙ sym (steps.go_word k q a),
          steps.go_a k (suc q) a ∙ ap (λ y. y.a) w ∙ sym (steps.go_a k q a),
          steps.go_b k (suc q) a ∙ ap (λ y. y.b) w ∙ sym (steps.go_b k q a),
        );
    claimed = claimed_next k a;
    kept = λ o e. steps.clear k (suc q) a ∙ ap (λ y. not y && (kill sh p (suc (suc q)) || irq sh p (suc (suc q)))) o;
    memory = λ o. memory_at_is memory db is_memory (suc (suc q));
    honest = bus_honest (core.holds k) db mem (suc (suc q)) (honest.accesses (suc (suc q)) z);
  }

  -- and of all cycles so far
  exec_next : (k : ℕ) → member k sh.entries ≡ true → (i : ℕ) → suc i ≤ suc (suc q) → suc i < n → ExecAssumed (terms_at core k) (p.unit k) (bus k) mem i
  exec_next k a i g z =
      by_case i q g (λ f. inv.exec k a i f z) (λ e. subst (λ v. ExecAssumed (terms_at core k) (p.unit k) (bus k) mem v) (sym e) (assumed_new k a (subst (λ v. suc v < n) e z)))

  -- ---- what Fetch's law assumes

  -- what Fetch's law assumes of the next cycle
  asks_new : suc (suc q) < n → FetchAssumed p.fetch ib mem core.predicts core.predict (suc q)
  asks_new z = record {
    takes = λ e. (takes_parts sh p (suc (suc q)) (sym (steps.take (suc q)) ∙ e)).0;
    whole = ap (λ v. v % 4) (steps.redirect_pc (suc q)) ∙ (after_cycle c).whole;
    fences = λ e. steps.redirect (suc q) ∙ and_l (kill sh p (suc (suc q))) (p.flush_fence (suc (suc q))) (sym (steps.fetch_fence (suc q)) ∙ e);
    predicted = λ e. laws.predict e (suc q);
    honest = honest.fetches (suc (suc q)) z;
  }

  -- what Fetch's law assumes of all cycles so far
  asks_next : (i : ℕ) → suc i ≤ suc (suc q) → suc i < n → FetchAssumed p.fetch ib mem core.predicts core.predict i
  asks_next i g z = by_case i q g (λ f. inv.asks i f z) (λ e. subst (FetchAssumed p.fetch ib mem core.predicts core.predict) (sym e) (asks_new (subst (λ v. suc v < n) e z)))

  -- ---- what System's law assumes: its own done is the event's

  -- the part that offers System is done: its item is in front and ends
  record Own : Type 0 where
    runs : run sh p (suc q) ≡ true
    plain : x.except ≡ false
    ends_now : ends sh p (suc q) ≡ true
    is : sys ≡ p.unit u

  -- what is done was given
  go_of_done : (k : ℕ) → member k sh.entries ≡ true → (p.unit k).done (suc q) ≡ true → (p.unit k).go (suc q) ≡ true
  go_of_done k a d = by ((p.unit k).go (suc q)) refl
    where
      by : (b : Bool) → (p.unit k).go (suc q) ≡ b → (p.unit k).go (suc q) ≡ true
      by true g = g
      by false g = both ((p.unit k).done (suc q)) d ((kept c k a).rests g)

  -- a done of the part that offers System is that of the item in front
  own_done : core.set.system ≡ true → sys.done (suc q) ≡ true → Own
  unfolding ends through
  own_done f d =
      let y = is_core.system_commits f in
      let dk : (p.unit core.system_entry).done (suc q) ≡ true = ap (λ v. v.done (suc q)) (sym (sys_is c f)) ∙ d in
      let g = go_parts c core.system_entry y.0 (go_of_done core.system_entry y.0 dk) in
      let r = g.runs y.1 in
      record {
        runs = r;
        plain = g.plain;
        ends_now = and_yes (run sh p (suc q)) (x.except || finished sh p (suc q)) r (or_true x.except (finished sh p (suc q)) (finished_is c r g.plain ∙ ap (λ i. (p.unit i).done (suc q)) g.is ∙ dk));
        is = sys_is c f ∙ ap p.unit (sym g.is);
      }

  -- the wire says trap where the part does
  own_faulty : (o : Own) → faulty sh p (suc q) ≡ sys.trap (suc q)
  own_faulty o =
      sym (faulty_is sh p (suc q) o.ends_now) ∙ traps_is sh p (suc q) o.ends_now ∙ ap (λ b. b || wire.trap sh p (suc q)) o.plain ∙ trap_is c o.runs o.plain o.ends_now ∙ ap (λ v. v.trap (suc q)) (sym o.is)

  -- System is told of its own done
  own_kind : (f : core.set.system ≡ true) (o : Own) (b : Bool) → sys.trap (suc q) ≡ b → ys.kind (suc q) ≡ cond b 1 0
  own_kind f o b t = kind_is c (end_event sh p (suc q) o.ends_now) f ∙ (λ i. cond ((head c o.runs).calm i) 2 (cond (own_faulty o i) 1 0)) ∙ ap (λ b. cond b 1 0) t

  -- there are three kinds
  small_kind : (a b : Bool) → cond a 2 (cond b 1 0) < 3
  small_kind true b = omega arith
  small_kind false true = omega arith
  small_kind false false = omega arith

  -- it is told only where there is System
  system_told : ys.event (suc q) ≡ true → core.set.system ≡ true
  system_told e = and_l core.set.system (event sh p (suc q)) (sym (event_is c q) ∙ e)

  -- and only of events
  now_event : ys.event (suc q) ≡ true → event sh p (suc q) ≡ true
  now_event e = and_r core.set.system (event sh p (suc q)) (sym (event_is c q) ∙ e)

  -- what System's law assumes of this cycle
  tells_new : SystemAssumed sys ys q
  unfolding trap_cause trap_value
  tells_new = record {
    kinds = λ e. subst (λ v. v < 3) (sym (kind_is c (now_event e) (system_told e))) (small_kind (asked sh p (suc q)) (faulty sh p (suc q)));
    whole = λ e. ap (λ v. v % 4) (pc_is c (system_told e)) ∙ inv.whole;
    own = λ e d t. let f = system_told e in own_kind f (own_done f d) false t;
    own_trap = λ e d t.
        let f = system_told e in
        let o = own_done f d in (
          own_kind f o true t,
          told_cause c (now_event e) f ∙ cond_false (asked sh p (suc q)) (p.system.irq_cause (suc q)) (cond x.except (except_cause sh p (suc q)) (wire.cause sh p (suc q))) (head c o.runs).calm
              ∙ cond_false x.except (except_cause sh p (suc q)) (wire.cause sh p (suc q)) o.plain ∙ cause_is c o.runs o.plain o.ends_now ∙ ap (λ v. v.cause (suc q)) (sym o.is),
          told_tval c (now_event e) f ∙ cond_false (asked sh p (suc q)) 0 (cond x.except (tval_of x) (tval sh p (suc q))) (head c o.runs).calm
              ∙ cond_false x.except (tval_of x) (tval sh p (suc q)) o.plain ∙ tval_is c o.runs o.plain o.ends_now ∙ ap (λ v. v.tval (suc q)) (sym o.is),
        );
    plain = λ e k.
        let f = system_told e in
        told_tval c (now_event e) f ∙ cond_true (asked sh p (suc q)) 0 (trap_value sh p (suc q)) (is_asked (asked sh p (suc q)) (faulty sh p (suc q)) (sym (kind_is c (now_event e) f) ∙ k));
  }
    where
      is_asked : (a b : Bool) → ◌≡◌ {A = ℕ} (cond a 2 (cond b 1 0)) 2 → a ≡ true
      is_asked true b z = refl
      is_asked false true z = absurd (grind arith)
      is_asked false false z = absurd (grind arith)

  -- and of all cycles so far
  tells_next : (i : ℕ) → suc i < suc (suc q) → SystemAssumed sys ys i
  tells_next i g = by_test (eqb i q) refl
    where
      less : (i r : ℕ) → suc i < suc (suc r) → eqb i r ≡ false → suc i < suc r
      less i r g z = grind (arith, nat_tests)

      by_test : (b : Bool) → eqb i q ≡ b → SystemAssumed sys ys i
      by_test true z = subst (SystemAssumed sys ys) (sym (same i q z)) tells_new
      by_test false z = inv.tells i (less i q g z)

  -- ---- the invariant in the next cycle

  -- every row
  pub next : Inv core p run' memory n (suc (suc q)) (h2 c)
  next = record {
    regs = regs_next c;
    size = ap length (rf_next c) ∙ length_put (leaves (steps.late (suc q)) (p.tail (suc q))) (regs_at p.regs core.start (suc q)) inv.size;
    fits = subst Fits (sym (steps.tail q)) (fits_shift (steps.late (suc q)) (p.tail (suc q)) (late_fits c) inv.fits);
    pc = (after_cycle c).pc;
    whole = (after_cycle c).whole;
    is_csrs = (after_cycle c).are_csrs;
    csrs = (after_cycle c).csrs;
    halted = (after_cycle c).halted;
    good = good_next c;
    chosen = chosen_next c;
    a = a_next c;
    b = b_next c;
    item = item_next c;
    chain = chain_next c;
    started = λ e. let w = started_parts c e in works_on c w.0 w.1;
    stop = stop_next c;
    fence = fence_next c;
    truth = truth_next c;
    held = held_next c;
    idle = λ e. (after_cycle c).idle (sym (steps.started q) ∙ e);
    memory_is = (after_cycle c).memory_is;
    log = (after_cycle c).log;
    runs = (after_cycle c).runs;
    last = (after_cycle c).last;
    work = work_next c;
    exec = exec_next;
    asks = asks_next;
    tells = tells_next;
  }
