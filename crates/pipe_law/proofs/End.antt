-- The end of an item: what the machine does, and what is done on the data bus.
use Rattle.std.proofs.Common.{◌≡◌, ℕ, zero, suc, ◌%◌, Bool, true, false, cond, not, eqb, [], ◌∷◌, ◌&&◌, ◌||◌, ◌⊎◌, inl, inr, refl, ap, ◌∙◌, sym, subst, arith, Option, Some, None, is_some}
use Rattle.std.specs.Prelude.{option_to_list}
use Rattle.core_words.specs.Fields.{rd_of}
use Rattle.core_ports.specs.Trace.{Bus, data_bus}
use Rattle.bus_law.specs.Memory.{Memory, Store, with_store}
use Rattle.bus_law.specs.Prompt.{store_at}
use Rattle.bus_law.specs.Protocol.{is_accepted, is_given, is_write}
use Rattle.isa_csr.specs.Csrs.{Csrs, IsCsrs}
use Rattle.isa_model.specs.Effects.{Effect, Moment, csrs_of, write_of}
use Rattle.isa_model.specs.Effects.Effect.{Does, Rests, Traps}
use Rattle.isa_model.specs.Machine.{Machine}
use Rattle.isa_model.specs.Run.{now}
use Rattle.isa_model.specs.Step.{Done, outcome_of, retire, trap}
use Rattle.plug_law.specs.Exec.{ExecSignals, HasValue, Shows, bus_of, busy, effect_at, made}
use Rattle.plug_law.specs.Outcome.{effect_on, outcome_by, source_a, source_b}
use Rattle.plug_law.specs.Pipeline.{Shape, Slot, ends, except_cause, member, next_pc, run, trap_cause, trap_value, traps, tval, value}
use Rattle.pipe_law.proofs.Basics.{and_no_l, and_yes, both, cond_false, cond_true, eqb_refl, same}
use Rattle.pipe_law.proofs.Cycle.{ends_run, started_runs, traps_is}
use Rattle.pipe_law.proofs.Invariant.{Here, bus_at, fetched_in, pend}
use Rattle.pipe_law.proofs.Outcome.{Facts, cause_of, except_outcome, not_excepted, retire_facts, trap_facts, tval_of, unit_outcome}
use Rattle.pipe_law.proofs.Unit.{at_pc, cause_is, cleared, done_is, effect_is, excepted_idle, excepted_none, fenced, goes, head, kept, next_is, nothing_taken, others, own, pend_is, row_is_row, running, shows, trap_is, tval_is, value_is}
use Rattle.pipe_law.specs.Core.{begin_at, csrs_in, exec_of, mem_of, moment_at, sys_of}
use Rattle.plug_law.specs.Pipeline as wire

module _ (c : Here) where
  open c use {core, p, run', memory, n, is_core, laws, steps, is_memory, honest, q, h, inv, within}

  -- short names
  abbrev sh : Shape
  sh = core.shape

  abbrev moments : ℕ → Moment
  moments = moment_at run'

  abbrev db : Bus
  db = data_bus run'

  abbrev mem : ℕ → Memory
  mem = mem_of memory run'

  abbrev csr : ℕ → Csrs
  csr = csrs_in core p run' memory

  abbrev bus : ℕ → Bus
  bus = bus_at core run'

  abbrev m : Machine
  m = now (begin_at core memory) h

  abbrev x : Slot
  x = p.slot (suc q)

  abbrev u : ℕ
  u = core.owner (p.slot (suc q)).row

  -- the part that offers System, and its signals
  abbrev sys : ExecSignals
  sys = sys_of core p

  -- the CSRs after the part's own done
  abbrev after : Csrs
  after = cond (sys.done (suc q) && not (sys.clear (suc q))) (csrs_of (effect_at core.table sys mem (λ i. csr (suc q)) moments (suc q)) (csr (suc q))) (csr (suc q))

  -- where the part that offers System is not done, the CSRs stay
  pub quiet_after : sys.done (suc q) ≡ false → after ≡ csr (suc q)
  quiet_after d =
      cond_false (sys.done (suc q) && not (sys.clear (suc q))) (csrs_of (effect_at core.table sys mem (λ i. csr (suc q)) moments (suc q)) (csr (suc q))) (csr (suc q))
      (and_no_l (sys.done (suc q)) (not (sys.clear (suc q))) d)

  -- that part is the entry that offers System
  pub sys_is : core.set.system ≡ true → sys ≡ p.unit core.system_entry
  sys_is f = ap (λ b. exec_of b (p.unit core.system_entry)) f

  -- without System it is never done
  pub sys_none : core.set.system ≡ false → (i : ℕ) → sys.done i ≡ false
  sys_none f i = ap (λ b. (exec_of b (p.unit core.system_entry)).done i) f

  -- the item in front ends: the machine's step, and what the wires and the bus say of it
  pub record End : Type 0 where
    pub done : Done
    pub outcome : outcome_of core.set m (fetched_in x) (moments (suc q)) ≡ Some done
    pub facts : Facts core.set.system m x (traps sh p (suc q)) (trap_cause sh p (suc q)) (trap_value sh p (suc q)) (value sh p (suc q)) (next_pc sh p (suc q)) (wire.fence sh p (suc q)) after (pend sh p run' (suc q)) done
    pub whole_next : traps sh p (suc q) ≡ false → next_pc sh p (suc q) % 4 ≡ 0
    pub are_csrs : traps sh p (suc q) ≡ false → IsCsrs after
    pub kept_csrs : traps sh p (suc q) ≡ true → after ≡ csr (suc q)
    pub halted : m.stopped ≡ false
    pub no_put : is_write db (suc q) ≡ false

  -- ---- no write is accepted where no unit with DataBus is at work, or it is done

  -- an entry with DataBus has the core's data bus
  pub bus_is : (k : ℕ) → core.holds k ≡ true → bus k ≡ db
  bus_is k e = ap (λ b. bus_of b db) e

  -- a unit that is not at work gives no command
  pub no_given : (k : ℕ) → member k sh.entries ≡ true → core.holds k ≡ true → busy (p.unit k) (suc q) ≡ false → is_given db (suc q) ≡ false
  no_given k e o b = ap (λ d. is_given d (suc q)) (sym (bus_is k o)) ∙ ((kept c k e).idle b).0

  -- what is not given is not accepted
  pub given_accepted : is_given db (suc q) ≡ false → is_accepted db (suc q) ≡ false
  unfolding is_accepted
  given_accepted e = and_no_l (is_given db (suc q)) (eqb (db.cmd_ready (suc q)) 1) e

  -- and is no write
  pub accepted_writes : is_accepted db (suc q) ≡ false → is_write db (suc q) ≡ false
  unfolding is_write
  accepted_writes e = and_no_l (is_accepted db (suc q)) (eqb (db.cmd_write (suc q)) 1) e

  -- without DataBus no command is ever given
  pub silent : sh.holds ≡ false → (i : ℕ) → is_given db i ≡ false
  unfolding is_given
  silent e zero = refl
  silent e (suc i) = ap (λ v. eqb v 1) (steps.no_data i e).0

  -- where no unit has a command accepted, memory stays
  pub quiet_cycle : ((k : ℕ) → member k sh.entries ≡ true → core.holds k ≡ true → is_accepted db (suc q) ≡ false) → is_write db (suc q) ≡ false
  quiet_cycle f = by sh.holds refl
    where
      by : (b : Bool) → sh.holds ≡ b → is_write db (suc q) ≡ false
      by true e = let d = is_core.data_entry e in accepted_writes (f d.0 d.1 d.2)
      by false e = accepted_writes (given_accepted (silent e (suc q)))

  -- where no item is started, nothing is accepted
  pub idle_accepts : p.started (suc q) ≡ false → (k : ℕ) → member k sh.entries ≡ true → core.holds k ≡ true → is_accepted db (suc q) ≡ false
  idle_accepts e k a o = given_accepted (no_given k a o (by (busy (p.unit k) (suc q)) refl))
    where
      by : (b : Bool) → busy (p.unit k) (suc q) ≡ b → busy (p.unit k) (suc q) ≡ false
      by true f = both (p.started (suc q)) (inv.work k a f).0 e
      by false f = f

  -- the part that offers System commits: it is not done where no unit that commits is
  pub sys_rests : ((k : ℕ) → member k sh.entries ≡ true → sh.commits k ≡ true → (p.unit k).done (suc q) ≡ false) → sys.done (suc q) ≡ false
  sys_rests f = by core.set.system refl
    where
      by : (b : Bool) → core.set.system ≡ b → sys.done (suc q) ≡ false
      by true g = let y = is_core.system_commits g in ap (λ v. v.done (suc q)) (sys_is g) ∙ f core.system_entry y.0 y.1
      by false g = sys_none g (suc q)

  -- ---- the end of an item that the pipeline traps itself
  abbrev means : outcome_of core.set m (fetched_in x) (moments (suc q)) ≡ outcome_by core.set.system core.table m (fetched_in x) (moments (suc q))
  means = is_core.means m (fetched_in x) (moments (suc q))

  -- an item that the pipeline traps
  end_excepted : ends sh p (suc q) ≡ true → x.except ≡ true → End
  unfolding trap_cause trap_value except_cause
  end_excepted e ex =
      let d = head c (ends_run sh p (suc q) e) in
      let idle = excepted_idle c ex in
      let tr : traps sh p (suc q) ≡ true = traps_is sh p (suc q) e ∙ ap (λ b. b || wire.trap sh p (suc q)) ex in
      let none : pend sh p run' (suc q) ≡ None = inv.idle idle in
      record {
        done = trap core.set.system m x.word (trap_cause sh p (suc q)) (trap_value sh p (suc q)) (pend sh p run' (suc q));
        outcome = means ∙ except_outcome core.set.system core.table is_core.table m x (moments (suc q)) (inv.good d.valid) ex (at_pc c d)
            ∙ (λ i. Some (trap core.set.system m x.word (sym (cond_true x.except (cause_of x) (wire.cause sh p (suc q)) ex) i) (sym (cond_true x.except (tval_of x) (tval sh p (suc q)) ex) i) (sym none i)));
        facts = subst (λ b. Facts core.set.system m x b (trap_cause sh p (suc q)) (trap_value sh p (suc q)) (value sh p (suc q)) (next_pc sh p (suc q)) (wire.fence sh p (suc q)) after (pend sh p run' (suc q)) (trap core.set.system m x.word (trap_cause sh p (suc q)) (trap_value sh p (suc q)) (pend sh p run' (suc q))))
            (sym tr) (trap_facts core.set.system m x (trap_cause sh p (suc q)) (trap_value sh p (suc q)) (value sh p (suc q)) (next_pc sh p (suc q)) (wire.fence sh p (suc q)) after (pend sh p run' (suc q)) (running c d) (ap (with_store m.memory) (sym none)));
        whole_next = λ f. both (traps sh p (suc q)) tr f;
        are_csrs = λ f. both (traps sh p (suc q)) tr f;
        kept_csrs = λ f. quiet_after (sys_rests (λ k b o. excepted_none c ex k b));
        halted = running c d;
        no_put = quiet_cycle (idle_accepts idle);
      }

  -- ---- the end of an item by its unit
  module _ (e : ends sh p (suc q) ≡ true) (plain : x.except ≡ false) where
    -- the item runs
    run_e : run sh p (suc q) ≡ true
    run_e = ends_run sh p (suc q) e

    -- what its unit does
    here : Effect
    here = effect_at core.table (p.unit u) mem csr moments (suc q)

    -- is the row's effect on the machine
    eff : effect_on core.table m x.row x.word (moments (suc q)) ≡ here
    unfolding here
    eff = sym (effect_is c run_e plain)

    -- in the cycle of its done no command is accepted
    accepts_not : (k : ℕ) → member k sh.entries ≡ true → core.holds k ≡ true → is_accepted db (suc q) ≡ false
    accepts_not k a o = by_unit (eqb u k) refl
      where
        by_busy : (b : Bool) → busy (p.unit k) (suc q) ≡ b → eqb u k ≡ false → busy (p.unit k) (suc q) ≡ false
        by_busy true f g = both (eqb u k) (ap (λ i. eqb i k) (inv.work k a f).1 ∙ eqb_refl k) g
        by_busy false f g = f

        by_unit : (b : Bool) → eqb u k ≡ b → is_accepted db (suc q) ≡ false
        by_unit true f = ap (λ d. is_accepted d (suc q)) (sym (bus_is k o) ∙ ap bus (sym (same u k f))) ∙ nothing_taken c run_e plain e
        by_unit false f = given_accepted (no_given k a o (by_busy (busy (p.unit k) (suc q)) refl f))

    -- the CSRs after it are those of the part that offers System
    unaltered : core.table.of_system x.row ≡ false → csrs_of here (csr (suc q)) ≡ csr (suc q)
    unfolding here
    unaltered a = ap (λ f. csrs_of f (csr (suc q))) (effect_is c run_e plain)
        ∙ is_core.table.plain x.row m.pc x.word (source_a m x.word) (source_b m x.word) m.memory m.csrs (csr (suc q)) (moments (suc q)) a

    -- a row that needs no CSRs
    no_system_row : (b : Bool) → core.table.of_system x.row ≡ b → (core.table.of_system x.row ≡ true → core.table.of_system x.row ≡ false) → core.table.of_system x.row ≡ false
    no_system_row true f g = g f
    no_system_row false f g = f

    -- of another entry changes no CSR
    apart : (f : core.set.system ≡ true) → eqb u core.system_entry ≡ false → csrs_of here (csr (suc q)) ≡ after
    apart f z =
        unaltered (no_system_row (core.table.of_system x.row) refl (λ g. both (eqb u core.system_entry) (ap (λ i. eqb i core.system_entry) (is_core.system_owns f x.word x.row (row_is_row c run_e plain) g) ∙ eqb_refl core.system_entry) z))
        ∙ sym (quiet_after (ap (λ v. v.done (suc q)) (sys_is f) ∙ others c core.system_entry (is_core.system_commits f).0 z))

    -- a row of the entry that offers System changes them as that part does
    mine : (f : core.set.system ≡ true) → eqb u core.system_entry ≡ true → csrs_of here (csr (suc q)) ≡ after
    unfolding here
    mine f w =
        let z : sys ≡ p.unit u = sys_is f ∙ ap p.unit (sym (same u core.system_entry w)) in
        let hd = head c run_e in
        sym (cond_true (sys.done (suc q) && not (sys.clear (suc q))) (csrs_of (effect_at core.table sys mem (λ i. csr (suc q)) moments (suc q)) (csr (suc q))) (csr (suc q))
        (and_yes (sys.done (suc q)) (not (sys.clear (suc q))) (ap (λ v. v.done (suc q)) z ∙ done_is c run_e plain e) (ap not (ap (λ v. v.clear (suc q)) z ∙ cleared c u (own c run_e plain).0 hd.kept_on hd.quiet)))
        ∙ ap (λ v. csrs_of (effect_at core.table v mem (λ i. csr (suc q)) moments (suc q)) (csr (suc q))) z)

    -- so the CSRs after the step are that part's
    after_is : csrs_of here (csr (suc q)) ≡ after
    after_is = by_system core.set.system refl
      where
        by_unit : (f : core.set.system ≡ true) (b : Bool) → eqb u core.system_entry ≡ b → csrs_of here (csr (suc q)) ≡ after
        by_unit f true z = mine f z
        by_unit f false z = apart f z

        by_system : (b : Bool) → core.set.system ≡ b → csrs_of here (csr (suc q)) ≡ after
        by_system true f = by_unit f (eqb u core.system_entry) refl
        by_system false f = unaltered (is_core.no_system f x.word x.row (row_is_row c run_e plain)) ∙ sym (quiet_after (sys_none f (suc q)))

    -- the unit says trap
    end_traps : (k v : ℕ) (w : Option Store) → here ≡ Traps k v w → End
    unfolding trap_cause trap_value here
    end_traps k v w z =
        let d = head c run_e in
        let sh' = subst (λ f. Shows f ((p.unit u).value (suc q)) ((p.unit u).next_pc (suc q)) ((p.unit u).cause (suc q)) ((p.unit u).tval (suc q)) ((p.unit u).trap (suc q))) z (shows c run_e plain e) in
        let tr : traps sh p (suc q) ≡ true = traps_is sh p (suc q) e ∙ ap (λ b. b || wire.trap sh p (suc q)) plain ∙ trap_is c run_e plain e ∙ sh'.0 in
        let pw : pend sh p run' (suc q) ≡ w = pend_is c run_e plain e ∙ ap write_of z in
        let kc : k ≡ trap_cause sh p (suc q) = sym (cond_false x.except (except_cause sh p (suc q)) (wire.cause sh p (suc q)) plain ∙ cause_is c run_e plain e ∙ sh'.1) in
        let vc : v ≡ trap_value sh p (suc q) = sym (cond_false x.except (tval_of x) (tval sh p (suc q)) plain ∙ tval_is c run_e plain e ∙ sh'.2) in
        record {
          done = trap core.set.system m x.word (trap_cause sh p (suc q)) (trap_value sh p (suc q)) (pend sh p run' (suc q));
          outcome = means ∙ unit_outcome core.set.system core.table is_core.table m x (moments (suc q)) (inv.good d.valid) (Traps k v w) plain (eff ∙ z)
              ∙ (λ i. Some (trap core.set.system m x.word (kc i) (vc i) (sym pw i)));
          facts = subst (λ b. Facts core.set.system m x b (trap_cause sh p (suc q)) (trap_value sh p (suc q)) (value sh p (suc q)) (next_pc sh p (suc q)) (wire.fence sh p (suc q)) after (pend sh p run' (suc q)) (trap core.set.system m x.word (trap_cause sh p (suc q)) (trap_value sh p (suc q)) (pend sh p run' (suc q))))
              (sym tr) (trap_facts core.set.system m x (trap_cause sh p (suc q)) (trap_value sh p (suc q)) (value sh p (suc q)) (next_pc sh p (suc q)) (wire.fence sh p (suc q)) after (pend sh p run' (suc q)) (running c d) (unchanged w (eff ∙ z) ∙ ap (with_store m.memory) (sym pw)));
          whole_next = λ f. both (traps sh p (suc q)) tr f;
          are_csrs = λ f. both (traps sh p (suc q)) tr f;
          kept_csrs = λ f. sym (sym (ap (λ g. csrs_of g (csr (suc q))) z) ∙ after_is);
          halted = running c d;
          no_put = quiet_cycle accepts_not;
        }
      where
        unchanged : (w : Option Store) → effect_on core.table m x.row x.word (moments (suc q)) ≡ Traps k v w → m.memory ≡ with_store m.memory w
        unchanged None y = refl
        unchanged (Some o) y = sym (is_core.table.faults x.row m.pc x.word (source_a m x.word) (source_b m x.word) m.memory m.csrs (moments (suc q)) k v o y)

    -- the unit says done
    end_does : (v : Option ℕ) (nx : ℕ) (w : Option Store) (cs : Csrs → Csrs) → here ≡ Does v nx w cs → End
    unfolding here
    end_does v nx w cs z =
        let d = head c run_e in
        let sh' = subst (λ f. Shows f ((p.unit u).value (suc q)) ((p.unit u).next_pc (suc q)) ((p.unit u).cause (suc q)) ((p.unit u).tval (suc q)) ((p.unit u).trap (suc q))) z (shows c run_e plain e) in
        let tr : traps sh p (suc q) ≡ false = traps_is sh p (suc q) e ∙ ap (λ b. b || wire.trap sh p (suc q)) plain ∙ trap_is c run_e plain e ∙ sh'.0 in
        let pw : pend sh p run' (suc q) ≡ w = pend_is c run_e plain e ∙ ap write_of z in
        let nc : nx ≡ next_pc sh p (suc q) = sym (next_is c run_e plain e ∙ sh'.1) in
        let cc : cs m.csrs ≡ after = ap cs inv.csrs ∙ sym (ap (λ f. csrs_of f (csr (suc q))) z) ∙ after_is in
        let al = is_core.table.whole x.row m.pc x.word (source_a m x.word) (source_b m x.word) m.memory m.csrs (moments (suc q)) v nx w cs (ap (λ i. i % 4) (sym (at_pc c d) ∙ d.path) ∙ inv.whole) inv.is_csrs (eff ∙ z) in
        let g = inv.good d.valid in
        let ne = not_excepted core.set.system core.table is_core.table m x (moments (suc q)) g plain in
        let hv : core.table.has_value x.row ≡ is_some v = is_core.table.value x.row m.pc x.word (source_a m x.word) (source_b m x.word) m.memory m.csrs (moments (suc q)) v nx w cs (eff ∙ z) in
        let hw : x.writes ≡ (is_some v && not (eqb (rd_of x.word) 0)) = (g.some ne.0 x.row (row_is_row c run_e plain)).2 ∙ ap (λ b. b && not (eqb (rd_of x.word) 0)) hv in
        record {
          done = retire m x.word v (next_pc sh p (suc q)) (pend sh p run' (suc q)) (λ _. after);
          outcome = means ∙ unit_outcome core.set.system core.table is_core.table m x (moments (suc q)) g (Does v nx w cs) plain (eff ∙ z) ∙ (λ i. Some (retire m x.word v (nc i) (sym pw i) (λ _. cc i)));
          facts = subst (λ b. Facts core.set.system m x b (trap_cause sh p (suc q)) (trap_value sh p (suc q)) (value sh p (suc q)) (next_pc sh p (suc q)) (wire.fence sh p (suc q)) after (pend sh p run' (suc q)) (retire m x.word v (next_pc sh p (suc q)) (pend sh p run' (suc q)) (λ _. after)))
              (sym tr) (retire_facts core.set.system m x (trap_cause sh p (suc q)) (trap_value sh p (suc q)) (value sh p (suc q)) (next_pc sh p (suc q)) (wire.fence sh p (suc q)) v (pend sh p run' (suc q)) after
              (subst (HasValue v) (sym (value_is c run_e plain e)) sh'.2) hw (fenced c run_e plain e));
          whole_next = λ f. ap (λ i. i % 4) (sym nc) ∙ al.0;
          are_csrs = λ f. subst IsCsrs cc (al.1 m.csrs inv.is_csrs);
          kept_csrs = λ f. both (traps sh p (suc q)) f tr;
          halted = running c d;
          no_put = quiet_cycle accepts_not;
        }

    -- by its effect
    end_by : (f : Effect) → here ≡ f → End
    unfolding here
    end_by (Traps k v w) z = end_traps k v w z
    end_by Rests z = absurd (subst (λ f. Shows f ((p.unit u).value (suc q)) ((p.unit u).next_pc (suc q)) ((p.unit u).cause (suc q)) ((p.unit u).tval (suc q)) ((p.unit u).trap (suc q))) z (shows c run_e plain e))
    end_by (Does v nx w cs) z = end_does v nx w cs z

    -- an item of a unit
    end_unit : End
    end_unit = end_by here refl

  -- any item that ends
  pub ended : ends sh p (suc q) ≡ true → End
  ended e = by x.except refl
    where
      by : (b : Bool) → x.except ≡ b → End
      by true f = end_excepted e f
      by false f = end_unit e f

  -- ---- a write is accepted only for the item in front, and it is the first

  -- the item in front is started, its unit has the data bus, and no write waits
  pub record Put : Type 0 where
    pub works : p.started (suc q) ≡ true
    pub holds : core.holds u ≡ true
    pub first : pend sh p run' (suc q) ≡ None

  -- a write of a go that may make one is the first
  first_of : (w : Store) (o e : Option Store) → ((w ∷ option_to_list o) ≡ []) ⊎ ((w ∷ option_to_list o) ≡ option_to_list e) → o ≡ None
  first_of w None e z = refl
  first_of w (Some v) e (inl z) = absurd (grind arith)
  first_of w (Some v) None (inr z) = absurd (grind arith)
  first_of w (Some v) (Some y) (inr z) = absurd (grind arith)

  -- a unit that writes is at work since an earlier cycle
  put_busy : (k : ℕ) → member k sh.entries ≡ true → core.holds k ≡ true → is_write db (suc q) ≡ true → busy (p.unit k) (suc q) ≡ true
  put_busy k a o z = by (busy (p.unit k) (suc q)) refl
    where
      by : (b : Bool) → busy (p.unit k) (suc q) ≡ b → busy (p.unit k) (suc q) ≡ true
      by true f = f
      by false f = both (is_write db (suc q)) z (accepted_writes (given_accepted (no_given k a o f)))

  -- so it is where a write is accepted
  pub put_now : is_write db (suc q) ≡ true → Put
  put_now z = by sh.holds refl
    where
      by_entry : (k : ℕ) → member k sh.entries ≡ true → core.holds k ≡ true → Put
      by_entry k a o1 =
          let w = inv.work k a (put_busy k a o1 z) in
          let st = inv.started w.0 in
          let r = started_runs sh p (suc q) st.valid w.0 in
          let o : core.holds u ≡ true = ap core.holds w.1 ∙ o1 in
          let law = (kept c u (own c r st.plain).0).writes (goes c r st.plain) in
          record {
            works = w.0;
            holds = o;
            first = first_of (store_at (bus u) (suc q)) (pend sh p run' (suc q)) (write_of (effect_at core.table (p.unit u) mem csr moments (suc q)))
                (subst (λ y. (y ≡ []) ⊎ (y ≡ option_to_list (write_of (effect_at core.table (p.unit u) mem csr moments (suc q)))))
                (cond_true (is_write (bus u) (suc q)) (store_at (bus u) (suc q) ∷ made (p.unit u) (bus u) (suc q)) (made (p.unit u) (bus u) (suc q)) (ap (λ b. is_write b (suc q)) (bus_is u o) ∙ z)
                ∙ ap (λ y. store_at (bus u) (suc q) ∷ y) st.made) law);
          }

      by : (b : Bool) → sh.holds ≡ b → Put
      by true e = let d = is_core.data_entry e in by_entry d.0 d.1 d.2
      by false e = both (is_write db (suc q)) z (accepted_writes (given_accepted (silent e (suc q))))
