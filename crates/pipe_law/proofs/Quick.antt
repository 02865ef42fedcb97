-- A cycle of a stream: the item in front ends, and the next one is taken.
use Rattle.std.proofs.Common.{◌≡◌, ℕ, suc, ◌*◌, ◌≤◌, Bool, true, false, cond, not, ◌&&◌, ◌||◌, ◌⊎◌, inl, inr, refl, ap, ◌∙◌, sym, subst, arith, Option, Some, None}
use Rattle.core_ports.specs.Trace.{Bus}
use Rattle.bus_law.proofs.InTimeByCycle.{soon_is_prompt}
use Rattle.bus_law.specs.Memory.{Memory}
use Rattle.isa_csr.specs.Csrs.{Csrs, pending}
use Rattle.isa_model.specs.Effects.{Moment, rests}
use Rattle.isa_model.specs.Machine.{Fetched, Machine, shown}
use Rattle.isa_model.specs.Machine.Fetched.{Error, Word}
use Rattle.isa_model.specs.Run.{History, Possible, now, is_fence_word}
use Rattle.isa_model.specs.Step.{Done, Step, done_of, interrupt, outcome_of}
use Rattle.plug_law.specs.Exec.{effect_at, worked}
use Rattle.plug_law.specs.Fetch.{fetched_as}
use Rattle.plug_law.specs.Outcome.{effect_among, effect_on, outcome_by}
use Rattle.plug_law.specs.Pipeline.{Shape, Slot, ends, enters, event, fence, finished, fresh, irq, kill, member, retires, run, take_irq, takes, through, traps}
use Rattle.pipe_law.proofs.Execute.{InExecute}
use Rattle.pipe_law.proofs.After.{after_cycle, did_is_done, m2}
use Rattle.pipe_law.proofs.Basics.{and_l, and_no_l, and_no_r, and_yes, both, cond_false, or_l, or_no, or_true}
use Rattle.pipe_law.proofs.Cycle.{end_event, enters_none, event_none, free_runs, no_run_no_end, not_killed, run_valid, traps_is}
use Rattle.pipe_law.proofs.End.{End, ended}
use Rattle.pipe_law.proofs.Invariant.{bus_at, did, fetched_in, grow}
use Rattle.pipe_law.proofs.Irq.{sys_kept}
use Rattle.pipe_law.proofs.Ready.{ready_takes}
use Rattle.pipe_law.proofs.Still.{fetch_whole, free_takes, taken_is, timely, wrong_kills}
use Rattle.pipe_law.proofs.Unit.{at_pc, effect_is, fenced, finished_is, goes, head, no_fence, not_stopped, own}
use Rattle.pipe_law.specs.Overlap.{AllBypassed, IsQuick}
use Rattle.pipe_law.specs.Core.{Core, IsCore, begin_at, csrs_in, mem_of, moment_at}
use Rattle.plug_law.specs.Pipeline as wire

-- equal steps
some_done : (a b : Done) → ◌≡◌ {A = Option Done} (Some a) (Some b) → a ≡ b
some_done a b e = cc

-- an item with one possible word
is_word : (b : Bool) (w wd : ℕ) → fetched_as b w ≡ Word wd → (b ≡ false) × (w ≡ wd)
is_word true w wd e = absurd (error_word wd e)
  where
    error_word : (wd : ℕ) → ◌≡◌ {A = Fetched} Error (Word wd) → ⊥
    error_word wd e = cc
is_word false w wd e = (refl, word_word w wd e)
  where
    word_word : (w wd : ℕ) → ◌≡◌ {A = Fetched} (Word w) (Word wd) → w ≡ wd
    word_word w wd e = cc

-- a retirement is no interrupt
kind_plain : (m : Machine) (cause : ℕ) (done : Done) → done ≡ interrupt m cause → (shown done.event).kind ≡ 0 → ⊥
kind_plain m cause done e k = let z : ◌≡◌ {A = ℕ} 2 0 = sym (ap (λ d. (shown d.event).kind) e) ∙ k in absurd (omega arith)

-- rows that need no CSRs do the same in each moment
same_outcome : (core : Core) → IsCore core → (m : Machine) (w row : ℕ) (o o' : Moment) → core.table.row_of w ≡ Some row → core.table.of_system row ≡ false
    → outcome_of core.set m (Word w) o ≡ outcome_of core.set m (Word w) o'
unfolding outcome_by
same_outcome core is_core m w row o o' r f = is_core.means m (Word w) o ∙ at o ∙ ap (done_of core.set.system m w) (is_core.table.timeless row m.pc w _ _ m.memory m.csrs o o' f) ∙ sym (at o') ∙ sym (is_core.means m (Word w) o')
  where
    at : (o : Moment) → done_of core.set.system m w (effect_among core.table m w o (core.table.row_of w)) ≡ done_of core.set.system m w (effect_on core.table m row w o)
    at o = ap (λ r. done_of core.set.system m w (effect_among core.table m w o r)) r

-- a quick row needs no CSRs
quick_plain : (core : Core) → IsCore core → (w row : ℕ) → core.table.row_of w ≡ Some row → core.shape.commits (core.owner row) ≡ false → core.table.of_system row ≡ false
quick_plain core is_core w row r e = by core.set.system refl
  where
    by_row : core.set.system ≡ true → (b : Bool) → core.table.of_system row ≡ b → core.table.of_system row ≡ false
    by_row f true z = both (core.shape.commits (core.owner row)) (ap core.shape.commits (is_core.system_owns f w row r z) ∙ (is_core.system_commits f).1) e
    by_row f false z = z

    by : (b : Bool) → core.set.system ≡ b → core.table.of_system row ≡ false
    by true f = by_row f (core.table.of_system row) refl
    by false f = is_core.no_system f w row r

module _ (c : InExecute) where
  open c use {here, laws, steps}
  open here use {core, p, run', memory, n, is_core, is_memory, honest, q, h, inv, within}

  -- short names
  abbrev sh : Shape
  sh = core.shape

  abbrev moments : ℕ → Moment
  moments = moment_at run'

  abbrev mem : ℕ → Memory
  mem = mem_of memory run'

  abbrev csr : ℕ → Csrs
  csr = csrs_in core p run' memory

  abbrev bus : ℕ → Bus
  bus = bus_at core run'

  abbrev begin : Machine
  begin = begin_at core memory

  abbrev m : Machine
  m = now (begin_at core memory) h

  abbrev x : Slot
  x = p.slot (suc q)

  abbrev u : ℕ
  u = core.owner (p.slot (suc q)).row

  -- no interrupt is to be taken
  pub no_irq : pending m.csrs (moments (suc q)).lines ≡ None → irq sh p (suc q) ≡ false
  unfolding irq
  no_irq z = and_no_l (sh.system && p.system.take_irq (suc q)) (not (p.started (suc q)) && not (kill sh p (suc q))) (by core.set.system refl)
    where
      by : (b : Bool) → core.set.system ≡ b → (sh.system && p.system.take_irq (suc q)) ≡ false
      by true f = and_no_r sh.system (p.system.take_irq (suc q)) ((sys_kept here f).none (ap (λ y. pending y (moments (suc q)).lines) (sym inv.csrs) ∙ z))
      by false f = and_no_l sh.system (p.system.take_irq (suc q)) (is_core.system ∙ f)

  -- ---- something wrong is there: it goes

  -- there is no event
  pub kill_quiet : kill sh p (suc q) ≡ true → event sh p (suc q) ≡ false
  unfolding irq
  kill_quiet k = event_none sh p (suc q) (no_run_no_end sh p (suc q) (no_run (run sh p (suc q)) refl))
      (and_no_r (sh.system && p.system.take_irq (suc q)) (not (p.started (suc q)) && not (kill sh p (suc q))) (and_no_r (not (p.started (suc q))) (not (kill sh p (suc q))) (ap not k)))
    where
      no_run : (b : Bool) → run sh p (suc q) ≡ b → run sh p (suc q) ≡ false
      no_run true r = both (kill sh p (suc q)) k (head here r).kept_on
      no_run false r = r

  -- ---- nothing is in front, and the right one is there: it is taken
  module _ (all : AllBypassed core.bypassed sh.stages) (calm : pending m.csrs (moments (suc q)).lines ≡ None) (shown_now : p.fetch.valid (suc q) ≡ true) (k : kill sh p (suc q) ≡ false) where
    module _ (v : p.valid (suc q) ≡ false) (alive : m.stopped ≡ false) where
      pub empty_quiet : event sh p (suc q) ≡ false
      empty_quiet = event_none sh p (suc q) (no_run_no_end sh p (suc q) (no_run (run sh p (suc q)) refl)) (no_irq calm)
        where
          no_run : (b : Bool) → run sh p (suc q) ≡ b → run sh p (suc q) ≡ false
          no_run true r = both (p.valid (suc q)) (run_valid sh p (suc q) r) v
          no_run false r = r

      tk : takes sh p (suc q) ≡ true
      tk = free_takes c shown_now (enters_none sh p (suc q) v) (ready_takes c all (λ w. both (p.valid (suc q)) (and_l (p.valid (suc q)) x.writes w) v)) k (sym inv.halted ∙ alive)

      pub empty_next : (p.valid (suc (suc q)) ≡ true) × (p.slot (suc (suc q)) ≡ fresh sh p (suc q))
      empty_next = taken_is c tk (enters_none sh p (suc q) v) k (no_irq calm)

      pub empty_pc : p.fetch.pc (suc q) ≡ p.apc (suc q)
      empty_pc = wrong_kills c shown_now k v

    -- ---- the right one is in front, a quick one
    module _ (v : p.valid (suc q) ≡ true) (wd row : ℕ) (done : Done) (one : (got : Fetched) → Possible begin h m.pc got → got ≡ Word wd) (row_is : core.table.row_of wd ≡ Some row)
        (quick : IsQuick core.owner sh.commits core.latency row) (no_fence_i : is_fence_word wd ≡ false) (does : Step core.set m (Word wd) (record { lines = 0 }) done) (retires_kind : (shown done.event).kind ≡ 0) where
      quiet_irq : irq sh p (suc q) ≡ false
      quiet_irq = no_irq calm

      runs : run sh p (suc q) ≡ true
      runs = free_runs sh p (suc q) v (or_no (kill sh p (suc q)) (irq sh p (suc q)) k quiet_irq)

      its_word : (x.error ≡ false) × (x.word ≡ wd)
      its_word =
          let d = head here runs in
          is_word x.error x.word wd (one (fetched_in x) (subst (λ pc. Possible begin h pc (fetched_in x)) (at_pc here d) (inv.truth v (no_fence here d.flush))))

      its_row : x.row ≡ row
      its_row = ((inv.good v).some its_word.0 row (ap core.table.row_of its_word.1 ∙ row_is)).1

      plain_row : core.table.of_system row ≡ false
      plain_row = quick_plain core is_core wd row row_is quick.0

      -- it ends
      not_idle : (plain : x.except ≡ false) → rests (effect_at core.table (p.unit u) mem csr moments (suc q)) ≡ false
      not_idle plain = by (rests (effect_at core.table (p.unit u) mem csr moments (suc q))) refl
        where
          by : (b : Bool) → rests (effect_at core.table (p.unit u) mem csr moments (suc q)) ≡ b → rests (effect_at core.table (p.unit u) mem csr moments (suc q)) ≡ false
          by true e = both (core.table.of_system row) (ap core.table.of_system (sym its_row) ∙ is_core.table.waits x.row m.pc x.word _ _ m.memory m.csrs (moments (suc q)) (sym (ap rests (effect_is here runs plain)) ∙ e)) plain_row
          by false e = e

      abbrev idle : ℕ → Bool
      idle i = rests (effect_at core.table (p.unit u) mem csr moments i)

      worked_some : (plain : x.except ≡ false) → 1 ≤ worked idle (p.unit u) (suc q)
      unfolding worked
      worked_some plain = let z : ◌≡◌ {A = ℕ} (cond (idle (suc q)) 0 1) 1 = ap (λ b. cond b 0 1) (not_idle plain) in omega arith

      is_done : (plain : x.except ≡ false) → (p.unit u).done (suc q) ≡ true
      is_done plain = by ((p.unit u).done (suc q)) refl
        where
          by : (b : Bool) → (p.unit u).done (suc q) ≡ b → (p.unit u).done (suc q) ≡ true
          by true e = e
          by false e = absurd (
              let l = timely c u (own here runs plain).0 (suc (suc q)) (omega arith) (λ j g. soon_is_prompt (bus u) (suc (suc q)) (suc j) (omega arith)) (goes here runs plain) e in
              let s = worked_some plain in
              let a : (core.latency u).0 ≡ 1 = ap (λ r. (core.latency (core.owner r)).0) its_row ∙ quick.1 in
              let b : (core.latency u).1 * suc (suc q) ≡ 0 = ap (λ v. v * suc (suc q)) (ap (λ r. (core.latency (core.owner r)).1) its_row ∙ quick.2) ∙ none (suc (suc q)) in
              omega arith
              )
            where
              none : (v : ℕ) → 0 * v ≡ 0
              none v = omega arith

      is_finished : (plain : x.except ≡ false) → finished sh p (suc q) ≡ true
      is_finished plain = finished_is here runs plain ∙ is_done plain

      is_through : through sh p (suc q) ≡ true
      unfolding through
      is_through = by x.except refl
        where
          by : (b : Bool) → x.except ≡ b → (x.except || finished sh p (suc q)) ≡ true
          by true e = ap (λ b. b || finished sh p (suc q)) e
          by false e = or_true x.except (finished sh p (suc q)) (is_finished e)

      its_end : ends sh p (suc q) ≡ true
      unfolding ends
      its_end = and_yes (run sh p (suc q)) (through sh p (suc q)) runs is_through

      pub on_event : event sh p (suc q) ≡ true
      on_event = end_event sh p (suc q) its_end

      -- as the machine does
      en : End here
      en = ended here its_end

      outcome_done : outcome_of core.set m (Word wd) (record { lines = 0 }) ≡ Some done
      outcome_done = by does.how
        where
          by : ((cause : ℕ) × (pending m.csrs 0 ≡ Some cause) × (done ≡ interrupt m cause)) ⊎ (outcome_of core.set m (Word wd) (record { lines = 0 }) ≡ Some done) → outcome_of core.set m (Word wd) (record { lines = 0 }) ≡ Some done
          by (inl e) = absurd (kind_plain m e.0 done e.2 retires_kind)
          by (inr e) = e

      done_same : en.done ≡ done
      done_same =
          some_done en.done done
          (sym en.outcome ∙ ap (λ f. outcome_of core.set m f (moments (suc q))) ((λ i. fetched_as (its_word.0 i) (its_word.1 i)))
          ∙ same_outcome core is_core m wd row (moments (suc q)) (record { lines = 0 }) row_is plain_row ∙ outcome_done)

      pub on_did : did core p run' (suc q) m ≡ done
      unfolding en
      on_did = did_is_done here its_end ∙ done_same

      no_trap : traps sh p (suc q) ≡ false
      no_trap = by (traps sh p (suc q)) refl
        where
          kinds : (b s : Bool) → ◌≡◌ {A = ℕ} (cond b (cond s 1 3) 0) 0 → b ≡ false
          kinds true true e = absurd (omega arith)
          kinds true false e = absurd (omega arith)
          kinds false s e = refl

          by : (b : Bool) → traps sh p (suc q) ≡ b → traps sh p (suc q) ≡ false
          by b e = kinds (traps sh p (suc q)) core.set.system (sym (ap (λ e. e.kind) en.facts.told) ∙ ap (λ d. (shown d.event).kind) done_same ∙ retires_kind)

      plain_now : x.except ≡ false
      plain_now = or_l x.except (wire.trap sh p (suc q)) (sym (traps_is sh p (suc q) its_end) ∙ no_trap)

      flush_next : p.flush (suc (suc q)) ≡ false
      flush_next =
          steps.flush q ∙ or_no (irq sh p (suc q)) (traps sh p (suc q) || (retires sh p (suc q) && fence sh p (suc q))) quiet_irq
          (or_no (traps sh p (suc q)) (retires sh p (suc q) && fence sh p (suc q)) no_trap
          (and_no_r (retires sh p (suc q)) (fence sh p (suc q)) (fenced here runs plain_now its_end ∙ ap is_fence_word its_word.1 ∙ no_fence_i)))

      alive_next : p.stopped (suc (suc q)) ≡ false
      alive_next = steps.stopped q ∙ and_no_r (not sh.system) (p.stopped (suc q) || traps sh p (suc q)) (or_no (p.stopped (suc q)) (traps sh p (suc q)) (not_stopped here (head here runs)) no_trap)

      enters_now : enters sh p (suc q) ≡ true
      unfolding enters
      enters_now = or_true (not (p.valid (suc q))) (through sh p (suc q)) is_through

      took : takes sh p (suc q) ≡ true
      took = free_takes c shown_now enters_now (ready_takes c all (λ w. is_finished plain_now)) k (not_stopped here (head here runs))

      pub on_next : (p.valid (suc (suc q)) ≡ true) × (p.slot (suc (suc q)) ≡ fresh sh p (suc q))
      on_next = taken_is c took enters_now k quiet_irq

      -- what fetch offers is what Predict says
      offered_pc : p.fetch.pc (suc q) ≡ core.predict m.pc wd
      offered_pc = (fetch_whole c).order shown_now (core.predict m.pc wd)
          (inv.chain v ∙ cond_false x.error None (Some (core.predict x.pc x.word)) its_word.0 ∙ (λ i. Some (core.predict (at_pc here (head here runs) i) (its_word.1 i))))

      next_machine : m2 here ≡ done.new
      next_machine = ap (λ b. now begin (grown b)) on_event ∙ ap (λ d. d.new) on_did
        where
          grown : Bool → History
          grown b = grow b (suc q) (did core p run' (suc q) m) h

      pub on_kill : done.new.pc ≡ core.predict m.pc wd → kill sh p (suc (suc q)) ≡ false
      on_kill f =
          not_killed sh p (suc (suc q)) on_next.0
          (ap (λ s. s.pc) on_next.1 ∙ offered_pc ∙ sym f ∙ ap (λ y. y.pc) (sym next_machine) ∙ (after_cycle here).pc alive_next) flush_next
