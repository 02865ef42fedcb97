-- An item at work stays at work, and only the unit of the item in front is at work.
use Rattle.std.proofs.Common.{◌≡◌, ℕ, suc, Bool, true, false, cond, not, [], ◌∷◌, ◌&&◌, ◌||◌, refl, ap, ◌∙◌, sym, subst, Some}
use Rattle.std.specs.Prelude.{option_to_list}
use Rattle.core_ports.specs.Trace.{Bus, data_bus}
use Rattle.bus_law.specs.Memory.{Memory}
use Rattle.bus_law.specs.Prompt.{store_at}
use Rattle.bus_law.specs.Protocol.{is_accepted, is_given, is_write}
use Rattle.isa_model.specs.Effects.{Moment}
use Rattle.isa_model.specs.Machine.{Machine}
use Rattle.isa_model.specs.Run.{now}
use Rattle.plug_law.specs.Exec.{begun, bus_of, busy, made, made_by, no_bus}
use Rattle.plug_law.specs.Pipeline.{Shape, Slot, asked, ends, enters, event, faulty, finished, fresh, irq, kill, member, next_pc, retires, run, takes, target, through, traps, writes}
use Rattle.pipe_law.proofs.After.{h2, h2_none, pend_none}
use Rattle.pipe_law.proofs.Basics.{and_l, and_no_l, and_no_r, and_r, and_yes, cond_false, cond_true, not_true, or_l, or_no, or_true}
use Rattle.pipe_law.proofs.Cycle.{enters_no, event_none, free_runs, no_end, not_through}
use Rattle.pipe_law.proofs.End.{bus_is, put_now}
use Rattle.pipe_law.proofs.Invariant.{Here, Seen, Started, bus_at, pend}
use Rattle.pipe_law.proofs.Irq.{seen_now}
use Rattle.pipe_law.proofs.Unit.{Goes, Head, begun_memory, cleared, finished_is, go_parts, goes, head, made_is, none_is_done, own}
use Rattle.pipe_law.specs.Core.{begin_at, mem_of, moment_at}
use Rattle.plug_law.specs.Pipeline as wire

-- a bus on which nothing happens has no write
no_bus_writes : (i : ℕ) → is_write no_bus (suc i) ≡ false
unfolding is_write is_accepted is_given
no_bus_writes i = refl

module _ (c : Here) where
  open c use {core, p, run', memory, n, is_core, laws, steps, is_memory, honest, q, h, inv, within}

  -- short names
  abbrev sh : Shape
  sh = core.shape

  abbrev moments : ℕ → Moment
  moments = moment_at run'

  abbrev db : Bus
  db = data_bus run'

  abbrev mem : ℕ → Memory
  mem = mem_of memory run'

  abbrev bus : ℕ → Bus
  bus = bus_at core run'

  abbrev begin : Machine
  begin = begin_at core memory

  abbrev x : Slot
  x = p.slot (suc q)

  abbrev u : ℕ
  u = core.owner (p.slot (suc q)).row

  -- ---- an item that runs and does not end
  module _ (r : run sh p (suc q) ≡ true) (nend : ends sh p (suc q) ≡ false) where
    -- the item that runs on
    w_head : Head c
    w_head = head c r

    -- there is no event
    pub w_none : event sh p (suc q) ≡ false
    w_none = event_none sh p (suc q) nend w_head.quiet

    -- it needs more cycles
    w_through : through sh p (suc q) ≡ false
    w_through = not_through sh p (suc q) nend r

    -- it is an item of a unit
    pub w_plain : x.except ≡ false
    unfolding through
    w_plain = or_l x.except (finished sh p (suc q)) w_through

    -- nothing enters its stage
    w_enters : enters sh p (suc q) ≡ false
    w_enters = enters_no sh p (suc q) w_head.valid w_through

    -- it is there in the next cycle
    pub w_valid : p.valid (suc (suc q)) ≡ true
    w_valid =
        steps.valid q ∙ and_yes (not (kill sh p (suc q) || irq sh p (suc q))) (takes sh p (suc q) || not (enters sh p (suc q)))
        (ap not (or_no (kill sh p (suc q)) (irq sh p (suc q)) w_head.kept_on w_head.quiet))
        (or_true (takes sh p (suc q)) (not (enters sh p (suc q))) (ap not w_enters))

    -- unchanged
    pub w_slot : p.slot (suc (suc q)) ≡ x
    w_slot = steps.slot q w_valid ∙ cond_false (enters sh p (suc q)) (fresh sh p (suc q)) x w_enters

    -- and started
    pub w_started : p.started (suc (suc q)) ≡ true
    w_started = steps.started q ∙ and_yes (run sh p (suc q)) (not (ends sh p (suc q))) r (ap not nend)

    -- nothing traps, retires or writes
    w_no : (traps sh p (suc q) ≡ false) × (retires sh p (suc q) ≡ false) × (writes sh p (suc q) ≡ false)
    w_no = no_end sh p (suc q) nend

    -- nothing flushes
    w_flush : p.flush (suc (suc q)) ≡ false
    w_flush = steps.flush q ∙ or_no (irq sh p (suc q)) (traps sh p (suc q) || (retires sh p (suc q) && wire.fence sh p (suc q))) w_head.quiet (or_no (traps sh p (suc q)) (retires sh p (suc q) && wire.fence sh p (suc q)) w_no.0 (and_no_l (retires sh p (suc q)) (wire.fence sh p (suc q)) w_no.1))

    -- its unit is at work
    w_busy : busy (p.unit u) (suc (suc q)) ≡ true
    unfolding busy
    w_busy =
        let a = (own c r w_plain).0 in
        and_yes ((p.unit u).go (suc q)) (not ((p.unit u).done (suc q)) && not ((p.unit u).clear (suc q))) (goes c r w_plain)
        (and_yes (not ((p.unit u).done (suc q))) (not ((p.unit u).clear (suc q))) (ap not (none_is_done c nend u a (λ g. r))) (ap not (cleared c u a w_head.kept_on w_head.quiet)))

    -- since the same cycle
    w_begun : begun (p.unit u) (suc (suc q)) ≡ begun (p.unit u) (suc q)
    unfolding begun
    w_begun = cond_true (busy (p.unit u) (suc (suc q))) (begun (p.unit u) (suc q)) (suc (suc q)) w_busy

    -- with the writes made so far
    w_made : made (p.unit u) (bus u) (suc (suc q)) ≡ made_by (p.unit u) (bus u) (suc q)
    unfolding made
    w_made = cond_true (busy (p.unit u) (suc (suc q))) (made_by (p.unit u) (bus u) (suc q)) [] w_busy

    -- which are the one that waits for its event
    pub w_pend : made_by (p.unit u) (bus u) (suc q) ≡ option_to_list (cond (is_write db (suc q)) (Some (store_at db (suc q))) (pend sh p run' (suc q)))
    w_pend = by (is_write db (suc q)) refl
      where
        mi : made (p.unit u) (bus u) (suc q) ≡ option_to_list (pend sh p run' (suc q))
        mi = made_is c r w_plain

        by_holds : (b : Bool) → core.holds u ≡ b → is_write db (suc q) ≡ false → is_write (bus u) (suc q) ≡ false
        by_holds true o z = ap (λ d. is_write d (suc q)) (bus_is c u o) ∙ z
        by_holds false o z = ap (λ b. is_write (bus_of b db) (suc q)) o ∙ no_bus_writes q

        by : (b : Bool) → is_write db (suc q) ≡ b → made_by (p.unit u) (bus u) (suc q) ≡ option_to_list (cond (is_write db (suc q)) (Some (store_at db (suc q))) (pend sh p run' (suc q)))
        by true z =
            let pn = put_now c z in
            let d = bus_is c u pn.holds in
            cond_true (is_write (bus u) (suc q)) (store_at (bus u) (suc q) ∷ made (p.unit u) (bus u) (suc q)) (made (p.unit u) (bus u) (suc q)) (ap (λ b. is_write b (suc q)) d ∙ z)
            ∙ (λ i. store_at (d i) (suc q) ∷ (mi ∙ ap option_to_list pn.first) i)
            ∙ ap option_to_list (sym (cond_true (is_write db (suc q)) (Some (store_at db (suc q))) (pend sh p run' (suc q)) z))
        by false z =
            cond_false (is_write (bus u) (suc q)) (store_at (bus u) (suc q) ∷ made (p.unit u) (bus u) (suc q)) (made (p.unit u) (bus u) (suc q)) (by_holds (core.holds u) refl z)
            ∙ mi ∙ ap option_to_list (sym (cond_false (is_write db (suc q)) (Some (store_at db (suc q))) (pend sh p run' (suc q)) z))

    -- the program's pc stays
    w_apc : p.apc (suc (suc q)) ≡ p.apc (suc q)
    w_apc = steps.apc q ∙ cond_false (event sh p (suc q)) (cond (asked sh p (suc q) || faulty sh p (suc q)) (target sh p (suc q)) (next_pc sh p (suc q))) (p.apc (suc q)) w_none

    -- so it is started in the next cycle
    pub works_on : Started core p run' memory n (suc (suc q)) (h2 c)
    works_on =
        let hs : h ≡ (h2 c) = sym (h2_none c w_none) in
        let us : core.owner (p.slot (suc (suc q))).row ≡ u = ap (λ z. core.owner z.row) w_slot in
        record {
          valid = w_valid;
          path = ap (λ z. z.pc) w_slot ∙ w_head.path ∙ sym w_apc;
          flush = w_flush;
          plain = ap (λ z. z.except) w_slot ∙ w_plain;
          seen = subst (λ z. Seen begin moments (suc (suc q)) z) hs (seen_now c r);
          busy = ap (λ z. busy (p.unit z) (suc (suc q))) us ∙ w_busy;
          memory_is = ap (λ z. mem (begun (p.unit z) (suc (suc q)))) us ∙ ap mem w_begun ∙ begun_memory c r w_plain ∙ ap (λ z. (now begin z).memory) hs;
          made = ap (λ z. made (p.unit z) (bus z) (suc (suc q))) us ∙ w_made ∙ w_pend ∙ ap option_to_list (sym (pend_none c w_none));
        }

  -- an item that is started ran and did not end
  pub started_parts : p.started (suc (suc q)) ≡ true → (run sh p (suc q) ≡ true) × (ends sh p (suc q) ≡ false)
  started_parts e =
      let z = sym (steps.started q) ∙ e in
      (and_l (run sh p (suc q)) (not (ends sh p (suc q))) z, not_true (ends sh p (suc q)) (and_r (run sh p (suc q)) (not (ends sh p (suc q))) z))

  -- ---- a unit at work is that of the item in front

  -- what is at work was given, and neither done nor cleared
  work_parts : (k : ℕ) → busy (p.unit k) (suc (suc q)) ≡ true → ((p.unit k).go (suc q) ≡ true) × ((p.unit k).done (suc q) ≡ false) × ((p.unit k).clear (suc q) ≡ false)
  unfolding busy
  work_parts k e =
      let z = and_r ((p.unit k).go (suc q)) (not ((p.unit k).done (suc q)) && not ((p.unit k).clear (suc q))) e in (
        and_l ((p.unit k).go (suc q)) (not ((p.unit k).done (suc q)) && not ((p.unit k).clear (suc q))) e,
        not_true ((p.unit k).done (suc q)) (and_l (not ((p.unit k).done (suc q))) (not ((p.unit k).clear (suc q))) z),
        not_true ((p.unit k).clear (suc q)) (and_r (not ((p.unit k).done (suc q))) (not ((p.unit k).clear (suc q))) z),
      )

  -- one of place Execute that is not cleared is not killed, so its item runs
  run_of : (k : ℕ) → member k sh.entries ≡ true → (g : Goes c k) → (p.unit k).clear (suc q) ≡ false → (b : Bool) → sh.commits k ≡ b → run sh p (suc q) ≡ true
  run_of k a g z true o = g.runs o
  run_of k a g z false o =
      free_runs sh p (suc q) g.valid (sym (ap (λ b. not b && (kill sh p (suc q) || irq sh p (suc q))) o) ∙ sym (steps.clear k q a) ∙ z)

  -- a unit at work has the item in front, which ran and did not end
  pub busy_parts : (k : ℕ) → member k sh.entries ≡ true → busy (p.unit k) (suc (suc q)) ≡ true → (run sh p (suc q) ≡ true) × (ends sh p (suc q) ≡ false) × (u ≡ k)
  unfolding ends through
  busy_parts k a e =
      let w = work_parts k e in
      let g = go_parts c k a w.0 in
      let r = run_of k a g w.2 (sh.commits k) refl in
      (r, and_no_r (run sh p (suc q)) (x.except || finished sh p (suc q)) (or_no x.except (finished sh p (suc q)) g.plain (finished_is c r g.plain ∙ ap (λ i. (p.unit i).done (suc q)) g.is ∙ w.1)), g.is)

  -- only that unit is at work in the next cycle
  pub work_next : (k : ℕ) → member k sh.entries ≡ true → busy (p.unit k) (suc (suc q)) ≡ true → (p.started (suc (suc q)) ≡ true) × (core.owner (p.slot (suc (suc q))).row ≡ k)
  work_next k a e = let b = busy_parts k a e in (w_started b.0 b.1, ap (λ z. core.owner z.row) (w_slot b.0 b.1) ∙ b.2)
