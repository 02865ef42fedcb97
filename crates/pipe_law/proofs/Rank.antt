-- The rank of a cycle: how many cycles that are no waits may follow without an event.
use Rattle.std.proofs.Common.{◌≡◌, ℕ, zero, suc, ◌+◌, ◌*◌, ◌<◌, ◌≤◌, Bool, true, false, cond, not, ◌&&◌, ◌||◌, ◌⊎◌, inl, inr, refl, ap, ◌∙◌, sym, arith, Some}
use Rattle.std.proofs.lemmas.Bool.{cases_lt}
use Rattle.core_ports.specs.Trace.{Bus, Trace, data_bus, instruction_bus}
use Rattle.bus_law.specs.Memory.{Memory}
use Rattle.bus_law.specs.Prompt.{IsPrompt}
use Rattle.isa_model.specs.Effects.{rests}
use Rattle.isa_model.specs.Machine.{Machine}
use Rattle.isa_model.specs.Run.{now}
use Rattle.plug_law.specs.Exec.{busy, effect_at, worked}
use Rattle.plug_law.specs.Fetch.{is_taken_or_redirected, owes_pc}
use Rattle.plug_law.specs.Past.{last}
use Rattle.plug_law.specs.Pipeline.{Pipe, Shape, Slot, ends, enters, event, finished, fresh, irq, kill, member, run, through}
use Rattle.pipe_law.proofs.Fetched.{last_le}
use Rattle.pipe_law.proofs.Execute.{InExecute}
use Rattle.pipe_law.proofs.Basics.{both, cond_false, cond_true, or_l, or_no, or_r}
use Rattle.pipe_law.proofs.Cycle.{enters_no, enters_none, free_runs, no_event, no_flush, not_killed, not_through, on_path, works_no_take}
use Rattle.pipe_law.proofs.Still.{apc_stays, bus_prompt, flush_off, free_takes, goes_on, heavy, heavy_length, held_takes, hold_free, killed_none, no_take, none_kills, none_stays, fetch_whole, rest_owes, rest_since, right_kills, tail_on, taken_is, timely, turned_owes, turned_since, wrong_kills}
use Rattle.pipe_law.proofs.Unit.{cleared, finished_is, goes, own}
use Rattle.pipe_law.specs.Brisk.{cycles_of}
use Rattle.pipe_law.specs.Core.{Core, begin_at, csrs_in, mem_of, moment_at}

-- what a cycle that is no wait takes
abbrev pub toll : (waits : Bool) → ℕ
toll waits = cond (not waits) 1 0

module _ (core : Core) (p : Pipe) (run' : Trace) (memory : Memory) where
  -- an entry rests
  abbrev pub idle_of : (k : ℕ) → ℕ → Bool
  idle_of k i = rests (effect_at core.table (p.unit k) (mem_of memory run') (csrs_in core p run' memory) (moment_at run') i)

  abbrev pub owner_at : ℕ → ℕ
  owner_at t = core.owner (p.slot t).row

  -- the unit of the item in front works and rests
  unfoldable pub waits_at : ℕ → Bool
  waits_at t = run core.shape p t && (not (p.slot t).except && idle_of (owner_at t) t)

  -- how long the unit of the item in front has worked before cycle q + 1
  unfoldable pub worked_before : ℕ → ℕ
  worked_before q = cond (busy (p.unit (owner_at (suc q))) (suc q)) (worked (idle_of (owner_at (suc q))) (p.unit (owner_at (suc q))) q) 0

  -- as cycle q + 1 begins, in which r cycles that are no waits may go by without an event
  pub data Phase (F X q r : ℕ) : Type 0 where
    -- something wrong is there
    Killed : kill core.shape p (suc q) ≡ true → F + X + 5 ≤ r → Phase F X q r
    -- nothing is in front
    Empty : p.flush (suc q) ≡ false → p.valid (suc q) ≡ false → F + X + 5 ≤ r → 2 * F + X + 5 + last (is_taken_or_redirected p.fetch) (suc q) ≤ r + suc q → Phase F X q r
    -- and fetch owes the right one
    Owed : p.flush (suc q) ≡ false → p.valid (suc q) ≡ false → owes_pc p.fetch core.predict core.shape.reset_pc (suc q) ≡ Some (p.apc (suc q)) → X + 4 ≤ r
        → F + X + 4 + last (is_taken_or_redirected p.fetch) (suc q) ≤ r + suc q → Phase F X q r
    -- the right one is there and was held
    Held : p.flush (suc q) ≡ false → p.valid (suc q) ≡ false → 1 ≤ q → p.fetch.valid q ≡ true → p.fetch.take q ≡ false → p.fetch.redirect q ≡ false → p.fetch.pc q ≡ p.apc (suc q)
        → suc X + heavy (p.tail (suc q)) ≤ r → Phase F X q r
    -- the right one is in front
    Works : p.valid (suc q) ≡ true → kill core.shape p (suc q) ≡ false → X ≤ r + worked_before q → Phase F X q r

module _ (c : InExecute) where
  open c use {here, laws, steps}
  open here use {core, p, run', memory, n, is_core, is_memory, honest, q, h, inv, within}

  -- short names
  abbrev sh : Shape
  sh = core.shape

  abbrev ib : Bus
  ib = instruction_bus run'

  abbrev db : Bus
  db = data_bus run'

  abbrev m : Machine
  m = now (begin_at core memory) h

  abbrev x : Slot
  x = p.slot (suc q)

  abbrev u : ℕ
  u = core.owner (p.slot (suc q)).row

  abbrev waits : Bool
  waits = waits_at core p run' memory (suc q)

  -- any cycle has a rank
  pub ranked : (F X : ℕ) → Phase core p run' memory F X q (2 * F + X + 5)
  ranked F X = by (kill sh p (suc q)) refl
    where
      by_valid : kill sh p (suc q) ≡ false → (b : Bool) → p.valid (suc q) ≡ b → Phase core p run' memory F X q (2 * F + X + 5)
      by_valid k true v = Works v k (omega arith)
      by_valid k false v = let l = last_le (is_taken_or_redirected p.fetch) (suc q) in Empty (no_flush sh p (suc q) k) v (omega arith) (omega arith)

      by : (b : Bool) → kill sh p (suc q) ≡ b → Phase core p run' memory F X q (2 * F + X + 5)
      by true k = Killed k (omega arith)
      by false k = by_valid k (p.valid (suc q)) refl

  module _ (w F X : ℕ) (w_some : 1 ≤ w) (ib_prompt : (j : ℕ) → j ≤ q → IsPrompt ib w (suc j)) (db_prompt : (j : ℕ) → j ≤ q → IsPrompt db w (suc j))
      (is_f : F ≡ cycles_of core.fetch_latency w) (is_x : (k : ℕ) → member k sh.entries ≡ true → cycles_of (core.latency k) w ≤ X)
      (ev : event sh p (suc q) ≡ false) (alive : m.stopped ≡ false) where
    -- the next cycle, and what is left
    abbrev Next : ℕ → Type 0
    Next r = (s : ℕ) × Phase core p run' memory F X (suc q) s × (toll waits + s ≤ r)

    -- nothing ends
    quiet_end : ends sh p (suc q) ≡ false
    quiet_end = (no_event sh p (suc q) ev).0

    -- and no interrupt is taken
    quiet_irq : irq sh p (suc q) ≡ false
    quiet_irq = (no_event sh p (suc q) ev).1

    -- a cycle costs at most one
    toll_most : toll waits ≤ 1
    toll_most = by waits
      where
        by : (b : Bool) → toll b ≤ 1
        by true = omega arith
        by false = omega arith

    -- fetch offers nothing yet
    not_long : p.fetch.valid (suc q) ≡ false → suc q < last (is_taken_or_redirected p.fetch) (suc q) + F
    not_long o = by (cases_lt (suc q) (last (is_taken_or_redirected p.fetch) (suc q) + F))
      where
        by : (suc q < last (is_taken_or_redirected p.fetch) (suc q) + F) ⊎ (last (is_taken_or_redirected p.fetch) (suc q) + F ≤ suc q) → suc q < last (is_taken_or_redirected p.fetch) (suc q) + F
        by (inl l) = l
        by (inr l) = both (p.fetch.valid (suc q)) ((fetch_whole c).offers w w_some (λ j g. ib_prompt j (omega arith)) (let e : F ≡ cycles_of core.fetch_latency w = is_f in omega arith)) o

    -- ---- a redirect

    -- in the next cycle Fetch owes the right one
    after_kill : (r : ℕ) → kill sh p (suc q) ≡ true → F + X + 5 ≤ r → Next r
    after_kill zero k l = absurd (omega arith)
    after_kill (suc r) k l =
        let t = toll_most in
        let z = turned_since c ev k in
        (r, Owed (flush_off c ev) (killed_none c ev k) (turned_owes c ev k) (omega arith) (omega arith), omega arith)

    -- ---- fetch offers the right one

    -- it is taken, or Hazard holds it
    offered_right : (r : ℕ) → p.flush (suc q) ≡ false → p.valid (suc q) ≡ false → p.fetch.valid (suc q) ≡ true → p.fetch.pc (suc q) ≡ p.apc (suc q) → suc X + heavy (p.tail (suc q)) ≤ r → Next r
    offered_right zero f v o e l = absurd (omega arith)
    offered_right (suc r) f v o e l = by (p.hazard.hold (suc q)) refl
      where
        k : kill sh p (suc q) ≡ false
        k = right_kills c f v e

        some : (i : ℕ) → heavy (p.tail (suc q)) ≡ i → p.hazard.hold (suc q) ≡ true → 1 ≤ heavy (p.tail (suc q))
        some zero z y = both (p.hazard.hold (suc q)) y (hold_free c v z)
        some (suc i) z y = omega arith

        by : (b : Bool) → p.hazard.hold (suc q) ≡ b → Next (suc r)
        by true y =
            let t = toll_most in
            let nt = held_takes c y in
            let g = tail_on c ev (some (heavy (p.tail (suc q))) refl y) in
            (r, Held (flush_off c ev) (none_stays c ev v nt) (omega arith) o (steps.take q ∙ nt) (steps.redirect q ∙ k) (e ∙ sym (apc_stays c ev)) (omega arith), omega arith)
        by false y =
            let t = toll_most in
            let tk = free_takes c o (enters_none sh p (suc q) v) y k (goes_on c alive) in
            let g = taken_is c tk (enters_none sh p (suc q) v) k quiet_irq in
            (r, Works g.0 (not_killed sh p (suc (suc q)) g.0 (ap (λ s. s.pc) g.1 ∙ e ∙ sym (apc_stays c ev)) (flush_off c ev)) (omega arith), omega arith)

    -- the tail holds at most two results
    tail_short : heavy (p.tail (suc q)) ≤ 2
    tail_short = let a = heavy_length (p.tail (suc q)) in let e = steps.tail_long q in let s = is_core.stages in omega arith

    -- ---- nothing is in front

    -- something is offered, or Fetch is still waited for
    after_empty : (r : ℕ) → p.flush (suc q) ≡ false → p.valid (suc q) ≡ false → F + X + 5 ≤ r → 2 * F + X + 5 + last (is_taken_or_redirected p.fetch) (suc q) ≤ r + suc q → Next r
    after_empty zero f v l g = absurd (omega arith)
    after_empty (suc r) f v l g = by (p.fetch.valid (suc q)) refl
      where
        by_kill : p.fetch.valid (suc q) ≡ true → (b : Bool) → kill sh p (suc q) ≡ b → Next (suc r)
        by_kill o true k = after_kill (suc r) k l
        by_kill o false k = offered_right (suc r) f v o (wrong_kills c o k v) (let t = tail_short in omega arith)

        by : (b : Bool) → p.fetch.valid (suc q) ≡ b → Next (suc r)
        by true o = by_kill o (kill sh p (suc q)) refl
        by false o =
            let t = toll_most in
            let k = none_kills c f v o in
            let nt = no_take c o in
            let lq = not_long o in
            let qn = rest_since c ev k nt in
            (r, Empty (flush_off c ev) (none_stays c ev v nt) (omega arith) (omega arith), omega arith)

    -- fetch owes the right one
    after_owed : (r : ℕ) → p.flush (suc q) ≡ false → p.valid (suc q) ≡ false → owes_pc p.fetch core.predict sh.reset_pc (suc q) ≡ Some (p.apc (suc q)) → X + 4 ≤ r
        → F + X + 4 + last (is_taken_or_redirected p.fetch) (suc q) ≤ r + suc q → Next r
    after_owed zero f v w' l g = absurd (omega arith)
    after_owed (suc r) f v w' l g = by (p.fetch.valid (suc q)) refl
      where
        by : (b : Bool) → p.fetch.valid (suc q) ≡ b → Next (suc r)
        by true o = offered_right (suc r) f v o ((fetch_whole c).order o (p.apc (suc q)) w') (let t = tail_short in omega arith)
        by false o =
            let t = toll_most in
            let k = none_kills c f v o in
            let nt = no_take c o in
            let lq = not_long o in
            let qn = rest_since c ev k nt in
            (r, Owed (flush_off c ev) (none_stays c ev v nt) (rest_owes c ev k nt ∙ w' ∙ ap Some (sym (apc_stays c ev))) (omega arith) (omega arith), omega arith)

    -- the right one is offered and was held
    after_held : (r : ℕ) → p.flush (suc q) ≡ false → p.valid (suc q) ≡ false → 1 ≤ q → p.fetch.valid q ≡ true → p.fetch.take q ≡ false → p.fetch.redirect q ≡ false → p.fetch.pc q ≡ p.apc (suc q)
        → suc X + heavy (p.tail (suc q)) ≤ r → Next r
    after_held r f v o va ta re e l =
        let s = (fetch_whole c).stays o va ta re in
        offered_right r f v s.0 (s.1 ∙ e) l

    -- ---- the right one is in front
    module _ (v : p.valid (suc q) ≡ true) (k : kill sh p (suc q) ≡ false) where
      runs : run sh p (suc q) ≡ true
      runs = free_runs sh p (suc q) v (or_no (kill sh p (suc q)) (irq sh p (suc q)) k quiet_irq)

      not_yet : through sh p (suc q) ≡ false
      not_yet = not_through sh p (suc q) quiet_end runs

      plain : x.except ≡ false
      unfolding through
      plain = or_l x.except (finished sh p (suc q)) not_yet

      not_done : (p.unit u).done (suc q) ≡ false
      unfolding through
      not_done = sym (finished_is here runs plain) ∙ or_r x.except (finished sh p (suc q)) not_yet

      is_own : member u sh.entries ≡ true
      is_own = (own here runs plain).0

      its_go : (p.unit u).go (suc q) ≡ true
      its_go = goes here runs plain

      worked_now : ℕ
      worked_now = worked (idle_of core p run' memory u) (p.unit u) (suc q)

      in_time : worked_now < X
      unfolding worked_now
      in_time =
          let a = timely c u is_own w w_some (λ j g. bus_prompt (core.holds u) db w (suc j) (db_prompt j g)) its_go not_done in
          let b = is_x u is_own in
          omega arith

      waits_is : waits ≡ idle_of core p run' memory u (suc q)
      unfolding waits_at
      waits_is = (λ i. runs i && (not (plain i) && idle_of core p run' memory u (suc q)))

      worked_is : (cond (idle_of core p run' memory u (suc q)) 0 1) + worked_before core p run' memory q ≡ worked_now
      unfolding worked_now worked_before worked
      worked_is = refl

      worked_toll : toll waits + worked_before core p run' memory q ≡ worked_now
      worked_toll = ap (λ b. b + worked_before core p run' memory q) (ap toll waits_is ∙ by (idle_of core p run' memory u (suc q))) ∙ worked_is
        where
          by : (b : Bool) → toll b ≡ cond b 0 1
          by true = refl
          by false = refl

      next_valid : p.valid (suc (suc q)) ≡ true
      next_valid =
          let en = enters_no sh p (suc q) v not_yet in
          steps.valid q ∙ (λ i. not (k i || quiet_irq i) && (works_no_take sh p (suc q) en i || not (en i)))

      next_slot : p.slot (suc (suc q)) ≡ x
      next_slot = steps.slot q ∙ cond_false (enters sh p (suc q)) (fresh sh p (suc q)) x (enters_no sh p (suc q) v not_yet)

      next_kill : kill sh p (suc (suc q)) ≡ false
      next_kill = not_killed sh p (suc (suc q)) next_valid (ap (λ s. s.pc) next_slot ∙ on_path sh p (suc q) v k ∙ sym (apc_stays c ev)) (flush_off c ev)

      next_busy : busy (p.unit u) (suc (suc q)) ≡ true
      unfolding busy
      next_busy = λ i. its_go i && (not (not_done i) && not (cleared here u is_own k quiet_irq i))

      next_worked : worked_before core p run' memory (suc q) ≡ worked_now
      unfolding worked_before worked_now
      next_worked =
          (λ i. cond (busy (p.unit (core.owner (next_slot i).row)) (suc (suc q))) (worked (idle_of core p run' memory (core.owner (next_slot i).row)) (p.unit (core.owner (next_slot i).row)) (suc q)) 0)
          ∙ cond_true (busy (p.unit u) (suc (suc q))) (worked (idle_of core p run' memory u) (p.unit u) (suc q)) 0 next_busy

      after_works : (r : ℕ) → X ≤ r + worked_before core p run' memory q → Next r
      after_works r l = by waits refl
        where
          by : (b : Bool) → waits ≡ b → Next r
          by true e =
              let a = sym (ap (λ b. toll b + worked_before core p run' memory q) e) ∙ worked_toll in
              let z = next_worked in
              let t : toll waits ≡ 0 = ap toll e in
              (r, Works next_valid next_kill (omega arith), omega arith)
          by false e = with_some r l
            where
              a : 1 + worked_before core p run' memory q ≡ worked_now
              a = sym (ap (λ b. toll b + worked_before core p run' memory q) e) ∙ worked_toll

              t : toll waits ≡ 1
              t = ap toll e

              with_some : (r : ℕ) → X ≤ r + worked_before core p run' memory q → Next r
              with_some zero l = absurd (let a' = a in let b = in_time in omega arith)
              with_some (suc r) l = let a' = a in let z = next_worked in let t' = t in (r, Works next_valid next_kill (omega arith), omega arith)

    -- in a cycle without an event the rank falls by what the cycle costs
    pub step : (r : ℕ) → Phase core p run' memory F X q r → (s : ℕ) × Phase core p run' memory F X (suc q) s × (toll waits + s ≤ r)
    step r (Killed k l) = after_kill r k l
    step r (Empty f v l g) = after_empty r f v l g
    step r (Owed f v w' l g) = after_owed r f v w' l g
    step r (Held f v o va ta re e l) = after_held r f v o va ta re e l
    step r (Works v k l) = after_works v k r l
