-- A cycle without an event: what it leaves, and who is still waited for.
use Rattle.std.proofs.Common.{◌≡◌, ℕ, zero, suc, ◌<◌, ◌≤◌, Bool, true, false, cond, not, eqb, List, [], ◌∷◌, ◌&&◌, ◌||◌, length, refl, ap, ◌∙◌, sym, subst, arith, Option, Some, None}
use Rattle.core_ports.specs.Trace.{Bus, data_bus, instruction_bus}
use Rattle.bus_law.specs.Memory.{Memory}
use Rattle.bus_law.specs.Prompt.{IsPrompt}
use Rattle.bus_law.specs.Protocol.{is_given}
use Rattle.isa_csr.specs.Csrs.{Csrs}
use Rattle.isa_model.specs.Effects.{Moment}
use Rattle.isa_model.specs.Machine.{Machine}
use Rattle.isa_model.specs.Run.{now}
use Rattle.plug_law.specs.Exec.{IsTimely, bus_of, no_bus}
use Rattle.plug_law.specs.Fetch.{FetchKept, is_taken_or_redirected, owes_pc}
use Rattle.plug_law.specs.Past.{last}
use Rattle.plug_law.specs.Hazard.{Ahead, waits_for, writer}
use Rattle.plug_law.specs.Pipeline.{Late, Shape, asked, ends, enters, event, faulty, fence, fresh, in_front, irq, kill, made_late, member, next_pc, places, retires, shift, takes, target, traps, wrong}
use Rattle.pipe_law.proofs.Execute.{InExecute}
use Rattle.pipe_law.proofs.Basics.{and_no_l, and_no_r, cond_false, cond_true, eqb_refl, or_no, or_r, or_true, unequal_is}
use Rattle.pipe_law.proofs.Cycle.{enters_none, no_end, no_event}
use Rattle.pipe_law.proofs.Invariant.{bus_at}
use Rattle.pipe_law.proofs.Next.{no_bus_owed}
use Rattle.pipe_law.proofs.Unit.{alone, told}
use Rattle.pipe_law.specs.Core.{begin_at, csrs_in, mem_of, moment_at, terms_at}

-- ---- results on their way
-- in how many cycles without a write the tail has no writer
unfoldable pub heavy : List Late → ℕ
heavy [] = 0
heavy (x ∷ xs) = cond x.writes (suc (length xs)) (heavy xs)

-- no more than the tail is long
pub heavy_length : (xs : List Late) → heavy xs ≤ length xs
unfolding heavy
heavy_length [] = omega arith
heavy_length (x ∷ xs) = by x.writes (heavy_length xs)
  where
    by : (b : Bool) → heavy xs ≤ length xs → cond b (suc (length xs)) (heavy xs) ≤ suc (length xs)
    by true l = omega arith
    by false l = omega arith

-- the tail keeps its length
shift_length : (new : Late) (xs : List Late) → length (shift new xs) ≡ length xs
shift_length new [] = refl
shift_length new (x ∷ xs) = ap suc (shift_length x xs)

-- a result that writes nothing does not count
shifted : (new x : Late) (xs : List Late) → new.writes ≡ false → heavy (shift new (x ∷ xs)) ≡ heavy (shift x xs)
unfolding heavy
shifted new x xs n = cond_false new.writes (suc (length (shift x xs))) (heavy (shift x xs)) n

-- each cycle without a write brings the last writer nearer to the registers
pub heavy_shift : (new : Late) (xs : List Late) → new.writes ≡ false → 1 ≤ heavy xs → suc (heavy (shift new xs)) ≤ heavy xs
unfolding heavy
heavy_shift new [] n l = absurd (omega arith)
heavy_shift new (x ∷ xs) n l = by x.writes refl (λ e z. heavy_shift x xs e z)
  where
    by : (b : Bool) → x.writes ≡ b → (x.writes ≡ false → 1 ≤ heavy xs → suc (heavy (shift x xs)) ≤ heavy xs) → suc (heavy (shift new (x ∷ xs))) ≤ heavy (x ∷ xs)
    by true e ih =
        let a : heavy (x ∷ xs) ≡ suc (length xs) = cond_true x.writes (suc (length xs)) (heavy xs) e in
        let s = shifted new x xs n in
        let y = heavy_length (shift x xs) in
        let z = shift_length x xs in
        omega arith
    by false e ih =
        let a : heavy (x ∷ xs) ≡ heavy xs = cond_false x.writes (suc (length xs)) (heavy xs) e in
        let s = shifted new x xs n in
        let y = ih e (omega arith) in
        omega arith

-- a tail without a writer holds nothing
pub none_waited : (b : ℕ → Bool) (n : ℕ) (xs : List Late) (r : ℕ) → heavy xs ≡ 0 → waits_for (writer b (places n xs) r) ≡ false
unfolding heavy
none_waited b zero xs r h = refl
none_waited b (suc n) [] r h = none_waited (λ i. b (suc i)) n [] r h
none_waited b (suc n) (x ∷ xs) r h = by x.writes refl (λ z. none_waited (λ i. b (suc i)) n xs r z)
  where
    by : (w : Bool) → x.writes ≡ w → (heavy xs ≡ 0 → waits_for (writer (λ i. b (suc i)) (places n xs) r) ≡ false) → waits_for (writer b (places (suc n) (x ∷ xs)) r) ≡ false
    by true e ih = absurd (let a : heavy (x ∷ xs) ≡ suc (length xs) = cond_true x.writes (suc (length xs)) (heavy xs) e in omega arith)
    by false e ih =
        let a : heavy (x ∷ xs) ≡ heavy xs = cond_false x.writes (suc (length xs)) (heavy xs) e in
        ap (λ w. waits_for (cond (w && (eqb x.rd r && not (eqb r 0))) (Some (record { writes = x.writes; rd = x.rd; ready = b 0; value = x.value })) (writer (λ i. b (suc i)) (places n xs) r))) e
        ∙ ih (sym a ∙ h)

-- a stage in front that writes nothing
pub front_none : (b : ℕ → Bool) (x : Ahead) (rest : List Ahead) (r : ℕ) → x.writes ≡ false → waits_for (writer b (x ∷ rest) r) ≡ waits_for (writer (λ i. b (suc i)) rest r)
front_none b x rest r e = ap (λ w. waits_for (cond (w && (eqb x.rd r && not (eqb r 0))) (Some (record x { ready = x.ready && b 0 })) (writer (λ i. b (suc i)) rest r))) e

-- ---- buses in time

-- a bus at rest answers in time
pub no_bus_prompt : (w k : ℕ) → IsPrompt no_bus w k
unfolding is_given
no_bus_prompt w zero = record { accepts = λ g a. absurd (grind arith); answers = λ j o v. absurd (none_some j (sym (no_bus_owed 0) ∙ o)) }
  where
    none_some : (j : ℕ) → ◌≡◌ {A = Option ℕ} None (Some j) → ⊥
    none_some j e = cc
no_bus_prompt w (suc k) = record { accepts = λ g a. absurd (grind arith); answers = λ j o v. absurd (none_some j (sym (no_bus_owed (suc k)) ∙ o)) }
  where
    none_some : (j : ℕ) → ◌≡◌ {A = Option ℕ} None (Some j) → ⊥
    none_some j e = cc

-- the data bus of a part answers in time where the core's does
pub bus_prompt : (b : Bool) (db : Bus) (w k : ℕ) → IsPrompt db w k → IsPrompt (bus_of b db) w k
bus_prompt true db w k h = h
bus_prompt false db w k h = no_bus_prompt w k

module _ (c : InExecute) where
  open c use {here, laws, steps}
  open here use {core, p, run', memory, n, is_core, is_memory, honest, q, h, inv, within}

  -- short names
  abbrev sh : Shape
  sh = core.shape

  abbrev moments : ℕ → Moment
  moments = moment_at run'

  abbrev ib : Bus
  ib = instruction_bus run'

  abbrev db : Bus
  db = data_bus run'

  abbrev mem : ℕ → Memory
  mem = mem_of memory run'

  abbrev csr : ℕ → Csrs
  csr = csrs_in core p run' memory

  abbrev bus : ℕ → Bus
  bus = bus_at core run'

  abbrev m : Machine
  m = now (begin_at core memory) h

  -- ---- the laws of progress

  -- Fetch's whole law in this cycle
  pub fetch_whole : FetchKept core.fetch_latency p.fetch ib mem core.predict sh.reset_pc q
  fetch_whole = let l : suc q < n = within in laws.fetch q (λ j g. inv.asks j (omega arith) (omega arith))

  -- each unit's law of progress in this cycle
  pub timely : (k : ℕ) → member k sh.entries ≡ true → IsTimely (terms_at core k) (p.unit k) (bus k) mem csr moments q
  timely k e = let l : suc q < n = within in (laws.exec k e q (λ i g. inv.exec k e i (omega arith) (omega arith)) (λ o i g. alone here i) (λ i g. told here k i (omega arith))).1

  -- the core runs where the machine does
  pub goes_on : m.stopped ≡ false → p.stopped (suc q) ≡ false
  goes_on s = sym inv.halted ∙ s

  -- nothing is there
  pub none_kills : p.flush (suc q) ≡ false → p.valid (suc q) ≡ false → p.fetch.valid (suc q) ≡ false → kill sh p (suc q) ≡ false
  unfolding kill
  none_kills f v o =
      or_no (p.flush (suc q)) (cond (p.valid (suc q)) (wrong sh p (suc q) (p.slot (suc q)).pc) (p.fetch.valid (suc q) && wrong sh p (suc q) (p.fetch.pc (suc q)))) f
      (cond_false (p.valid (suc q)) (wrong sh p (suc q) (p.slot (suc q)).pc) (p.fetch.valid (suc q) && wrong sh p (suc q) (p.fetch.pc (suc q))) v
      ∙ and_no_l (p.fetch.valid (suc q)) (wrong sh p (suc q) (p.fetch.pc (suc q))) o)

  -- a right item of fetch is there
  pub right_kills : p.flush (suc q) ≡ false → p.valid (suc q) ≡ false → p.fetch.pc (suc q) ≡ p.apc (suc q) → kill sh p (suc q) ≡ false
  unfolding kill
  right_kills f v o =
      or_no (p.flush (suc q)) (cond (p.valid (suc q)) (wrong sh p (suc q) (p.slot (suc q)).pc) (p.fetch.valid (suc q) && wrong sh p (suc q) (p.fetch.pc (suc q)))) f
      (cond_false (p.valid (suc q)) (wrong sh p (suc q) (p.slot (suc q)).pc) (p.fetch.valid (suc q) && wrong sh p (suc q) (p.fetch.pc (suc q))) v
      ∙ and_no_r (p.fetch.valid (suc q)) (wrong sh p (suc q) (p.fetch.pc (suc q))) (ap (λ z. not (eqb z (p.apc (suc q)))) o ∙ ap not (eqb_refl (p.apc (suc q)))))

  -- what is offered and not killed is the next of the program
  pub wrong_kills : p.fetch.valid (suc q) ≡ true → kill sh p (suc q) ≡ false → p.valid (suc q) ≡ false → p.fetch.pc (suc q) ≡ p.apc (suc q)
  unfolding kill
  wrong_kills o k v =
      unequal (wrong_no (cond_is ∙ or_r (p.flush (suc q)) (cond (p.valid (suc q)) (wrong sh p (suc q) (p.slot (suc q)).pc) (p.fetch.valid (suc q) && wrong sh p (suc q) (p.fetch.pc (suc q)))) k))
    where
      cond_is : (p.fetch.valid (suc q) && wrong sh p (suc q) (p.fetch.pc (suc q))) ≡ cond (p.valid (suc q)) (wrong sh p (suc q) (p.slot (suc q)).pc) (p.fetch.valid (suc q) && wrong sh p (suc q) (p.fetch.pc (suc q)))
      cond_is = sym (cond_false (p.valid (suc q)) (wrong sh p (suc q) (p.slot (suc q)).pc) (p.fetch.valid (suc q) && wrong sh p (suc q) (p.fetch.pc (suc q))) v)

      wrong_no : (p.fetch.valid (suc q) && wrong sh p (suc q) (p.fetch.pc (suc q))) ≡ false → wrong sh p (suc q) (p.fetch.pc (suc q)) ≡ false
      wrong_no z = sym (ap (λ b. b && wrong sh p (suc q) (p.fetch.pc (suc q))) o) ∙ z

      unequal : wrong sh p (suc q) (p.fetch.pc (suc q)) ≡ false → p.fetch.pc (suc q) ≡ p.apc (suc q)
      unequal z = unequal_is (p.fetch.pc (suc q)) (p.apc (suc q)) z

  -- ---- no event
  module _ (ev : event sh p (suc q) ≡ false) where
    abbrev quiet_end : ends sh p (suc q) ≡ false
    quiet_end = (no_event sh p (suc q) ev).0

    abbrev quiet_irq : irq sh p (suc q) ≡ false
    quiet_irq = (no_event sh p (suc q) ev).1

    -- the program's pc stays
    pub apc_stays : p.apc (suc (suc q)) ≡ p.apc (suc q)
    apc_stays = steps.apc q ∙ cond_false (event sh p (suc q)) (cond (asked sh p (suc q) || faulty sh p (suc q)) (target sh p (suc q)) (next_pc sh p (suc q))) (p.apc (suc q)) ev

    -- nothing flushes any more
    pub flush_off : p.flush (suc (suc q)) ≡ false
    flush_off =
        let z = no_end sh p (suc q) quiet_end in
        steps.flush q ∙ or_no (irq sh p (suc q)) (traps sh p (suc q) || (retires sh p (suc q) && fence sh p (suc q))) quiet_irq
        (or_no (traps sh p (suc q)) (retires sh p (suc q) && fence sh p (suc q)) z.0 (and_no_l (retires sh p (suc q)) (fence sh p (suc q)) z.1))

    -- the results move on
    pub tail_on : 1 ≤ heavy (p.tail (suc q)) → suc (heavy (p.tail (suc (suc q)))) ≤ heavy (p.tail (suc q))
    tail_on l = subst (λ t. suc (heavy t) ≤ heavy (p.tail (suc q))) (sym (steps.tail q)) (heavy_shift (made_late sh p (suc q)) (p.tail (suc q)) (no_end sh p (suc q) quiet_end).2 l)

    -- after a kill nothing is in front
    pub killed_none : kill sh p (suc q) ≡ true → p.valid (suc (suc q)) ≡ false
    killed_none k = steps.valid q ∙ ap (λ b. not (b || irq sh p (suc q)) && (takes sh p (suc q) || not (enters sh p (suc q)))) k

    -- what is not taken does not come
    pub none_stays : p.valid (suc q) ≡ false → takes sh p (suc q) ≡ false → p.valid (suc (suc q)) ≡ false
    none_stays v t =
        steps.valid q ∙ and_no_r (not (kill sh p (suc q) || irq sh p (suc q))) (takes sh p (suc q) || not (enters sh p (suc q)))
        (or_no (takes sh p (suc q)) (not (enters sh p (suc q))) t (ap not (enters_none sh p (suc q) v)))

    -- a redirect
    pub turned_owes : kill sh p (suc q) ≡ true → owes_pc p.fetch core.predict sh.reset_pc (suc (suc q)) ≡ Some (p.apc (suc (suc q)))
    unfolding owes_pc
    turned_owes k =
        cond_true (p.fetch.redirect (suc q)) (Some (p.fetch.redirect_pc (suc q)))
        (cond (p.fetch.take (suc q)) (cond (p.fetch.error (suc q)) None (Some (core.predict (p.fetch.pc (suc q)) (p.fetch.word (suc q))))) (owes_pc p.fetch core.predict sh.reset_pc (suc q))) (steps.redirect q ∙ k)
        ∙ ap Some (steps.redirect_pc q ∙ sym apc_stays)

    -- and the last redirect is now
    pub turned_since : kill sh p (suc q) ≡ true → last (is_taken_or_redirected p.fetch) (suc (suc q)) ≡ suc q
    unfolding last
    turned_since k = (λ i. cond (p.fetch.take (suc q) || (steps.redirect q ∙ k) i) (suc q) (last (is_taken_or_redirected p.fetch) (suc q))) ∙ cond_true (p.fetch.take (suc q) || true) (suc q) (last (is_taken_or_redirected p.fetch) (suc q)) (or_true (p.fetch.take (suc q)) true refl)

    -- neither a take nor a redirect
    pub rest_owes : kill sh p (suc q) ≡ false → takes sh p (suc q) ≡ false → owes_pc p.fetch core.predict sh.reset_pc (suc (suc q)) ≡ owes_pc p.fetch core.predict sh.reset_pc (suc q)
    unfolding owes_pc
    rest_owes k t =
        (λ i. cond ((steps.redirect q ∙ k) i) (Some (p.fetch.redirect_pc (suc q)))
        (cond ((steps.take q ∙ t) i) (cond (p.fetch.error (suc q)) None (Some (core.predict (p.fetch.pc (suc q)) (p.fetch.word (suc q))))) (owes_pc p.fetch core.predict sh.reset_pc (suc q))))

    -- and since then it is as long as before and one cycle more
    pub rest_since : kill sh p (suc q) ≡ false → takes sh p (suc q) ≡ false → last (is_taken_or_redirected p.fetch) (suc (suc q)) ≡ last (is_taken_or_redirected p.fetch) (suc q)
    unfolding last
    rest_since k t = (λ i. cond ((steps.take q ∙ t) i || (steps.redirect q ∙ k) i) (suc q) (last (is_taken_or_redirected p.fetch) (suc q)))

  -- ---- taking

  -- what is not offered is not taken
  pub no_take : p.fetch.valid (suc q) ≡ false → takes sh p (suc q) ≡ false
  unfolding takes
  no_take o = and_no_l (p.fetch.valid (suc q) && enters sh p (suc q)) (not (p.hazard.hold (suc q)) && (not (kill sh p (suc q)) && not (p.stopped (suc q)))) (and_no_l (p.fetch.valid (suc q)) (enters sh p (suc q)) o)

  -- an item that Hazard holds is not taken
  pub held_takes : p.hazard.hold (suc q) ≡ true → takes sh p (suc q) ≡ false
  unfolding takes
  held_takes o = and_no_r (p.fetch.valid (suc q) && enters sh p (suc q)) (not (p.hazard.hold (suc q)) && (not (kill sh p (suc q)) && not (p.stopped (suc q)))) (and_no_l (not (p.hazard.hold (suc q))) (not (kill sh p (suc q)) && not (p.stopped (suc q))) (ap not o))

  -- one that nothing holds is
  pub free_takes : p.fetch.valid (suc q) ≡ true → enters sh p (suc q) ≡ true → p.hazard.hold (suc q) ≡ false → kill sh p (suc q) ≡ false → p.stopped (suc q) ≡ false → takes sh p (suc q) ≡ true
  unfolding takes
  free_takes o e w k s = λ i. (o i && e i) && (not (w i) && (not (k i) && not (s i)))

  -- and is in front in the next cycle
  pub taken_is : takes sh p (suc q) ≡ true → enters sh p (suc q) ≡ true → kill sh p (suc q) ≡ false → irq sh p (suc q) ≡ false → (p.valid (suc (suc q)) ≡ true) × (p.slot (suc (suc q)) ≡ fresh sh p (suc q))
  taken_is t e k i = (
    steps.valid q ∙ (λ j. not (k j || i j) && (t j || not (enters sh p (suc q)))),
    steps.slot q ∙ cond_true (enters sh p (suc q)) (fresh sh p (suc q)) (p.slot (suc q)) e,
  )

  -- nothing in front and nothing on its way: nothing is held
  pub hold_free : p.valid (suc q) ≡ false → heavy (p.tail (suc q)) ≡ 0 → p.hazard.hold (suc q) ≡ false
  hold_free v t =
      laws.hazard.hold q
      ∙ or_no (p.hazard.uses_a (suc q) && waits_for (writer core.bypassed (p.hazard.stages (suc q)) (p.hazard.ra (suc q)))) (p.hazard.uses_b (suc q) && waits_for (writer core.bypassed (p.hazard.stages (suc q)) (p.hazard.rb (suc q))))
      (and_no_r (p.hazard.uses_a (suc q)) (waits_for (writer core.bypassed (p.hazard.stages (suc q)) (p.hazard.ra (suc q)))) (none (p.hazard.ra (suc q))))
      (and_no_r (p.hazard.uses_b (suc q)) (waits_for (writer core.bypassed (p.hazard.stages (suc q)) (p.hazard.rb (suc q)))) (none (p.hazard.rb (suc q))))
    where
      none : (r : ℕ) → waits_for (writer core.bypassed (p.hazard.stages (suc q)) r) ≡ false
      none r =
          ap (λ s. waits_for (writer core.bypassed s r)) (steps.stages q)
          ∙ front_none core.bypassed (in_front sh p (suc q)) (places 2 (p.tail (suc q))) r (and_no_l (p.valid (suc q)) (p.slot (suc q)).writes v)
          ∙ none_waited (λ i. core.bypassed (suc i)) 2 (p.tail (suc q)) r t
