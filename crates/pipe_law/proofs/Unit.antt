-- The item in front: where it runs it is the machine's next, and its unit does what the table says.
use Rattle.std.proofs.Common.{◌≡◌, ℕ, suc, ◌<◌, Bool, true, false, cond, not, eqb, List, [], ◌∷◌, ◌&&◌, ◌||◌, ◌⊎◌, inl, inr, refl, ap, ◌∙◌, sym, arith, Option, Some, None}
use Rattle.std.specs.Prelude.{option_to_list}
use Rattle.core_ports.specs.Trace.{Bus, data_bus, instruction_bus}
use Rattle.bus_law.proofs.ByStores.{memory_by_stores}
use Rattle.bus_law.specs.Memory.{Memory, Store, with_store}
use Rattle.bus_law.specs.Protocol.{is_accepted}
use Rattle.isa_csr.specs.Csrs.{Csrs}
use Rattle.isa_model.specs.Effects.{Moment, write_of}
use Rattle.isa_model.specs.Machine.{Machine}
use Rattle.isa_model.specs.Run.{now, is_fence_word}
use Rattle.plug_law.specs.Exec.{Alone, ExecKept, Shows, begun, busy, effect_at, made, made_by}
use Rattle.pipe_law.proofs.Stage.{FetchSafe}
use Rattle.plug_law.specs.Outcome.{effect_on}
use Rattle.plug_law.specs.Pipeline.{Shape, Slot, asked, ends, finished, gather, gather_bit, irq, kill, member, next_pc, run, through, tval, value}
use Rattle.plug_law.specs.System.{SystemAssumed}
use Rattle.pipe_law.proofs.Basics.{and_l, and_no_r, and_r, and_yes, both, cond_false, cond_true, eqb_refl, not_true, or_no, same}
use Rattle.pipe_law.proofs.Cycle.{any_is, asked_is, gather_bit_is, gather_is, no_flush, not_killed, on_path, run_free, run_valid, started_no_irq, through_is}
use Rattle.pipe_law.proofs.Invariant.{Here, bus_at, pend}
use Rattle.pipe_law.proofs.Outcome.{Good, except_writes, not_excepted, row_is, same_effect}
use Rattle.pipe_law.specs.Core.{begin_at, csrs_in, events_of, exec_of, mem_of, moment_at, told_to}
use Rattle.plug_law.specs.Pipeline as wire

-- an option is known by its list
pub list_inj : (x y : Option Store) → option_to_list x ≡ option_to_list y → x ≡ y
list_inj None None h = refl
list_inj None (Some w) h = absurd (grind arith)
list_inj (Some v) None h = absurd (grind arith)
list_inj (Some v) (Some w) h = ap first h
  where
    first : List Store → Option Store
    first [] = None
    first (x ∷ xs) = Some x

module _ (c : Here) where
  open c use {core, p, run', memory, n, is_core, laws, steps, is_memory, honest, q, h, inv, within}

  -- short names
  abbrev sh : Shape
  sh = core.shape

  abbrev moments : ℕ → Moment
  moments = moment_at run'

  abbrev ib : Bus
  ib = instruction_bus run'

  abbrev db : Bus
  db = data_bus run'

  abbrev mem : ℕ → Memory
  mem = mem_of memory run'

  abbrev csr : ℕ → Csrs
  csr = csrs_in core p run' memory

  abbrev bus : ℕ → Bus
  bus = bus_at core run'

  abbrev m : Machine
  m = now (begin_at core memory) h

  abbrev x : Slot
  x = p.slot (suc q)

  abbrev u : ℕ
  u = core.owner (p.slot (suc q)).row

  -- ---- the laws of this cycle

  -- memory changes by the writes of the data bus alone
  pub alone : (i : ℕ) → Alone db mem i
  alone i = memory_by_stores memory db (suc i)

  abbrev Kept : ℕ → Type 0
  Kept k = ExecKept core.table (p.unit k) (bus k) mem csr moments q

  -- what each unit is told of the events so far
  pub told : (k i : ℕ) → suc i < suc q → told_to core p k i
  told k i l f e = by core.set.system f (inv.tells i l)
    where
      by : (b : Bool) → b ≡ true → SystemAssumed (exec_of b (p.unit core.system_entry)) (events_of b p.system) i → SystemAssumed (p.unit core.system_entry) p.system i
      by true z h = h
      by false z h = absurd (grind arith)

  -- each unit's law in this cycle
  pub kept : (k : ℕ) → member k sh.entries ≡ true → Kept k
  kept k e = let l : suc q < n = within in laws.exec k e q (λ i g. inv.exec k e i (omega arith) (omega arith)) (λ o i g. alone i) (λ i g. told k i (omega arith))

  -- Fetch's law in this cycle
  pub fetch_kept : FetchSafe p.fetch ib mem q
  fetch_kept = let l : suc q < n = within in laws.fetch q (λ i g. inv.asks i (omega arith) (omega arith))

  -- ---- an item that runs

  -- it is the next of the program, and nothing flushes, kills or interrupts it
  pub record Head : Type 0 where
    pub valid : p.valid (suc q) ≡ true
    pub path : x.pc ≡ p.apc (suc q)
    pub flush : p.flush (suc q) ≡ false
    pub quiet : irq sh p (suc q) ≡ false
    pub kept_on : kill sh p (suc q) ≡ false
    pub calm : asked sh p (suc q) ≡ false

  -- whether it is started or not
  head_by : (b : Bool) → p.started (suc q) ≡ b → run sh p (suc q) ≡ true → Head
  head_by true e r =
      let st = inv.started e in
      let k = not_killed sh p (suc q) st.valid st.path st.flush in
      let i = started_no_irq sh p (suc q) e in
      record { valid = st.valid; path = st.path; flush = st.flush; quiet = i; kept_on = k; calm = asked_is sh p (suc q) k ∙ i }
  head_by false e r =
      let f = run_free sh p (suc q) r e in
      let v = run_valid sh p (suc q) r in
      record { valid = v; path = on_path sh p (suc q) v f.0; flush = no_flush sh p (suc q) f.0; quiet = f.1; kept_on = f.0; calm = asked_is sh p (suc q) f.0 ∙ f.1 }

  -- so of any item that runs
  pub head : run sh p (suc q) ≡ true → Head
  head = head_by (p.started (suc q)) refl

  -- then the core is not stopped
  pub not_stopped : Head → p.stopped (suc q) ≡ false
  not_stopped d = by (p.stopped (suc q)) refl
    where
      on : (p.flush (suc q) ≡ true) ⊎ (p.valid (suc q) ≡ false) → p.stopped (suc q) ≡ false
      on (inl f) = both (p.flush (suc q)) f d.flush
      on (inr v) = both (p.valid (suc q)) d.valid v

      by : (b : Bool) → p.stopped (suc q) ≡ b → p.stopped (suc q) ≡ false
      by true e = on (inv.stop e)
      by false e = e

  -- without a flush no fence is under way
  pub no_fence : p.flush (suc q) ≡ false → p.flush_fence (suc q) ≡ false
  no_fence f = by (p.flush_fence (suc q)) refl
    where
      by : (b : Bool) → p.flush_fence (suc q) ≡ b → p.flush_fence (suc q) ≡ false
      by true e = both (p.flush (suc q)) (inv.fence e) f
      by false e = e

  -- the item's pc is the machine's
  pub at_pc : Head → x.pc ≡ m.pc
  at_pc d = d.path ∙ sym (inv.pc (not_stopped d))

  -- ---- the unit that goes

  -- what a go says of the item in front
  pub record Goes (k : ℕ) : Type 0 where
    pub valid : p.valid (suc q) ≡ true
    pub plain : x.except ≡ false
    pub is : u ≡ k
    pub runs : sh.commits k ≡ true → run sh p (suc q) ≡ true

  abbrev may_go : ℕ → Bool
  may_go k = cond (sh.commits k) (run sh p (suc q)) (p.valid (suc q))

  -- a go needs an item
  may_valid : (k : ℕ) (b : Bool) → sh.commits k ≡ b → may_go k ≡ true → p.valid (suc q) ≡ true
  may_valid k true e z = run_valid sh p (suc q) (sym (cond_true (sh.commits k) (run sh p (suc q)) (p.valid (suc q)) e) ∙ z)
  may_valid k false e z = sym (cond_false (sh.commits k) (run sh p (suc q)) (p.valid (suc q)) e) ∙ z

  -- and its owner is the one that is given it
  pub go_parts : (k : ℕ) → member k sh.entries ≡ true → (p.unit k).go (suc q) ≡ true → Goes k
  go_parts k e g =
      let z = sym (steps.go k q e) ∙ g in
      let a = and_l (may_go k) (p.chosen k (suc q)) z in
      let v = may_valid k (sh.commits k) refl a in
      let y = sym (inv.chosen v k e) ∙ and_r (may_go k) (p.chosen k (suc q)) z in
      record {
        valid = v;
        plain = not_true x.except (and_l (not x.except) (eqb u k) y);
        is = same u k (and_r (not x.except) (eqb u k) y);
        runs = λ b. sym (cond_true (sh.commits k) (run sh p (suc q)) (p.valid (suc q)) b) ∙ a;
      }

  -- no other unit is done
  pub others : (k : ℕ) → member k sh.entries ≡ true → eqb u k ≡ false → (p.unit k).done (suc q) ≡ false
  others k e f = by ((p.unit k).go (suc q)) refl
    where
      by : (b : Bool) → (p.unit k).go (suc q) ≡ b → (p.unit k).done (suc q) ≡ false
      by true g = both (eqb u k) (ap (λ i. eqb i k) (go_parts k e g).is ∙ eqb_refl k) f
      by false g = (kept k e).rests g

  -- where the pipeline traps the item, none is
  pub excepted_none : x.except ≡ true → (k : ℕ) → member k sh.entries ≡ true → (p.unit k).done (suc q) ≡ false
  excepted_none f k e = by ((p.unit k).go (suc q)) refl
    where
      by : (b : Bool) → (p.unit k).go (suc q) ≡ b → (p.unit k).done (suc q) ≡ false
      by true g = both x.except f (go_parts k e g).plain
      by false g = (kept k e).rests g

  -- ---- an item of a unit that runs
  module _ (r : run sh p (suc q) ≡ true) (plain : x.except ≡ false) where
    -- the item is decoded right
    good : Good core.table x
    good = inv.good (head r).valid

    -- its word has its row
    pub row_is_row : core.table.row_of x.word ≡ Some x.row
    row_is_row = row_is core.set.system core.table is_core.table m x (moments (suc q)) good plain

    -- its row belongs to an entry that takes it
    pub own : (member u sh.entries ≡ true) × (core.claims u x.row ≡ true)
    own = is_core.owns x.word x.row row_is_row (not_excepted core.set.system core.table is_core.table m x (moments (suc q)) good plain).2

    -- the unit may go
    may : (b : Bool) → cond b (run sh p (suc q)) (p.valid (suc q)) ≡ true
    may true = r
    may false = (head r).valid

    -- the entry that is chosen is the owner
    chosen_is : (k : ℕ) → member k sh.entries ≡ true → p.chosen k (suc q) ≡ eqb u k
    chosen_is k e = inv.chosen (head r).valid k e ∙ ap (λ b. not b && eqb u k) plain

    -- the owner is given the item
    pub goes : (p.unit u).go (suc q) ≡ true
    goes = steps.go u q own.0 ∙ and_yes (may_go u) (p.chosen u (suc q)) (may (sh.commits u)) (chosen_is u own.0 ∙ eqb_refl u)

    -- done is the owner's done
    pub finished_is : finished sh p (suc q) ≡ (p.unit u).done (suc q)
    unfolding finished
    finished_is = any_is (λ k. (p.unit k).done (suc q)) sh.entries u own.0 others

    -- a unit whose item is not started is not at work
    not_busy : p.started (suc q) ≡ false → busy (p.unit u) (suc q) ≡ false
    not_busy e = by (busy (p.unit u) (suc q)) refl
      where
        by : (b : Bool) → busy (p.unit u) (suc q) ≡ b → busy (p.unit u) (suc q) ≡ false
        by true f = both (p.started (suc q)) (inv.work u own.0 f).0 e
        by false f = f

    -- memory as the go began is the machine's
    pub begun_memory : mem (begun (p.unit u) (suc q)) ≡ m.memory
    unfolding begun
    begun_memory = by (p.started (suc q)) refl
      where
        here : busy (p.unit u) (suc q) ≡ false → begun (p.unit u) (suc q) ≡ suc q
        here e = cond_false (busy (p.unit u) (suc q)) (begun (p.unit u) q) (suc q) e

        by : (b : Bool) → p.started (suc q) ≡ b → mem (begun (p.unit u) (suc q)) ≡ m.memory
        by true e = (inv.started e).memory_is
        by false e = ap mem (here (not_busy e)) ∙ inv.memory_is ∙ ap (with_store m.memory) (inv.idle e)

    -- the writes of the go are the one that waits for its event
    pub made_is : made (p.unit u) (bus u) (suc q) ≡ option_to_list (pend sh p run' (suc q))
    unfolding made
    made_is = by (p.started (suc q)) refl
      where
        here : busy (p.unit u) (suc q) ≡ false → made (p.unit u) (bus u) (suc q) ≡ []
        here e = cond_false (busy (p.unit u) (suc q)) (made_by (p.unit u) (bus u) q) [] e

        by : (b : Bool) → p.started (suc q) ≡ b → made (p.unit u) (bus u) (suc q) ≡ option_to_list (pend sh p run' (suc q))
        by true e = (inv.started e).made
        by false e = here (not_busy e) ∙ ap option_to_list (sym (inv.idle e))

    -- the effect at its inputs is the machine's
    pub effect_is : effect_at core.table (p.unit u) mem csr moments (suc q) ≡ effect_on core.table m x.row x.word (moments (suc q))
    effect_is =
        let d = head r in
        let o = own.0 in
        (λ i. core.table.effect (steps.go_row u q o i) (steps.go_pc u q o i) (steps.go_word u q o i) (steps.go_a u q o i) (steps.go_b u q o i) (begun_memory i) (sym inv.csrs i) (moments (suc q)))
        ∙ same_effect core.table is_core.table m x (moments (suc q)) (at_pc d) (inv.a d.valid d.flush plain) (inv.b d.valid d.flush plain)

    -- ---- its end
    module _ (e : ends sh p (suc q) ≡ true) where
      pub done_is : (p.unit u).done (suc q) ≡ true
      unfolding through
      done_is = sym finished_is ∙ sym (ap (λ b. b || finished sh p (suc q)) plain) ∙ through_is sh p (suc q) e

      gathered : (f : ℕ → ℕ) → gather (λ k. p.chosen k (suc q)) sh.entries f ≡ f u
      gathered f = gather_is (λ k. p.chosen k (suc q)) sh.entries u f own.0 (chosen_is u own.0 ∙ eqb_refl u) (λ k a z. chosen_is k a ∙ z)

      gathered_bit : (f : ℕ → Bool) → gather_bit (λ k. p.chosen k (suc q)) sh.entries f ≡ f u
      gathered_bit f = gather_bit_is (λ k. p.chosen k (suc q)) sh.entries u f own.0 (chosen_is u own.0 ∙ eqb_refl u) (λ k a z. chosen_is k a ∙ z)

      pub value_is : value sh p (suc q) ≡ (p.unit u).value (suc q)
      unfolding value
      value_is = gathered (λ k. (p.unit k).value (suc q))

      pub next_is : next_pc sh p (suc q) ≡ (p.unit u).next_pc (suc q)
      unfolding next_pc
      next_is = gathered (λ k. (p.unit k).next_pc (suc q))

      pub trap_is : wire.trap sh p (suc q) ≡ (p.unit u).trap (suc q)
      unfolding wire.trap
      trap_is = gathered_bit (λ k. (p.unit k).trap (suc q))

      pub cause_is : wire.cause sh p (suc q) ≡ (p.unit u).cause (suc q)
      unfolding wire.cause
      cause_is = gathered (λ k. (p.unit k).cause (suc q))

      pub tval_is : tval sh p (suc q) ≡ (p.unit u).tval (suc q)
      unfolding tval
      tval_is = gathered (λ k. (p.unit k).tval (suc q))

      pub fence_is : wire.fence sh p (suc q) ≡ (p.unit u).fence (suc q)
      unfolding wire.fence
      fence_is = gathered_bit (λ k. (p.unit k).fence (suc q))

      pub shows : Shows (effect_at core.table (p.unit u) mem csr moments (suc q)) ((p.unit u).value (suc q)) ((p.unit u).next_pc (suc q)) ((p.unit u).cause (suc q)) ((p.unit u).tval (suc q)) ((p.unit u).trap (suc q))
      shows = ((kept u own.0).result goes done_is).0

      pub fenced : wire.fence sh p (suc q) ≡ is_fence_word x.word
      fenced = fence_is ∙ ((kept u own.0).result goes done_is).1 ∙ ap is_fence_word (steps.go_word u q own.0)

      pub nothing_taken : is_accepted (bus u) (suc q) ≡ false
      nothing_taken = ((kept u own.0).wrote goes done_is).1

      pub pend_is : pend sh p run' (suc q) ≡ write_of (effect_at core.table (p.unit u) mem csr moments (suc q))
      pend_is = list_inj (pend sh p run' (suc q)) (write_of (effect_at core.table (p.unit u) mem csr moments (suc q))) (sym made_is ∙ ((kept u own.0).wrote goes done_is).0)

  -- the machine is not stopped
  pub running : Head → m.stopped ≡ false
  running d = inv.halted ∙ not_stopped d

  -- a unit is not cleared where nothing is killed
  pub cleared : (k : ℕ) → member k sh.entries ≡ true → kill sh p (suc q) ≡ false → irq sh p (suc q) ≡ false → (p.unit k).clear (suc q) ≡ false
  cleared k a e i = steps.clear k q a ∙ and_no_r (not (sh.commits k)) (kill sh p (suc q) || irq sh p (suc q)) (or_no (kill sh p (suc q)) (irq sh p (suc q)) e i)

  -- an item that the pipeline traps is not started, and writes nothing
  pub excepted_idle : x.except ≡ true → p.started (suc q) ≡ false
  excepted_idle e = by (p.started (suc q)) refl
    where
      by : (b : Bool) → p.started (suc q) ≡ b → p.started (suc q) ≡ false
      by true f = both x.except e (inv.started f).plain
      by false f = f

  -- an item that the pipeline traps writes no register
  pub silent_writes : p.valid (suc q) ≡ true → x.except ≡ true → x.writes ≡ false
  silent_writes v = except_writes core.set.system core.table is_core.table m x (moments (suc q)) (inv.good v)

  -- ---- a cycle without an end: the units that commit, and the others where the item runs

  -- where nothing ends, no unit is done whose item runs
  pub none_is_done : ends sh p (suc q) ≡ false → (k : ℕ) → member k sh.entries ≡ true → ((p.unit k).go (suc q) ≡ true → run sh p (suc q) ≡ true) → (p.unit k).done (suc q) ≡ false
  unfolding ends through
  none_is_done e k a w = by ((p.unit k).go (suc q)) refl
    where
      by_done : Goes k → run sh p (suc q) ≡ true → (b : Bool) → (p.unit k).done (suc q) ≡ b → (p.unit k).done (suc q) ≡ false
      by_done g r true d =
          both (run sh p (suc q) && (x.except || finished sh p (suc q)))
          (and_yes (run sh p (suc q)) (x.except || finished sh p (suc q)) r (ap (λ b. b || finished sh p (suc q)) g.plain ∙ finished_is r g.plain ∙ ap (λ i. (p.unit i).done (suc q)) g.is ∙ d))
          e
      by_done g r false d = d

      by : (b : Bool) → (p.unit k).go (suc q) ≡ b → (p.unit k).done (suc q) ≡ false
      by true g = by_done (go_parts k a g) (w g) ((p.unit k).done (suc q)) refl
      by false g = (kept k a).rests g
