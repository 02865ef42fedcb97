-- Overlap: in a stream each cycle but two at most has an event.
use Rattle.std.proofs.Common.{◌≡◌, ℕ, zero, suc, ◌+◌, ◌<◌, ◌≤◌, Bool, true, false, cond, ◌∷◌, ◌⊎◌, inl, inr, refl, ap, ◌∙◌, sym, subst, arith, Some, eqb}
use Rattle.std.proofs.Math.Nat.{le_refl}
use Rattle.core_words.specs.Values.{one_if}
use Rattle.core_ports.specs.Trace.{Trace, data_bus, has_event, instruction_bus}
use Rattle.bus_law.specs.Honest.{Honest}
use Rattle.bus_law.specs.Memory.{IsMemory, Memory}
use Rattle.isa_model.specs.Machine.{Fetched, Machine}
use Rattle.isa_model.specs.Machine.Fetched.{Word}
use Rattle.isa_model.specs.Run.{FetchedFrom, History, Possible, now, is_fence_word}
use Rattle.isa_model.specs.Step.{Done, Step}
use Rattle.plug_law.specs.Pipeline.{Pipe, Shape, Steps, event, kill}
use Rattle.pipe_law.proofs.Basics.{both}
use Rattle.pipe_law.proofs.Cycle.{not_killed}
use Rattle.pipe_law.proofs.Execute.{InExecute, cycle_at, past}
use Rattle.pipe_law.proofs.Follow.{hist}
use Rattle.pipe_law.proofs.Invariant.{did, grow}
use Rattle.pipe_law.proofs.Quick.{empty_next, empty_pc, empty_quiet, kill_quiet, on_did, on_event, on_kill, on_next}
use Rattle.pipe_law.proofs.Still.{apc_stays, fetch_whole, flush_off, killed_none, right_kills, turned_owes}
use Rattle.pipe_law.specs.Brisk.{count}
use Rattle.pipe_law.specs.Overlap.{AllBypassed, IsQuick, IsStream, Overlap}
use Rattle.pipe_law.specs.Core.{Core, IsCore, Laws, begin_at}

-- a port that shows 1
one_is : (b : Bool) → ◌≡◌ {A = ℕ} (one_if b) 1 → b ≡ true
one_is true e = refl
one_is false e = absurd (let z : ◌≡◌ {A = ℕ} 0 1 = e in omega arith)

module _ (core : Core) (p : Pipe) (run' : Trace) (memory : Memory) (n : ℕ)
    (is_core : IsCore core) (laws : Laws core p run' memory) (steps : Steps core.shape p run') (is_memory : IsMemory memory) (honest : Honest (instruction_bus run') (data_bus run') memory n) where
  -- short names
  abbrev sh : Shape
  sh = core.shape

  abbrev begin : Machine
  begin = begin_at core memory

  abbrev before : ℕ → History
  before = past core p run' memory n is_core laws steps is_memory honest

  abbrev at : (q : ℕ) → suc q < n → InExecute
  at q l = cycle_at core p run' memory n is_core laws steps is_memory honest q l

  abbrev Quick : ℕ → Type 0
  Quick = IsQuick core.owner sh.commits core.latency

  -- the history after an event
  past_on : (q : ℕ) → event sh p (suc q) ≡ true → (d : Done) → did core p run' (suc q) (now begin (before (suc q))) ≡ d → before (suc (suc q)) ≡ record { cycle = suc q; done = d } ∷ before (suc q)
  unfolding hist
  past_on q e d z = λ i. grow (e i) (suc q) (z i) (before (suc q))

  -- and after a cycle without one
  pub past_quiet : (q : ℕ) → event sh p (suc q) ≡ false → before (suc (suc q)) ≡ before (suc q)
  unfolding hist
  past_quiet q e = ap (λ b. grow b (suc q) (did core p run' (suc q) (now begin (before (suc q)))) (before (suc q))) e

  -- the word of another row is no FENCE.I's
  other_word : (w row : ℕ) → core.table.row_of w ≡ Some row → eqb row 40 ≡ false → is_fence_word w ≡ false
  other_word w row r e = by (is_fence_word w) refl
    where
      by : (b : Bool) → is_fence_word w ≡ b → is_fence_word w ≡ false
      by true f = both (eqb row 40) (ap (λ v. eqb v 40) (is_core.table.fence_word w row r f)) e
      by false f = f

  module _ (all : AllBypassed core.bypassed sh.stages) (u k : ℕ) (u_some : 1 ≤ u) (inside : u + k ≤ n) (s : IsStream core.set core.table Quick core.predict begin run' before u k) where
    -- the machine has made j of the steps, as cycle q + 1 begins
    record Along (q j : ℕ) : Type 0 where
      is : now begin (before (suc q)) ≡ s.steps j
      words : (pc : ℕ) (got : Fetched) → Possible begin (before (suc q)) pc got → Possible begin (before u) pc got ⊎ ((i : ℕ) × (i ≤ j) × FetchedFrom (s.steps i).memory pc got)

    abbrev Keeps : (j : ℕ) → History → Type 0
    Keeps j h = (now begin h ≡ s.steps j) × ((pc : ℕ) (got : Fetched) → Possible begin h pc got → Possible begin (before u) pc got ⊎ ((i : ℕ) × (i ≤ j) × FetchedFrom (s.steps i).memory pc got))

    -- by the history
    along_by : (q j : ℕ) → Keeps j (before (suc q)) → Along q j
    along_by q j a = record { is = a.0; words = a.1 }

    -- a cycle without an event
    along_quiet : (q j : ℕ) → event sh p (suc q) ≡ false → Along q j → Along (suc q) j
    along_quiet q j e a = along_by (suc q) j (subst (Keeps j) (sym (past_quiet q e)) (a.is, a.words))

    -- a cycle with one
    along_on : (q j : ℕ) → event sh p (suc q) ≡ true → (d : Done) → did core p run' (suc q) (now begin (before (suc q))) ≡ d → d.new ≡ s.steps (suc j) → Along q j → Along (suc q) (suc j)
    along_on q j e d z w a = along_by (suc q) (suc j) (subst (Keeps (suc j)) (sym (past_on q e d z)) (w, words))
      where
        words : (pc : ℕ) (got : Fetched) → Possible begin (record { cycle = suc q; done = d } ∷ before (suc q)) pc got
            → Possible begin (before u) pc got ⊎ ((i : ℕ) × (i ≤ suc j) × FetchedFrom (s.steps i).memory pc got)
        words pc got (inl f) = inr (suc j, le_refl (suc j), subst (λ y. FetchedFrom y.memory pc got) w f)
        words pc got (inr f) = more (a.words pc got f.1)
          where
            more : Possible begin (before u) pc got ⊎ ((i : ℕ) × (i ≤ j) × FetchedFrom (s.steps i).memory pc got) → Possible begin (before u) pc got ⊎ ((i : ℕ) × (i ≤ suc j) × FetchedFrom (s.steps i).memory pc got)
            more (inl o) = inl o
            more (inr o) = inr (o.0, (let l : o.0 ≤ j = o.1 in omega arith), o.2)

    -- Fetch offers an item
    shown_at : (q : ℕ) → u ≤ suc q → suc q < u + k → p.fetch.valid (suc q) ≡ true
    shown_at q a b = one_is (p.fetch.valid (suc q)) (sym (steps.shows_valid q) ∙ s.shown_all (suc q) a b)

    -- an event counts as one
    event_counts : (q : ℕ) (b : Bool) → event sh p (suc q) ≡ b → ◌≡◌ {A = ℕ} (cond (has_event run' (suc q)) 1 0) (cond b 1 0)
    event_counts q b e = ap (λ z. cond z 1 0) (steps.shows q ∙ e)

    -- an item of the stream is in front
    on : (len q j : ℕ) → u ≤ suc q → suc q + len ≤ u + k → j + len ≤ k → Along q j → p.valid (suc q) ≡ true → kill sh p (suc q) ≡ false → len ≤ count (has_event run') (suc q) len
    unfolding count
    on zero q j after l lj a v kl = omega arith
    on (suc len) q j after l lj a v kl =
        let c = at q (omega arith) in
        let within_k : j < k = omega arith in
        let in_window : suc q < u + k = omega arith in
        let calm = s.calm (suc q) after in_window in
        let sh' = shown_at q after in_window in
        let wd = s.words j in
        let r = s.is_quick j within_k in
        let t = s.retires j within_k in
        let one : (got : Fetched) → Possible begin (before (suc q)) (now begin (before (suc q))).pc got → got ≡ Word (s.words j)
        = λ got o. s.one_word j within_k got (a.words (s.steps j).pc got (subst (λ y. Possible begin (before (suc q)) y.pc got) a.is o)) in
        let does : Step core.set (now begin (before (suc q))) (Word (s.words j)) (record { lines = 0 }) t.0 = subst (λ y. Step core.set y (Word (s.words j)) (record { lines = 0 }) t.0) (sym a.is) t.1 in
        let nf = other_word wd r.0 r.1 r.2 in
        let ev = on_event c all calm sh' kl v wd r.0 t.0 one r.1 r.3 nf does t.3 in
        let di = on_did c all calm sh' kl v wd r.0 t.0 one r.1 r.3 nf does t.3 in
        let nx = on_next c all calm sh' kl v wd r.0 t.0 one r.1 r.3 nf does t.3 in
        let nk = on_kill c all calm sh' kl v wd r.0 t.0 one r.1 r.3 nf does t.3 (ap (λ y. y.pc) t.2 ∙ s.follows j within_k ∙ ap (λ y. core.predict y.pc (s.words j)) (sym a.is)) in
        let rest = on len (suc q) (suc j) (omega arith) (omega arith) (omega arith) (along_on q j ev t.0 di t.2 a) nx.0 nk in
        let e = event_counts q true ev in
        omega arith

    -- nothing is in front, and nothing wrong is there
    empty : (len q j : ℕ) → u ≤ suc q → suc q + len ≤ u + k → j + len ≤ k → Along q j → p.valid (suc q) ≡ false → kill sh p (suc q) ≡ false → len ≤ count (has_event run') (suc q) len + 1
    unfolding count
    empty zero q j after l lj a v kl = omega arith
    empty (suc len) q j after l lj a v kl =
        let c = at q (omega arith) in
        let within_k : j < k = omega arith in
        let in_window : suc q < u + k = omega arith in
        let calm = s.calm (suc q) after in_window in
        let sh' = shown_at q after in_window in
        let alive = ap (λ y. y.stopped) a.is ∙ (s.retires j within_k).1.goes in
        let ev = empty_quiet c all calm sh' kl v alive in
        let nx = empty_next c all calm sh' kl v alive in
        let nk = not_killed sh p (suc (suc q)) nx.0 (ap (λ y. y.pc) nx.1 ∙ empty_pc c all calm sh' kl v alive ∙ sym (apc_stays c ev)) (flush_off c ev) in
        let rest = on len (suc q) j (omega arith) (omega arith) (omega arith) (along_quiet q j ev a) nx.0 nk in
        omega arith

    -- something wrong is there
    killed : (len q j : ℕ) → u ≤ suc q → suc q + len ≤ u + k → j + len ≤ k → Along q j → kill sh p (suc q) ≡ true → len ≤ count (has_event run') (suc q) len + 2
    unfolding count
    killed zero q j after l lj a kl = omega arith
    killed (suc zero) q j after l lj a kl = omega arith
    killed (suc (suc len)) q j after l lj a kl =
        let c = at q (omega arith) in
        let c2 = at (suc q) (omega arith) in
        let ev = kill_quiet c kl in
        let v = killed_none c ev kl in
        let sh' = shown_at (suc q) (omega arith) (omega arith) in
        let pc = (fetch_whole c2).order sh' (p.apc (suc (suc q))) (turned_owes c ev kl) in
        let rest = empty (suc len) (suc q) j (omega arith) (omega arith) (omega arith) (along_quiet q j ev a) v (right_kills c2 (flush_off c ev) v pc) in
        let z : count (has_event run') (suc (suc q)) (suc len) ≤ count (has_event run') (suc q) (suc (suc len)) = omega arith in
        omega arith

    -- as the stream begins
    first : (q : ℕ) → u ≡ suc q → Along q 0
    first q e = along_by q 0 (subst (λ v. Keeps 0 (before v)) e (sym s.begins, λ pc got o. inl o))

    -- at most two cycles have no event
    lost_two : k ≤ count (has_event run') u k + 2
    lost_two = by u refl u_some
      where
        by_valid : (q : ℕ) → u ≡ suc q → kill sh p (suc q) ≡ false → (b : Bool) → p.valid (suc q) ≡ b → k ≤ count (has_event run') (suc q) k + 2
        by_valid q e kl true v = let z = on k q 0 (omega arith) (omega arith) (omega arith) (first q e) v kl in omega arith
        by_valid q e kl false v = let z = empty k q 0 (omega arith) (omega arith) (omega arith) (first q e) v kl in omega arith

        by_kill : (q : ℕ) → u ≡ suc q → (b : Bool) → kill sh p (suc q) ≡ b → k ≤ count (has_event run') (suc q) k + 2
        by_kill q e true kl = killed k q 0 (omega arith) (omega arith) (omega arith) (first q e) kl
        by_kill q e false kl = by_valid q e kl (p.valid (suc q)) refl

        by : (v : ℕ) → u ≡ v → 1 ≤ v → k ≤ count (has_event run') u k + 2
        by zero e o = absurd (omega arith)
        by (suc q) e o = subst (λ v. k ≤ count (has_event run') v k + 2) (sym e) (by_kill q e (kill sh p (suc q)) refl)

  -- and the theorem allows five
  pub overlaps : AllBypassed core.bypassed sh.stages → Overlap core.set core.table Quick core.predict 5 begin run' n before
  overlaps all u k o l s = let z = lost_two all u k o l s in omega arith
