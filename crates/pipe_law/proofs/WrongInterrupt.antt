-- An interrupt between the acceptance of a store and the store's own event: no run that has one follows the machine.
use Rattle.std.proofs.Common.{◌≡◌, ℕ, zero, suc, ◌+◌, ◌-◌, ◌<◌, ◌≤◌, Bool, true, false, ◌∷◌, ◌⊎◌, inl, inr, Option, Some, None, sym, ap, ◌∙◌, subst, arith}
use Rattle.core_words.specs.Fields.{rd_of}
use Rattle.core_ports.specs.Trace.{Trace, has_event, lines_at, port_event}
use Rattle.bus_law.specs.Memory.{Store}
use Rattle.isa_csr.specs.Csrs.{pending}
use Rattle.isa_model.specs.Effects.{Effect}
use Rattle.isa_model.specs.Effects.Effect.{Does, Rests, Traps}
use Rattle.isa_model.specs.Machine.{Fetched, Machine, Set, has_row, shown}
use Rattle.isa_model.specs.Machine.Fetched.{Error, Word}
use Rattle.isa_model.specs.Run.{Continues, History, IsRun, now}
use Rattle.isa_model.specs.Step.{Done, Moment, done_of, effect_of_row, interrupt, outcome_of, retirement, trap, value_for}
use Rattle.isa_table.specs.Rows.{row_of}
use Rattle.isa_follow.specs.Follows.{Follows, Goes}

some_done : (a b : Done) → ◌≡◌ {A = Option Done} (Some a) (Some b) → a ≡ b
some_done a b e = cc

none_done : (b : Done) → ◌≡◌ {A = Option Done} None (Some b) → ⊥
none_done b e = cc

some_store : (w : Store) → ◌≡◌ {A = Option Store} None (Some w) → ⊥
some_store w e = cc

-- the kind of a step's event on the ports
abbrev kind : Done → ℕ
kind d = (shown d.event).kind

-- traps and retirements are no interrupts
of_trap : (system : Bool) (m : Machine) (word cause tval : ℕ) (w : Option Store) → kind (trap system m word cause tval w) ≡ 2 → ⊥
of_trap true m word cause tval w k = absurd (omega arith)
of_trap false m word cause tval w k = absurd (omega arith)

of_retirement : (m : Machine) (word rd : ℕ) (v : Option ℕ) → (shown (retirement m word rd v)).kind ≡ 2 → ⊥
of_retirement m word rd None k = absurd (omega arith)
of_retirement m word rd (Some v) k = absurd (omega arith)

of_effect : (system : Bool) (m : Machine) (word : ℕ) (e : Effect) (d : Done) → done_of system m word e ≡ Some d → kind d ≡ 2 → ⊥
of_effect system m word (Traps cause tval w) d e k = of_trap system m word cause tval w (ap kind (some_done (trap system m word cause tval w) d e) ∙ k)
of_effect system m word Rests d e k = none_done d e
of_effect system m word (Does v next w change) d e k = of_retirement m word (rd_of word) (value_for (rd_of word) v) (ap kind (some_done _ d e) ∙ k)

of_outcome : (s : Set) (m : Machine) (f : Fetched) (o : Moment) (d : Done) → outcome_of s m f o ≡ Some d → kind d ≡ 2 → ⊥
unfolding outcome_of
of_outcome s m Error o d e k = of_trap s.system m 0 1 m.pc None (ap kind (some_done (trap s.system m 0 1 m.pc None) d e) ∙ k)
of_outcome s m (Word word) o d e k = of_effect s.system m word (effect_of_row s.system m word o (row_of (has_row s) word)) d e k

-- so a step that is one makes no write
makes_none : (s : Set) (start : Machine) (lines : ℕ → ℕ) (past : History) (cycle : ℕ) (d : Done) → Continues s start lines past (record { cycle = cycle; done = d }) → kind d ≡ 2 → d.write ≡ None
makes_none s start lines past cycle d c k = by c.step.how
  where
    by : ((cause : ℕ) × (pending (now start past).csrs (lines cycle) ≡ Some cause) × (d ≡ interrupt (now start past) cause)) ⊎ (outcome_of s (now start past) c.fetched (record { lines = lines cycle }) ≡ Some d) → d.write ≡ None
    by (inl i) = ap (λ x. x.write) i.2
    by (inr o) = absurd (of_outcome s (now start past) c.fetched (record { lines = lines cycle }) d o k)

module _ (s : Set) (start : Machine) (run' : Trace) (n : ℕ) (f : Follows s start run' n) where
  -- the steps before each cycle are a run
  shorter : (k : ℕ) → k < n → IsRun s start (lines_at run') (f.history (suc k)) → IsRun s start (lines_at run') (f.history k)
  shorter k l r = by (has_event run' k) (f.events k l)
    where
      by : (b : Bool) → Goes b k (port_event run' k) (f.history k) (f.history (suc k)) (f.waiting k) → IsRun s start (lines_at run') (f.history k)
      by false g = subst (λ h. IsRun s start (lines_at run') h) g r
      by true g = (subst (λ h. IsRun s start (lines_at run') h) g.1 r).0

  run_at : (len k : ℕ) → k + len ≡ n → IsRun s start (lines_at run') (f.history k)
  run_at zero k e = subst (λ i. IsRun s start (lines_at run') (f.history i)) (let z : n ≡ k = omega arith in z) f.runs
  run_at (suc len) k e = shorter k (omega arith) (run_at len (suc k) (omega arith))

  pub interrupt_refused : (k : ℕ) → k < n → has_event run' k ≡ true → (port_event run' k).kind ≡ 2 → (w : Store) → f.waiting k ≡ Some w → ⊥
  interrupt_refused k l e z w waits = by (subst (λ b. Goes b k (port_event run' k) (f.history k) (f.history (suc k)) (f.waiting k)) e (f.events k l))
    where
      rest : (k : ℕ) → suc k ≤ n → (len : ℕ) × (suc k + len ≡ n)
      rest k l = (n - suc k, omega arith)

      by : Goes true k (port_event run' k) (f.history k) (f.history (suc k)) (f.waiting k) → ⊥
      by g =
          let r : IsRun s start (lines_at run') (record { cycle = k; done = g.0 } ∷ f.history k) = subst (λ h. IsRun s start (lines_at run') h) g.1 (run_at (rest k l).0 (suc k) (rest k l).1) in
          some_store w (sym (makes_none s start (lines_at run') (f.history k) k g.0 r.1 (ap (λ y. y.kind) g.2 ∙ z)) ∙ g.3 ∙ waits)
