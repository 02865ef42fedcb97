-- Runs that follow the machine, and runs that do not.
use Rattle.std.proofs.Common.{◌≡◌, ℕ, zero, suc, Bool, true, false, [], ◌∷◌, Option, Some, None, ◌⊎◌, inl, inr, refl, sym, ap, subst, ◌∙◌, arith}
use Rattle.core_words.specs.Fields.{rd_of}
use Rattle.bus_law.specs.Protocol.{is_given, is_accepted, is_write, writes_before}
use Rattle.bus_law.specs.Duties.{breaks_standing, breaks_waiting, breaks_form, KeepsDuties}
use Rattle.bus_law.specs.Memory.{Store}
use Rattle.core_ports.specs.Ports.{ev_valid, ev_pc, ib_cmd_valid, db_cmd_valid}
use Rattle.core_ports.specs.Trace.{Bus, Trace, PortEvent, on_port, has_event, port_event, instruction_bus, data_bus, lines_at}
use Rattle.isa_table.specs.Rows.{row_of}
use Rattle.isa_csr.specs.Csrs.{pending}
use Rattle.isa_model.specs.Machine.{Set, has_row, Machine, Fetched, shown}
use Rattle.isa_model.specs.Machine.Fetched.{Word, Error}
use Rattle.isa_model.specs.Effects.{Effect}
use Rattle.isa_model.specs.Effects.Effect.{Traps, Rests, Does}
use Rattle.isa_model.specs.Step.{Moment, Done, trap, value_for, retirement, done_of, effect_of_row, outcome_of, interrupt}
use Rattle.isa_model.specs.Run.{History, IsRun, Continues, moment_in}
use Rattle.isa_follow.specs.Follows.{Follows, Goes}

-- ---- the first event is at the machine's pc

some_is : (a b : Done) → ◌≡◌ {A = Option Done} (Some a) (Some b) → a ≡ b
some_is a b e = cc

trap_pc : (system : Bool) (m : Machine) (word cause tval : ℕ) (write : Option Store) → (shown (trap system m word cause tval write).event).pc ≡ m.pc
trap_pc true m word cause tval write = refl
trap_pc false m word cause tval write = refl

retirement_pc : (m : Machine) (word rd : ℕ) (value : Option ℕ) → (shown (retirement m word rd value)).pc ≡ m.pc
retirement_pc m word rd None = refl
retirement_pc m word rd (Some value) = refl

retire_pc : (m : Machine) (word : ℕ) (value : Option ℕ) → (shown (retirement m word (rd_of word) (value_for (rd_of word) value))).pc ≡ m.pc
retire_pc m word value = retirement_pc m word (rd_of word) (value_for (rd_of word) value)

-- what is done, if it is done, is done at this pc
abbrev AtPc : ℕ → Option Done → Type 0
AtPc pc o = (d : Done) → o ≡ Some d → (shown d.event).pc ≡ pc

at_pc : (pc : ℕ) (x : Done) → (shown x.event).pc ≡ pc → AtPc pc (Some x)
at_pc pc x h d e = ap (λ (y : Done). (shown y.event).pc) (sym (some_is x d e)) ∙ h

done_pc : (system : Bool) (m : Machine) (word : ℕ) (e : Effect) → AtPc m.pc (done_of system m word e)
done_pc system m word (Traps cause tval write) = at_pc m.pc _ (trap_pc system m word cause tval write)
done_pc system m word Rests = λ d e. absurd cc
done_pc system m word (Does value next_pc write change) = at_pc m.pc _ (retire_pc m word value)

outcome_pc : (s : Set) (m : Machine) (fetched : Fetched) (moment : Moment) → AtPc m.pc (outcome_of s m fetched moment)
unfolding outcome_of
outcome_pc s m Error moment = at_pc m.pc _ (trap_pc s.system m 0 1 m.pc None)
outcome_pc s m (Word w) moment = done_pc s.system m w (effect_of_row s.system m w moment (row_of (has_row s) w))

module _ (s : Set) (start : Machine) (run : Trace) (quiet : pending start.csrs (lines_at run 1) ≡ None) where
  none_is_some : (cause : ℕ) → pending start.csrs (lines_at run 1) ≡ Some cause → ⊥
  none_is_some cause p = let e : ◌≡◌ {A = Option ℕ} None (Some cause) = sym quiet ∙ p in cc

  step_pc : (done : Done) → Continues s start (lines_at run) [] (record { cycle = 1; done = done }) → (shown done.event).pc ≡ start.pc
  step_pc done c = by_case c.step.how
    where
      by_case : ((cause : ℕ) × (pending start.csrs (lines_at run 1) ≡ Some cause) × (done ≡ interrupt start cause)) ⊎ (outcome_of s start c.fetched (moment_in (lines_at run) 1) ≡ Some done) → (shown done.event).pc ≡ start.pc
      by_case (inl p) = absurd (none_is_some p.0 p.1)
      by_case (inr o) = outcome_pc s start c.fetched (moment_in (lines_at run) 1) done o

  nothing_before : (f : Follows s start run 2) → f.history 1 ≡ []
  unfolding has_event
  nothing_before f = f.events 0 (omega arith) ∙ f.begins

  -- where an event shows in the first cycle that counts, it is at the machine's pc
  first_event_pc : Follows s start run 2 → has_event run 1 ≡ true → on_port run ev_pc 1 ≡ start.pc
  first_event_pc f shows =
      let g : Goes true 1 (port_event run 1) (f.history 1) (f.history 2) (f.waiting 1) = subst (λ b. Goes b 1 (port_event run 1) (f.history 1) (f.history 2) (f.waiting 1)) shows (f.events 1 (omega arith)) in
      let after : f.history 2 ≡ record { cycle = 1; done = g.0 } ∷ [] = g.1 ∙ ap (λ (h : History). record { cycle = 1; done = g.0 } ∷ h) (nothing_before f) in
      let r : IsRun s start (lines_at run) (record { cycle = 1; done = g.0 } ∷ []) = subst (IsRun s start (lines_at run)) after f.runs in
      ap (λ (p : PortEvent). p.pc) (sym (g.2)) ∙ step_pc g.0 r.1

  -- so a run that shows another pc there does not follow
  other_pc : has_event run 1 ≡ true → (on_port run ev_pc 1 ≡ start.pc → ⊥) → Follows s start run 2 → ⊥
  other_pc shows other f = other (first_event_pc f shows)

-- ---- a core that gives no command and shows no event follows the machine, whatever the machine is

module _ (s : Set) (start : Machine) (run : Trace) (e : (k : ℕ) → on_port run ev_valid k ≡ 0) (i : (k : ℕ) → on_port run ib_cmd_valid k ≡ 0) (d : (k : ℕ) → on_port run db_cmd_valid k ≡ 0) where
  silent_event : (k : ℕ) → has_event run k ≡ false
  unfolding has_event
  silent_event zero = refl
  silent_event (suc k) = rw (e (suc k)) refl

  not_given : (b : Bus) → ((k : ℕ) → b.cmd_valid k ≡ 0) → (k : ℕ) → is_given b k ≡ false
  unfolding is_given
  not_given b h zero = refl
  not_given b h (suc k) = rw (h (suc k)) refl

  not_written : (b : Bus) → ((k : ℕ) → b.cmd_valid k ≡ 0) → (k : ℕ) → is_write b k ≡ false
  unfolding is_write is_accepted
  not_written b h k = rw (not_given b h k) refl

  no_writes : (k : ℕ) → writes_before (data_bus run) k ≡ []
  unfolding writes_before
  no_writes zero = refl
  no_writes (suc k) = rw (not_written (data_bus run) d k) (no_writes k)

  duties : (b : Bus) → ((k : ℕ) → b.cmd_valid k ≡ 0) → (k : ℕ) → KeepsDuties b k
  unfolding breaks_standing breaks_waiting breaks_form
  duties b h k = record { stands = stands k; waits = waits k; forms = forms k }
    where
      stands : (k : ℕ) → breaks_standing b k ≡ false
      stands zero = refl
      stands (suc k) = rw (not_given b h k) refl

      waits : (k : ℕ) → breaks_waiting b k ≡ false
      waits k = rw (not_given b h k) refl

      forms : (k : ℕ) → breaks_form b k ≡ false
      forms k = rw (not_given b h k) refl

  silent_follows : (n : ℕ) → Follows s start run n
  silent_follows n = record {
    history = λ k. [];
    waiting = λ k. None;
    begins = refl;
    events = λ k lt. subst (λ (b : Bool). Goes b k (port_event run k) [] [] None) (sym (silent_event k)) refl;
    runs = tt;
    memory = λ k lt h. absurd (let g = silent_event k in cc);
    writes = λ k le. no_writes k;
    made = λ k le. tt;
    fetch_duties = λ k lt. duties (instruction_bus run) i k;
    data_duties = λ k lt. duties (data_bus run) d k;
  }
