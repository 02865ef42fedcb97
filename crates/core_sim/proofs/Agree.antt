-- The text and the exit of a run that follows the machine are the output of the machine's run.
use Rattle.std.proofs.Common.{◌≡◌, ◌≤◌, ◌<◌, ℕ, zero, suc, ◌+◌, ◌-◌, ◌/◌, ◌%◌, ◌^◌, Bool, true, false, not, cond, eqb, List, [], ◌∷◌, ◌++◌, ◌&&◌, ◌||◌, ◌⊎◌, inl, inr, Option, Some, None, refl, sym, ap, ◌∙◌, subst, arith, append_assoc, append-nil, eq-eqb}
use Rattle.std.specs.Prelude.{option_to_list}
use Rattle.std.proofs.lemmas.Bool.{cases_Bool, eqb-true, or_parts}
use Rattle.std.proofs.lemmas.List.{append_cancel_right}
use Rattle.core_words.specs.Fields.{rd_of, rs1_of, rs2_of}
use Rattle.core_words.specs.Values.{bits_of}
use Rattle.core_ports.specs.Ports.{ev_cause, ev_kind, ev_pc}
use Rattle.core_ports.specs.Trace.{Trace, PortEvent, on_port, port_event, has_event, data_bus, lines_at}
use Rattle.bus_law.specs.Memory.{Memory, Store, aligned_of, is_inside, is_window}
use Rattle.bus_law.specs.Protocol.{is_write, writes_before}
use Rattle.bus_law.specs.Prompt.{store_at}
use Rattle.isa_table.specs.Rows.{TableRow, Action, CsrChange, row_of}
use Rattle.isa_table.specs.Rows.Action.{Computes, Jumps, Branches, Loads, Stores, Fences, FencesFetches, CallsEnvironment, Breaks, AccessesCsr, Returns, Waits}
use Rattle.isa_csr.specs.Csrs.{Csrs, csr_read, is_read_only, pending, wakes}
use Rattle.isa_model.specs.Machine.{Set, Machine, Event, Fetched, has_row, register, shown}
use Rattle.isa_model.specs.Machine.Event.{Retire, Trap, Interrupt}
use Rattle.isa_model.specs.Machine.Fetched.{Word, Error}
use Rattle.isa_model.specs.Effects.{Moment, Effect, is_multiple, go_to, branch, word_read, load_held, load, store_made, store_if, store, access_held, access, wait, effect_of, needs_system}
use Rattle.isa_model.specs.Effects.Effect.{Traps, Rests, Does}
use Rattle.isa_model.specs.Step.{Done, Step, trap, value_for, retirement, done_of, if_allowed, effect_of_row, outcome_of, interrupt}
use Rattle.isa_model.specs.Run.{IsRun, writes_of}
use Rattle.isa_follow.specs.Follows.{Follows, Goes}
use Rattle.core_sim.specs.declared.ended.Ended.{Ended}
use Rattle.core_sim.specs.declared.ended.Ended.TheVariants.{Stopped}
use Rattle.core_sim.specs.Lines.{event_line}
use Rattle.core_sim.specs.Window.{byte_of, code_of, host_bytes, or_code, exit_code}
use Rattle.core_sim.specs.Ends.{events_before, line_in, lines_before, stops_in, retires_in, accepted_in, unsettled, text_in, text_before, exit_in, ended_in, end_from, cycles_of, code_in}
use Rattle.core_sim.proofs.Events.{ends_from}
use Rattle.core_sim.specs.Output.{is_retirement, retired_store, exit_by, host_text, machine_lines, exit_of, last_exit, Agrees}

-- ---- writes that ask for nothing

-- these writes add no byte and ask for no exit
abbrev AreSilent : List Store → Type 0
AreSilent ws = (host_bytes ws ≡ []) × (exit_code ws ≡ None)

-- these ask for the same
abbrev AskAlike : (ws vs : List Store) → Type 0
AskAlike ws vs = (host_bytes ws ≡ host_bytes vs) × (exit_code ws ≡ exit_code vs)

alike : (ws vs : List Store) → ws ≡ vs → AskAlike ws vs
alike ws vs e = (ap host_bytes e, ap exit_code e)

or_code_assoc : (a b c : Option ℕ) → or_code (or_code a b) c ≡ or_code a (or_code b c)
or_code_assoc None b c = refl
or_code_assoc (Some x) b c = refl

or_code_none : (a : Option ℕ) → or_code a None ≡ a
or_code_none None = refl
or_code_none (Some x) = refl

bytes_of_both : (ws vs : List Store) → host_bytes (ws ++ vs) ≡ host_bytes vs ++ host_bytes ws
bytes_of_both [] vs = sym (append-nil (host_bytes vs))
bytes_of_both (w ∷ ws) vs = ap (λ l. l ++ byte_of w) (bytes_of_both ws vs) ∙ append_assoc (host_bytes vs) (host_bytes ws) (byte_of w)

code_of_both : (ws vs : List Store) → exit_code (ws ++ vs) ≡ or_code (exit_code vs) (exit_code ws)
code_of_both [] vs = sym (or_code_none (exit_code vs))
code_of_both (w ∷ ws) vs = ap (λ c. or_code c (code_of w)) (code_of_both ws vs) ∙ or_code_assoc (exit_code vs) (exit_code ws) (code_of w)

-- behind further writes too
alike_behind : (ws vs us : List Store) → AskAlike vs us → AskAlike (ws ++ vs) (ws ++ us)
alike_behind ws vs us (b, c) = (
  bytes_of_both ws vs ∙ ap (λ l. l ++ host_bytes ws) b ∙ sym (bytes_of_both ws us),
  code_of_both ws vs ∙ ap (λ o. or_code o (exit_code ws)) c ∙ sym (code_of_both ws us),
)

behind_silent : (ws vs : List Store) → AreSilent vs → AskAlike (ws ++ vs) ws
behind_silent ws vs (b, c) = (bytes_of_both ws vs ∙ ap (λ l. l ++ host_bytes ws) b, code_of_both ws vs ∙ ap (λ o. or_code o (exit_code ws)) c)

-- ---- the write of a trap lies outside the window

window_at : (a place : ℕ) → place / 16 ≡ 0xf000000 → aligned_of a ≡ place → a / 16 ≡ 0xf000000
window_at a place p e = omega (arith, p, e)

not_at : (a place : ℕ) → place / 16 ≡ 0xf000000 → is_window a ≡ false → eqb (aligned_of a) place ≡ false
not_at a place p w = elim (cases_Bool (eqb (aligned_of a) place)) [
  | inl same ↦ let e : a / 16 ≡ 0xf000000 = window_at a place p (eqb-true (aligned_of a) place same) in
      let f : true ≡ false = sym (eq-eqb (a / 16) 0xf000000 e) ∙ w in cc
  | inr other ↦ other
]

outside : (addr size value : ℕ) → is_window addr ≡ false → AreSilent (store_made addr size value ∷ [])
outside addr size value w = (
  ap (λ b. cond (b && eqb (bits_of (store_made addr size value).mask 0 0) 1) ((store_made addr size value).value % 2 ^ 8 ∷ []) []) (not_at addr 0xf0000000 refl w),
  ap (λ b. cond (b && eqb (bits_of (store_made addr size value).mask 0 0) 1) (Some (store_made addr size value).value) None) (not_at addr 0xf0000004 refl w),
)

-- an effect that is a trap asks for nothing
abbrev IsSilent : Effect → Type 0
IsSilent (Traps cause tval write) = AreSilent (option_to_list write)
IsSilent Rests = Unit {0}
IsSilent (Does value next_pc write change) = Unit {0}

silent_go : (b : Bool) (v : Option ℕ) (target : ℕ) → IsSilent (go_to b v target)
silent_go true v target = tt
silent_go false v target = (refl, refl)

silent_branch : (b : Bool) (pc target : ℕ) → IsSilent (branch b pc target)
silent_branch true pc target = silent_go (is_multiple target 4) None target
silent_branch false pc target = tt

silent_held : (pc addr size : ℕ) (is_signed : Bool) (held : Option ℕ) → IsSilent (load_held pc addr size is_signed held)
silent_held pc addr size is_signed (Some held) = tt
silent_held pc addr size is_signed None = (refl, refl)

silent_load : (b : Bool) (pc : ℕ) (m : Memory) (addr size : ℕ) (is_signed : Bool) → IsSilent (load b pc m addr size is_signed)
silent_load true pc m addr size is_signed = silent_held pc addr size is_signed (word_read m addr)
silent_load false pc m addr size is_signed = (refl, refl)

silent_store_if : (pc : ℕ) (m : Memory) (addr size value : ℕ) (b : Bool) → (is_inside m addr || is_window addr) ≡ b
    → IsSilent (store_if b pc addr (store_made addr size value))
silent_store_if pc m addr size value true e = tt
silent_store_if pc m addr size value false e = outside addr size value (or_parts (is_inside m addr) (is_window addr) e).1

silent_store : (b : Bool) (pc : ℕ) (m : Memory) (addr size value : ℕ) → IsSilent (store b pc m addr size value)
silent_store true pc m addr size value = silent_store_if pc m addr size value (is_inside m addr || is_window addr) refl
silent_store false pc m addr size value = (refl, refl)

module _ (pc word : ℕ) (m : Memory) (c : Csrs) (moment : Moment) where
  silent_access_held : (b : Bool) (number operand : ℕ) (change : CsrChange) (writes : Bool) (old : ℕ) → IsSilent (access_held b pc word number change operand writes old)
  silent_access_held true number operand change writes old = (refl, refl)
  silent_access_held false number operand change writes old = tt

  silent_access : (number operand : ℕ) (change : CsrChange) (writes : Bool) (old : Option ℕ) → IsSilent (access pc word number change operand writes old)
  silent_access number operand change writes None = (refl, refl)
  silent_access number operand change writes (Some old) = silent_access_held (writes && is_read_only number) number operand change writes old

  silent_wait : (b : Bool) → IsSilent (wait b pc)
  silent_wait true = tt
  silent_wait false = tt

  silent_effect : (a : Action) → IsSilent (effect_of pc word m c moment a)
  silent_effect (Computes value) = tt
  silent_effect (Jumps value target) = silent_go (is_multiple target 4) (Some value) target
  silent_effect (Branches is_taken target) = silent_branch is_taken pc target
  silent_effect (Loads addr size is_signed) = silent_load (is_multiple addr size) pc m addr size is_signed
  silent_effect (Stores addr size value) = silent_store (is_multiple addr size) pc m addr size value
  silent_effect Fences = tt
  silent_effect FencesFetches = tt
  silent_effect CallsEnvironment = (refl, refl)
  silent_effect Breaks = (refl, refl)
  silent_effect (AccessesCsr number change operand writes) = silent_access number operand change writes (csr_read c moment.lines number)
  silent_effect Returns = tt
  silent_effect Waits = silent_wait (wakes c moment.lines)

  silent_allowed : (b : Bool) (e : Effect) → IsSilent e → IsSilent (if_allowed b word e)
  silent_allowed true e h = h
  silent_allowed false e h = (refl, refl)

-- the effect of a word is none that asks for something by a trap
silent_row : (system : Bool) (m : Machine) (word : ℕ) (moment : Moment) (row : Option TableRow) → IsSilent (effect_of_row system m word moment row)
silent_row system m word moment None = (refl, refl)
silent_row system m word moment (Some row) =
    let a : Action = row.action m.pc word (register m.regs (rs1_of word)) (register m.regs (rs2_of word)) in
    silent_allowed m.pc word m.memory m.csrs moment (not (needs_system a) || system) (effect_of m.pc word m.memory m.csrs moment a)
    (silent_effect m.pc word m.memory m.csrs moment a)

-- what is done, if it is no retirement, asks for nothing
abbrev IsQuiet : Done → Type 0
IsQuiet d = is_retirement d.event ≡ false → AreSilent (option_to_list d.write)

some_is : (a b : Done) → ◌≡◌ {A = Option Done} (Some a) (Some b) → a ≡ b
some_is a b e = cc

quiet_trap : (system : Bool) (m : Machine) (word cause tval : ℕ) (write : Option Store) → AreSilent (option_to_list write) → IsQuiet (trap system m word cause tval write)
quiet_trap true m word cause tval write h e = h
quiet_trap false m word cause tval write h e = h

retires : (m : Machine) (word rd : ℕ) (value : Option ℕ) → is_retirement (retirement m word rd value) ≡ true
retires m word rd None = refl
retires m word rd (Some value) = refl

never : (b : Bool) → b ≡ true → b ≡ false → ⊥
never true e f = cc
never false e f = cc

quiet_done : (system : Bool) (m : Machine) (word : ℕ) (e : Effect) → IsSilent e → (d : Done) → done_of system m word e ≡ Some d → IsQuiet d
quiet_done system m word (Traps cause tval write) h d o =
    subst IsQuiet (some_is (trap system m word cause tval write) d o) (quiet_trap system m word cause tval write h)
quiet_done system m word Rests h d o = absurd cc
quiet_done system m word (Does value next_pc write change) h d o =
    subst IsQuiet (some_is _ d o) (λ f. absurd (never _ (retires m word (rd_of word) (value_for (rd_of word) value)) f))

quiet_outcome : (s : Set) (m : Machine) (fetched : Fetched) (moment : Moment) (d : Done) → outcome_of s m fetched moment ≡ Some d → IsQuiet d
unfolding outcome_of
quiet_outcome s m Error moment d o = subst IsQuiet (some_is _ d o) (quiet_trap s.system m 0 1 m.pc None (refl, refl))
quiet_outcome s m (Word w) moment d o = quiet_done s.system m w _ (silent_row s.system m w moment (row_of (has_row s) w)) d o

quiet_step : (s : Set) (old : Machine) (fetched : Fetched) (moment : Moment) (d : Done) → Step s old fetched moment d → IsQuiet d
quiet_step s old fetched moment d step = go step.how
  where
    go : ((cause : ℕ) × (pending old.csrs moment.lines ≡ Some cause) × (d ≡ interrupt old cause)) ⊎ (outcome_of s old fetched moment ≡ Some d) → IsQuiet d
    go (inl p) = subst IsQuiet (sym p.2) (λ f. (refl, refl))
    go (inr o) = quiet_outcome s old fetched moment d o

-- ---- cycle by cycle

-- the kind of an event tells whether it is a retirement
kind_is : (e : Event) → eqb (shown e).kind 0 ≡ is_retirement e
kind_is (Retire pc word rd value) = refl
kind_is (Trap pc word cause true) = refl
kind_is (Trap pc word cause false) = refl
kind_is (Interrupt pc cause) = refl

-- the writes of one more cycle
accepted_more : (run : Trace) (k : ℕ) → writes_before (data_bus run) (suc k) ≡ accepted_in run k ++ writes_before (data_bus run) k
unfolding writes_before
accepted_more run k = go (is_write (data_bus run) k)
  where
    go : (b : Bool) → cond b (store_at (data_bus run) k ∷ writes_before (data_bus run) k) (writes_before (data_bus run) k)
        ≡ cond b (store_at (data_bus run) k ∷ []) [] ++ writes_before (data_bus run) k
    go true = refl
    go false = refl

none_before : (run : Trace) → writes_before (data_bus run) 0 ≡ []
unfolding writes_before
none_before run = refl

none_waits : (o : Option Store) (ws : List Store) → ◌≡◌ {A = List Store} [] (option_to_list o ++ ws) → option_to_list o ≡ []
none_waits None ws e = refl
none_waits (Some w) ws e = absurd cc

module _ (s : Set) (start : Machine) (run : Trace) (n : ℕ) (f : Follows s start run n) where
  -- what a cycle does to the history
  abbrev Comes : (has : Bool) → (k : ℕ) → Type 0
  Comes has k = Goes has k (port_event run k) (f.history k) (f.history (suc k)) (f.waiting k)

  comes : (k : ℕ) → k < n → (b : Bool) → has_event run k ≡ b → Comes b k
  comes k less b e = subst (λ c. Comes c k) e (f.events k less)

  earlier : (k : ℕ) → (b : Bool) → Comes b k → IsRun s start (lines_at run) (f.history (suc k)) → IsRun s start (lines_at run) (f.history k)
  earlier k false g r = subst (IsRun s start (lines_at run)) g r
  earlier k true g r = (subst (IsRun s start (lines_at run)) g.1 r).0

  runs_at : (k d : ℕ) → k + d ≡ n → IsRun s start (lines_at run) (f.history k)
  runs_at k zero e = subst (λ m. IsRun s start (lines_at run) (f.history m)) (sym e ∙ plus_zero k) f.runs
    where
      plus_zero : (m : ℕ) → m + 0 ≡ m
      plus_zero m = omega arith
  runs_at k (suc d) e = earlier k (has_event run k) (f.events k (omega (arith, e))) (runs_at (suc k) d (omega (arith, e)))

  runs_to : (k : ℕ) → k ≤ n → IsRun s start (lines_at run) (f.history k)
  runs_to k less = runs_at k (n - k) (omega (arith, less))

  -- a step that is no retirement asks for nothing
  quiet_at : (k : ℕ) → k < n → (g : Comes true k) → IsQuiet (g.0)
  quiet_at k less g =
      let r = subst (IsRun s start (lines_at run)) g.1 (runs_to (suc k) (omega (arith, less))) in
      quiet_step s _ _ _ (g.0) r.1.step

  retires_at : (k : ℕ) → has_event run k ≡ true → (g : Comes true k) → retires_in run k ≡ is_retirement (g.0).event
  retires_at k e g = ap (λ b. b && eqb (on_port run ev_kind k) 0) e ∙ ap (λ (p : PortEvent). eqb p.kind 0) (sym g.2) ∙ kind_is (g.0).event

  retires_not : (k : ℕ) → has_event run k ≡ false → retires_in run k ≡ false
  retires_not k e = ap (λ b. b && eqb (on_port run ev_kind k) 0) e

  -- the writes that wait: with no event the new one comes before those that wait, with one they are settled
  still_waits : (k : ℕ) → k < n → Comes false k → accepted_in run k ++ option_to_list (f.waiting k) ≡ option_to_list (f.waiting (suc k))
  still_waits k less g = append_cancel_right _ _ (writes_of (f.history k))
      (append_assoc (accepted_in run k) (option_to_list (f.waiting k)) (writes_of (f.history k))
      ∙ ap (λ l. accepted_in run k ++ l) (sym (f.writes k (omega (arith, less))))
      ∙ sym (accepted_more run k)
      ∙ f.writes (suc k) (omega (arith, less))
      ∙ ap (λ h. option_to_list (f.waiting (suc k)) ++ writes_of h) g)

  now_waits : (k : ℕ) → k < n → Comes true k → accepted_in run k ≡ option_to_list (f.waiting (suc k))
  now_waits k less g = append_cancel_right _ _ (writes_before (data_bus run) k)
      (sym (accepted_more run k)
      ∙ f.writes (suc k) (omega (arith, less))
      ∙ ap (λ h. option_to_list (f.waiting (suc k)) ++ writes_of h) g.1
      ∙ ap (λ w. option_to_list (f.waiting (suc k)) ++ (option_to_list w ++ writes_of (f.history k))) g.3
      ∙ ap (λ l. option_to_list (f.waiting (suc k)) ++ l) (sym (f.writes k (omega (arith, less)))))

  -- the unsettled writes ask for what the waiting one asks for
  waits : (k : ℕ) → k ≤ n → AskAlike (unsettled run k) (option_to_list (f.waiting k))
  unfolding unsettled
  waits zero less = alike [] _ (sym (none_waits (f.waiting 0) _ (sym (none_before run) ∙ f.writes 0 less)))
  waits (suc k) less = go (waits k (omega (arith, less))) (has_event run k) refl
    where
      settled : (r : Bool) → (r ≡ false → AreSilent (unsettled run k)) → AskAlike (accepted_in run k ++ cond r [] (unsettled run k)) (accepted_in run k)
      settled true q = behind_silent (accepted_in run k) [] (refl, refl)
      settled false q = behind_silent (accepted_in run k) (unsettled run k) (q refl)

      go : AskAlike (unsettled run k) (option_to_list (f.waiting k)) → (b : Bool) → has_event run k ≡ b
          → AskAlike (accepted_in run k ++ cond (retires_in run k) [] (unsettled run k)) (option_to_list (f.waiting (suc k)))
      go before false e = subst (λ r. AskAlike (accepted_in run k ++ cond r [] (unsettled run k)) (option_to_list (f.waiting (suc k)))) (sym (retires_not k e))
          (subst (λ l. AskAlike (accepted_in run k ++ unsettled run k) l) (still_waits k (omega (arith, less)) (comes k (omega (arith, less)) false e))
          (alike_behind (accepted_in run k) (unsettled run k) (option_to_list (f.waiting k)) before))
      go before true e =
          let g = comes k (omega (arith, less)) true e in
          subst (λ l. AskAlike (accepted_in run k ++ cond (retires_in run k) [] (unsettled run k)) l) (now_waits k (omega (arith, less)) g)
          (settled (retires_in run k) (λ r.
          let q = quiet_at k (omega (arith, less)) g (sym (retires_at k e g) ∙ r) in
          let w = subst (λ o. AreSilent (option_to_list o)) g.3 q in
          (before.0 ∙ w.0, before.1 ∙ w.1)))

  -- what a cycle adds is what its step adds
  text_step : (k : ℕ) → k < n → (g : Comes true k) → has_event run k ≡ true → text_in run k ≡ host_bytes (retired_store (g.0))
  text_step k less g e =
      ap (λ r. cond r (host_bytes (unsettled run k)) []) (retires_at k e g)
      ∙ ap (λ l. cond (is_retirement (g.0).event) l []) ((waits k (omega (arith, less))).0 ∙ ap (λ o. host_bytes (option_to_list o)) (sym g.3))
      ∙ inner (is_retirement (g.0).event)
    where
      inner : (b : Bool) → cond b (host_bytes (option_to_list (g.0).write)) [] ≡ host_bytes (cond b (option_to_list (g.0).write) [])
      inner true = refl
      inner false = refl

  exit_step : (k : ℕ) → k < n → (g : Comes true k) → has_event run k ≡ true → exit_in run k ≡ exit_by (g.0)
  exit_step k less g e =
      ap (λ r. cond r (exit_code (unsettled run k)) None) (retires_at k e g)
      ∙ ap (λ c. cond (is_retirement (g.0).event) c None) ((waits k (omega (arith, less))).1 ∙ ap (λ o. exit_code (option_to_list o)) (sym g.3))
      ∙ inner (is_retirement (g.0).event)
    where
      inner : (b : Bool) → cond b (exit_code (option_to_list (g.0).write)) None ≡ exit_code (cond b (option_to_list (g.0).write) [])
      inner true = refl
      inner false = refl

  exit_none : (k : ℕ) → has_event run k ≡ false → exit_in run k ≡ None
  exit_none k e = ap (λ r. cond r (exit_code (unsettled run k)) None) (retires_not k e)

  -- ---- before each cycle

  text_agrees : (k : ℕ) → k ≤ n → text_before run k ≡ host_text (f.history k)
  unfolding text_before
  text_agrees zero less = ap host_text (sym f.begins)
  text_agrees (suc k) less = go (text_agrees k (omega (arith, less))) (has_event run k) refl
    where
      go : text_before run k ≡ host_text (f.history k) → (b : Bool) → has_event run k ≡ b → text_before run k ++ text_in run k ≡ host_text (f.history (suc k))
      go before false e = ap (λ r. text_before run k ++ cond r (host_bytes (unsettled run k)) []) (retires_not k e) ∙ append-nil (text_before run k)
          ∙ before ∙ ap host_text (sym (comes k (omega (arith, less)) false e))
      go before true e =
          let g = comes k (omega (arith, less)) true e in
          ap (λ l. l ++ text_in run k) before
          ∙ ap (λ l. host_text (f.history k) ++ l) (text_step k (omega (arith, less)) g e)
          ∙ ap host_text (sym g.1)

  lines_agree : (k : ℕ) → k ≤ n → lines_before run k ≡ machine_lines (f.history k)
  unfolding lines_before
  lines_agree zero less = ap machine_lines (sym f.begins)
  lines_agree (suc k) less = go (lines_agree k (omega (arith, less))) (has_event run k) refl
    where
      go : lines_before run k ≡ machine_lines (f.history k) → (b : Bool) → has_event run k ≡ b → lines_before run k ++ line_in run k ≡ machine_lines (f.history (suc k))
      go before false e = ap (λ r. lines_before run k ++ cond r (event_line (port_event run k)) []) e ∙ append-nil (lines_before run k)
          ∙ before ∙ ap machine_lines (sym (comes k (omega (arith, less)) false e))
      go before true e =
          let g = comes k (omega (arith, less)) true e in
          ap (λ l. l ++ line_in run k) before
          ∙ ap (λ r. machine_lines (f.history k) ++ cond r (event_line (port_event run k)) []) e
          ∙ ap (λ p. machine_lines (f.history k) ++ event_line p) (sym g.2)
          ∙ ap machine_lines (sym g.1)

  exits_agree : (k : ℕ) → k < n → exit_in run k ≡ cond (has_event run k) (last_exit (f.history (suc k))) None
  exits_agree k less = go (has_event run k) refl
    where
      go : (b : Bool) → has_event run k ≡ b → exit_in run k ≡ cond (has_event run k) (last_exit (f.history (suc k))) None
      go false e = exit_none k e ∙ ap (λ b. cond b (last_exit (f.history (suc k))) None) (sym e)
      go true e =
          let g = comes k less true e in
          exit_step k less g e ∙ ap last_exit (sym g.1) ∙ ap (λ b. cond b (last_exit (f.history (suc k))) None) (sym e)

  -- ---- the end

  exit_more : (k : ℕ) → k < n → exit_of (f.history (suc k)) ≡ or_code (exit_of (f.history k)) (exit_in run k)
  exit_more k less = go (has_event run k) refl
    where
      go : (b : Bool) → has_event run k ≡ b → exit_of (f.history (suc k)) ≡ or_code (exit_of (f.history k)) (exit_in run k)
      go false e = ap exit_of (comes k less false e) ∙ sym (or_code_none (exit_of (f.history k))) ∙ ap (or_code (exit_of (f.history k))) (sym (exit_none k e))
      go true e =
          let g = comes k less true e in
          ap exit_of g.1 ∙ ap (or_code (exit_of (f.history k))) (sym (exit_step k less g e))

  -- an end agrees
  abbrev EndAgrees : Ended → Type 0
  EndAgrees end = cycles_of end ≤ n → code_in end ≡ exit_of (f.history (cycles_of end))

  -- the end of a run in whose first k cycles no exit came
  end_agrees : (left k : ℕ) → exit_of (f.history k) ≡ None → EndAgrees (end_from run k left)
  unfolding end_from
  end_agrees zero k none less = sym none
  end_agrees (suc left) k none less = go (λ still i. end_agrees left (suc k) still i) (exit_in run k) refl less
    where
      later : suc k ≤ cycles_of (end_from run (suc k) left)
      later = ends_from run (suc k) left

      stop : (exit_of (f.history (suc k)) ≡ None → EndAgrees (end_from run (suc k) left)) → exit_in run k ≡ None → (b : Bool)
          → EndAgrees (cond b (Stopped (on_port run ev_cause k) (on_port run ev_pc k) (events_before run (suc k)) (suc k)) (end_from run (suc k) left))
      stop rest e true i = sym (exit_more k (omega (arith, i)) ∙ ap (λ o. or_code o (exit_in run k)) none ∙ e)
      stop rest e false i = rest (exit_more k (omega (arith, later, i)) ∙ ap (λ o. or_code o (exit_in run k)) none ∙ e) i

      go : (exit_of (f.history (suc k)) ≡ None → EndAgrees (end_from run (suc k) left)) → (x : Option ℕ) → exit_in run k ≡ x
          → EndAgrees (ended_in x run k (end_from run (suc k) left))
      go rest (Some code) e l = sym (exit_more k (omega (arith, l)) ∙ ap (λ o. or_code o (exit_in run k)) none ∙ e)
      go rest None e l = stop rest e (stops_in run k) l

  pub agree : Agrees f
  agree = record {
    text = text_agrees;
    lines = lines_agree;
    exits = exits_agree;
    end = λ cycles less. end_agrees cycles 0 (ap exit_of f.begins) less;
  }
