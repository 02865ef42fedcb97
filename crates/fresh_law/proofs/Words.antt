-- What may be fetched is the one word that was held, and the event has it.
use Rattle.std.proofs.Common.{◌≡◌, ◌∙◌, ℕ, zero, suc, ◌+◌, ◌-◌, ◌<◌, ◌≤◌, Bool, true, false, [], ◌∷◌, ◌++◌, ◌⊎◌, refl, sym, ap, subst, arith, inl, inr, Option, Some, None}
use Rattle.core_ports.specs.Trace.{PortEvent, Trace, port_event, has_event, lines_at}
use Rattle.bus_law.specs.Memory.{Memory, Store, word_at}
use Rattle.isa_csr.specs.Csrs.{pending}
use Rattle.isa_model.specs.Machine.{Set, Machine, Fetched, Event, has_row, is_interrupt, shown}
use Rattle.isa_model.specs.Machine.Fetched.{Word, Error}
use Rattle.isa_model.specs.Machine.Event.{Retire, Trap, Interrupt}
use Rattle.isa_model.specs.Effects.{Effect, Moment}
use Rattle.isa_model.specs.Effects.Effect.{Traps, Rests, Does}
use Rattle.isa_model.specs.Step.{Done, Step, done_of, effect_of_row, interrupt, outcome_of, retire, retirement, trap, value_for}
use Rattle.isa_table.specs.Rows.{row_of}
use Rattle.core_words.specs.Fields.{rd_of}
use Rattle.isa_model.specs.Run.{Continues, Entry, FetchedFrom, History, IsRun, Possible, moment_in, now}
use Rattle.isa_follow.specs.Follows.{Follows, Goes}
use Rattle.fresh_law.specs.Fresh.{HeldOne, IsOfWord}

some_eq : {A : Type 0} (x y : A) → ◌≡◌ {A = Option A} (Some x) (Some y) → x ≡ y
some_eq x y e = cc

-- ---- what may be fetched

given : (memory : Memory) (pc word : ℕ) (fetched : Fetched) → FetchedFrom memory pc fetched → word_at memory pc ≡ Some word → fetched ≡ Word word
given memory pc word Error from held = absurd cc
given memory pc word (Word w) from held = ap Word (some_eq w word (sym from ∙ held))

one_word : (start : Machine) (past : History) (pc word : ℕ) (fetched : Fetched) → Possible start past pc fetched → HeldOne start past pc word → fetched ≡ Word word
one_word start [] pc word fetched from held = given start.memory pc word fetched from held
one_word start (e ∷ past) pc word fetched (inl from) held = given e.done.new.memory pc word fetched from held.0
one_word start (e ∷ past) pc word fetched (inr before) held = one_word start past pc word fetched before.1 (held.1 before.0)

-- ---- what follows from a word

trap_of : (system : Bool) (m : Machine) (word cause tval : ℕ) (write : Option Store) → IsOfWord m.pc word (trap system m word cause tval write).event
trap_of true m word cause tval write = (refl, refl)
trap_of false m word cause tval write = (refl, refl)

retirement_of : (m : Machine) (word rd : ℕ) (value : Option ℕ) → IsOfWord m.pc word (retirement m word rd value)
retirement_of m word rd None = (refl, refl)
retirement_of m word rd (Some value) = (refl, refl)

done_of_word : (system : Bool) (m : Machine) (word : ℕ) (x : Effect) (done : Done) → done_of system m word x ≡ Some done → IsOfWord m.pc word done.event
done_of_word system m word (Traps cause tval write) done is =
    subst (λ (d : Done). IsOfWord m.pc word d.event) (some_eq (trap system m word cause tval write) done is) (trap_of system m word cause tval write)
done_of_word system m word Rests done is = absurd cc
done_of_word system m word (Does value next_pc write change) done is =
    subst (λ (d : Done). IsOfWord m.pc word d.event) (some_eq (retire m word value next_pc write change) done is) (retirement_of m word (rd_of word) (value_for (rd_of word) value))

outcome_of_word : (s : Set) (m : Machine) (word : ℕ) (moment : Moment) (done : Done) → outcome_of s m (Word word) moment ≡ Some done → IsOfWord m.pc word done.event
unfolding outcome_of
outcome_of_word s m word moment done is = done_of_word s.system m word (effect_of_row s.system m word moment (row_of (has_row s) word)) done is

-- ---- a step of a run

step_of : (s : Set) (m : Machine) (word : ℕ) (moment : Moment) (done : Done) → Step s m (Word word) moment done → is_interrupt done.event ≡ false → IsOfWord m.pc word done.event
step_of s m word moment done step plain = by step.how
  where
    by : ((cause : ℕ) × (pending m.csrs moment.lines ≡ Some cause) × (done ≡ interrupt m cause)) ⊎ (outcome_of s m (Word word) moment ≡ Some done) → IsOfWord m.pc word done.event
    by (inl taken) = let yes : is_interrupt done.event ≡ true = ap (λ (d : Done). is_interrupt d.event) taken.2 in absurd cc
    by (inr is) = outcome_of_word s m word moment done is

next_of : (s : Set) (start : Machine) (lines : ℕ → ℕ) (past : History) (e : Entry) → Continues s start lines past e → is_interrupt e.done.event ≡ false
    → (word : ℕ) → HeldOne start past (now start past).pc word → IsOfWord (now start past).pc word e.done.event
next_of s start lines past e goes plain word held =
    let is = one_word start past (now start past).pc word goes.fetched goes.possible held in
    step_of s (now start past) word (moment_in lines e.cycle) e.done (subst (λ (f : Fetched). Step s (now start past) f (moment_in lines e.cycle) e.done) is goes.step) plain

-- the run up to each of its steps
pub run_before : (s : Set) (start : Machine) (lines : ℕ → ℕ) (later past : History) → IsRun s start lines (later ++ past) → IsRun s start lines past
run_before s start lines [] past run = run
run_before s start lines (x ∷ later) past run = run_before s start lines later past run.0

pub fresh_words : (s : Set) (start : Machine) (lines : ℕ → ℕ) (later past : History) (e : Entry) → IsRun s start lines (later ++ e ∷ past) → is_interrupt e.done.event ≡ false
    → (word : ℕ) → HeldOne start past (now start past).pc word → IsOfWord (now start past).pc word e.done.event
fresh_words s start lines later past e run plain word held = next_of s start lines past e (run_before s start lines later (e ∷ past) run).1 plain word held

-- ---- the events that ports show

-- the steps before a cycle are those before an earlier one, and some later ones
module _ (s : Set) (start : Machine) (run : Trace) (n : ℕ) (f : Follows s start run n) where
  record Earlier (k m : ℕ) : Type 0 where
    later : History
    is : f.history m ≡ later ++ f.history k

  more : (k m : ℕ) (b : Bool) → Goes b m (port_event run m) (f.history m) (f.history (suc m)) (f.waiting m) → Earlier k m → Earlier k (suc m)
  more k m false goes h = record { later = h.later; is = goes ∙ h.is }
  more k m true goes h = record {
    later = record { cycle = m; done = goes.0 } ∷ h.later;
    is = goes.1 ∙ ap (λ (past : History). record { cycle = m; done = goes.0 } ∷ past) h.is;
  }

  earlier : (k j : ℕ) → j + k ≤ n → Earlier k (j + k)
  earlier k zero l = subst (Earlier k) (omega arith) (record { later = []; is = refl })
  earlier k (suc j) l =
      let h = earlier k j (omega arith) in
      let goes = f.events (j + k) (omega arith) in
      subst (Earlier k) (omega arith) (more k (j + k) (has_event run (j + k)) goes h)

  run_until : (k : ℕ) → k ≤ n → IsRun s start (lines_at run) (f.history k)
  run_until k l =
      let at : (n - k) + k ≡ n = omega arith in
      let h = subst (Earlier k) at (earlier k (n - k) (omega arith)) in
      run_before s start (lines_at run) h.later (f.history k) (subst (IsRun s start (lines_at run)) h.is f.runs)

  kind_of : (x : Event) (pc word : ℕ) → (is_interrupt x ≡ false → IsOfWord pc word x) → ((shown x).kind ≡ 2) ⊎ (((shown x).pc ≡ pc) × ((shown x).word ≡ word))
  kind_of (Retire at of rd value) pc word is = inr (is refl)
  kind_of (Trap at of cause stops) pc word is = inr (is refl)
  kind_of (Interrupt at cause) pc word is = inl refl

  shown_at : (k : ℕ) (l : k < n) → has_event run k ≡ true → (word : ℕ) → HeldOne start (f.history k) (now start (f.history k)).pc word
      → ((port_event run k).kind ≡ 2) ⊎ (((port_event run k).pc ≡ (now start (f.history k)).pc) × ((port_event run k).word ≡ word))
  shown_at k l has word held =
      let goes = subst (λ b. Goes b k (port_event run k) (f.history k) (f.history (suc k)) (f.waiting k)) has (f.events k l) in
      let runs = subst (IsRun s start (lines_at run)) goes.1 (run_until (suc k) (omega arith)) in
      subst (λ (x : PortEvent). (x.kind ≡ 2) ⊎ ((x.pc ≡ (now start (f.history k)).pc) × (x.word ≡ word))) goes.2
      (kind_of goes.0.event (now start (f.history k)).pc word (λ plain. next_of s start (lines_at run) (f.history k) (record { cycle = k; done = goes.0 }) runs.1 plain word held))

pub fresh_events : (s : Set) (start : Machine) (run : Trace) (n : ℕ) (f : Follows s start run n) (k : ℕ) → k < n → has_event run k ≡ true
    → (word : ℕ) → HeldOne start (f.history k) (now start (f.history k)).pc word
    → ((port_event run k).kind ≡ 2) ⊎ (((port_event run k).pc ≡ (now start (f.history k)).pc) × ((port_event run k).word ≡ word))
fresh_events s start run n f k l has word held = shown_at s start run n f k l has word held
