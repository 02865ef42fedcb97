-- Events, lines and the end of a run, cycle by cycle.
use Rattle.std.proofs.Common.{◌≡◌, ◌≤◌, ◌<◌, ℕ, zero, suc, ◌+◌, ◌-◌, Bool, true, false, cond, eqb, List, [], ◌∷◌, ◌++◌, ◌&&◌, length, Option, Some, None, Result, Ok, Err, OnErr, refl, sym, ap, ◌∙◌, subst, arith, add-one, append_assoc, append-nil, length-append}
use Rattle.std.specs.Prelude.{is_some}
use Rattle.std.proofs.lemmas.Bool.{ne_eqb}
use Rattle.std.proofs.lemmas.List.{take-append-le}
use Rattle.std.proofs.Math.Seq.{take-append-add}
use Rattle.core_words.specs.Values.{one_if}
use Rattle.core_ports.specs.Ports.{name_of, ev_kind, ev_pc, ev_cause, ev_valid}
use Rattle.core_ports.specs.Trace.{Trace, PortEvent, on_port, port_event, has_event}
use Rattle.core_host.specs.Outside.{Appends, IsCut, grown}
use Rattle.core_host.proofs.Ports.{grown-grown}
use Rattle.core_sim.specs.declared.ended.Ended.{Ended}
use Rattle.core_sim.specs.declared.ended.Ended.TheVariants.{Exit, Stopped, CyclesEnded}
use Rattle.core_sim.specs.declared.event.Event.{Event}
use Rattle.core_sim.specs.Lines.{event_line}
use Rattle.core_sim.specs.Ends.{accepted_in, events_before, line_in, lines_before, stops_in, retires_in, unsettled, text_in, text_before, exit_in, ended_in, end_from, end_of, cycles_of, run_text}
use Rattle.core_sim.specs.Window.{host_bytes, exit_code}
use Rattle.core_sim.specs.Bench.{event_in, event_of, port_event_of, retires, shown, end_by, end_with}
use Rattle.core_sim.specs.Pending.{IsKept, noted, store_of_write}
use Rattle.core_sim.specs.declared.event.Write.{Write}
use Rattle.bus_law.specs.Memory.{Store}
use Rattle.core_sim.specs.declared.pending.Pending.{Pending}

-- ---- bytes that are pushed

two_appends : (old mid new : Option (List ℕ)) (xs ys : List ℕ) → Appends old xs mid → Appends mid ys new → Appends old (xs ++ ys) new
two_appends old mid new xs ys a b = b ∙ ap (λ m. grown m ys) a ∙ grown-grown old xs ys

cut_of_more : (old new : Option (List ℕ)) (xs ys : List ℕ) → IsCut old xs new → IsCut old (xs ++ ys) new
cut_of_more old new xs ys (k, less, part) =
    let long = length-append xs ys in
    (k, omega (arith, long, less), part ∙ ap (grown old) (sym (take-append-le k xs ys (omega (arith, less)))))

cut_behind : (old mid new : Option (List ℕ)) (xs ys : List ℕ) → Appends old xs mid → IsCut mid ys new → IsCut old (xs ++ ys) new
cut_behind old mid new xs ys a (k, less, part) =
    let long = length-append xs ys in (
      length xs + k,
      omega (arith, long, less),
      two_appends old mid new xs _ a part ∙ ap (grown old) (sym (take-append-add xs ys k)),
    )

no_cut : (old new : Option (List ℕ)) → IsCut old [] new → ⊥
no_cut old new (k, less, part) = omega (arith, less)

-- a fact that holds on an error, since it holds
pub on_err : {T E P : Type 0} (r : Result T E) → P → OnErr r P
on_err (Ok x) p = tt
on_err (Err e) p = p

-- ---- what is told of a cycle

-- what a cycle tells is its event
abbrev pub IsTold : Trace → (k : ℕ) → Option Event → Type 0
IsTold run k told = told ≡ event_in k (run k)

some_event : (run : Trace) (k : ℕ) (e : Event) → Some e ≡ event_in k (run k) → (has_event run k ≡ true) × (port_event_of e ≡ port_event run k)
unfolding has_event
some_event run zero e h = cc
some_event run (suc k) e h = go (eqb (run (suc k) (name_of ev_valid)) 1) refl h
  where
    go : (b : Bool) → eqb (run (suc k) (name_of ev_valid)) 1 ≡ b → Some e ≡ cond b (Some (event_of (run (suc k)))) None
        → (eqb (run (suc k) (name_of ev_valid)) 1 ≡ true) × (port_event_of e ≡ port_event run (suc k))
    go true q s = let same : e ≡ event_of (run (suc k)) = cc in (q, ap port_event_of same)
    go false q s = cc

no_event : (run : Trace) (k : ℕ) → None ≡ event_in k (run k) → has_event run k ≡ false
unfolding has_event
no_event run zero h = refl
no_event run (suc k) h = go (eqb (run (suc k) (name_of ev_valid)) 1) refl h
  where
    go : (b : Bool) → eqb (run (suc k) (name_of ev_valid)) 1 ≡ b → None ≡ cond b (Some (event_of (run (suc k)))) None
        → eqb (run (suc k) (name_of ev_valid)) 1 ≡ false
    go true q s = cc
    go false q s = q

-- an instruction retires where the event says so
pub retires_is : (run : Trace) (k : ℕ) (told : Option Event) → IsTold run k told → retires told ≡ retires_in run k
retires_is run k None h = ap (λ b. b && eqb (on_port run ev_kind k) 0) (sym (no_event run k h))
retires_is run k (Some e) h =
    let s = some_event run k e h in
    ap (λ (p : PortEvent). eqb p.kind 0) s.1 ∙ ap (λ b. b && eqb (on_port run ev_kind k) 0) (sym s.0)

-- ---- a cycle more

-- what is pushed of a run before a cycle, and in it
abbrev pub said_before : (trace : Bool) → Trace → (k : ℕ) → List ℕ
said_before trace run k = cond trace (lines_before run k) (text_before run k)

abbrev pub said_in : (trace : Bool) → Trace → (k : ℕ) → List ℕ
said_in trace run k = cond trace (line_in run k) (text_in run k)

said_is : (trace : Bool) (run : Trace) (cycles : ℕ) → run_text trace run cycles ≡ said_before trace run (cycles_of (end_of run cycles))
said_is true run cycles = refl
said_is false run cycles = refl

said_next : (trace : Bool) (run : Trace) (k : ℕ) → said_before trace run (suc k) ≡ said_before trace run k ++ said_in trace run k
unfolding lines_before text_before
said_next true run k = refl
said_next false run k = refl

shown_is : (trace : Bool) (run : Trace) (k : ℕ) (told : Option Event) (bytes : List ℕ) → IsTold run k told
    → (trace ≡ false → bytes ≡ host_bytes (unsettled run k)) → shown trace told bytes ≡ said_in trace run k
shown_is false run k told bytes h kept = ap (λ b. cond b bytes []) (retires_is run k told h) ∙ ap (λ l. cond (retires_in run k) l []) (kept refl)
shown_is true run k None bytes h kept = ap (λ b. cond b (event_line (port_event run k)) []) (sym (no_event run k h))
shown_is true run k (Some e) bytes h kept =
    let s = some_event run k e h in
    ap event_line s.1 ∙ ap (λ b. cond b (event_line (port_event run k)) []) (sym s.0)

-- ---- how it ends in a cycle

-- an end, or else a later one
abbrev pub or_later : Option Ended → Ended → Ended
or_later None later = later
or_later (Some end) later = end

-- the end of a run in a cycle, by the exit and whether it stops
abbrev ended_by : (exit : Option ℕ) → (stops : Bool) → (cause pc events cycles : ℕ) → Ended → Ended
ended_by (Some code) stops cause pc events cycles later = Exit code events cycles
ended_by None stops cause pc events cycles later = cond stops (Stopped cause pc events cycles) later

ended_by_is : (exit : Option ℕ) (run : Trace) (k : ℕ) (later : Ended)
    → ended_in exit run k later ≡ ended_by exit (stops_in run k) (on_port run ev_cause k) (on_port run ev_pc k) (events_before run (suc k)) (suc k) later
ended_by_is (Some code) run k later = refl
ended_by_is None run k later = refl

by_kind : (kind : ℕ) (code : Option ℕ) (cause pc events cycles : ℕ) (later : Ended)
    → ended_by (cond (eqb kind 0) code None) (eqb kind 3) cause pc events cycles later ≡ or_later (end_by kind code cause pc events cycles) later
by_kind zero None cause pc events cycles later = refl
by_kind zero (Some code) cause pc events cycles later = refl
by_kind (suc zero) code cause pc events cycles later = refl
by_kind (suc (suc zero)) code cause pc events cycles later = refl
by_kind (suc (suc (suc zero))) code cause pc events cycles later = refl
by_kind (suc (suc (suc (suc n)))) code cause pc events cycles later =
    let kind : ℕ = suc (suc (suc (suc n))) in
    ap (λ b. ended_by (cond b code None) (eqb kind 3) cause pc events cycles later) (ne_eqb kind 0 (λ e. omega (arith, e)))
    ∙ ap (λ b. ended_by None b cause pc events cycles later) (ne_eqb kind 3 (λ e. omega (arith, e)))

end_is : (run : Trace) (k : ℕ) (told : Option Event) (code : Option ℕ) (later : Ended) → IsTold run k told → code ≡ exit_code (unsettled run k)
    → ended_in (exit_in run k) run k later ≡ or_later (end_with told code (events_before run (suc k)) (suc k)) later
end_is run k None code later h kept =
    let none : has_event run k ≡ false = no_event run k h in
    ended_by_is (exit_in run k) run k later
    ∙ ap (λ b. ended_by (cond (b && eqb (on_port run ev_kind k) 0) (exit_code (unsettled run k)) None) (b && eqb (on_port run ev_kind k) 3)
    (on_port run ev_cause k) (on_port run ev_pc k) (events_before run (suc k)) (suc k) later) none
end_is run k (Some e) code later h kept =
    let s = some_event run k e h in
    ended_by_is (exit_in run k) run k later
    ∙ ap (λ b. ended_by (cond (b && eqb (on_port run ev_kind k) 0) (exit_code (unsettled run k)) None) (b && eqb (on_port run ev_kind k) 3)
    (on_port run ev_cause k) (on_port run ev_pc k) (events_before run (suc k)) (suc k) later) s.0
    ∙ ap (λ (p : PortEvent). ended_by (cond (eqb p.kind 0) (exit_code (unsettled run k)) None) (eqb p.kind 3) p.cause p.pc (events_before run (suc k)) (suc k) later) (sym s.1)
    ∙ ap (λ c. ended_by (cond (eqb e.kind 0) c None) (eqb e.kind 3) e.cause e.pc (events_before run (suc k)) (suc k) later) (sym kept)
    ∙ by_kind e.kind code e.cause e.pc (events_before run (suc k)) (suc k) later

-- an end in a cycle has this many cycles
by_kind_cycles : (kind : ℕ) (code : Option ℕ) (cause pc events cycles : ℕ) (end : Ended) → end_by kind code cause pc events cycles ≡ Some end → cycles_of end ≡ cycles
by_kind_cycles zero None cause pc events cycles end h = absurd cc
by_kind_cycles zero (Some code) cause pc events cycles end h = let same : end ≡ Exit code events cycles = cc in ap cycles_of same
by_kind_cycles (suc zero) code cause pc events cycles end h = absurd cc
by_kind_cycles (suc (suc zero)) code cause pc events cycles end h = absurd cc
by_kind_cycles (suc (suc (suc zero))) code cause pc events cycles end h = let same : end ≡ Stopped cause pc events cycles = cc in ap cycles_of same
by_kind_cycles (suc (suc (suc (suc n)))) code cause pc events cycles end h = absurd cc

end_cycles : (told : Option Event) (code : Option ℕ) (events cycles : ℕ) (end : Ended) → end_with told code events cycles ≡ Some end → cycles_of end ≡ cycles
end_cycles None code events cycles end h = absurd cc
end_cycles (Some e) code events cycles end h = by_kind_cycles e.kind code e.cause e.pc events cycles end h

-- ---- the run as a cycle begins

-- the state of a run as cycle k begins: the events so far, what is pushed so far, and how it goes on
pub record IsAt (run : Trace) (trace : Bool) (cycles k count : ℕ) (old now : Option (List ℕ)) : Type 0 where
  pub events : count ≡ events_before run k
  pub text : Appends old (said_before trace run k) now
  pub ends : (left : ℕ) → k + left ≡ cycles → end_of run cycles ≡ end_from run k left

pub at_start : (run : Trace) (trace : Bool) (cycles : ℕ) (old : Option (List ℕ)) → IsAt run trace cycles 0 0 old old
unfolding events_before lines_before text_before
at_start run trace cycles old = record {
  events = refl;
  text = nothing trace old;
  ends = λ left e. ap (end_from run 0) (same left cycles e);
}
  where
    nothing : (b : Bool) (o : Option (List ℕ)) → o ≡ grown o (cond b [] [])
    nothing true None = refl
    nothing true (Some xs) = ap Some (sym (append-nil xs))
    nothing false None = refl
    nothing false (Some xs) = ap Some (sym (append-nil xs))

    same : (l n : ℕ) → 0 + l ≡ n → n ≡ l
    same l n e = omega arith

-- ---- text comes behind text

said_grows : (trace : Bool) (run : Trace) (k d : ℕ) → (rest : List ℕ) × (said_before trace run (k + d) ≡ said_before trace run k ++ rest)
said_grows trace run k zero = ([], ap (said_before trace run) (plus_zero k) ∙ sym (append-nil (said_before trace run k)))
  where
    plus_zero : (n : ℕ) → n + 0 ≡ n
    plus_zero n = omega arith
said_grows trace run k (suc d) =
    let s = said_grows trace run k d in (
      s.0 ++ said_in trace run (k + d),
      ap (said_before trace run) (plus_suc k d) ∙ said_next trace run (k + d) ∙ ap (λ l. l ++ said_in trace run (k + d)) s.1
          ∙ append_assoc (said_before trace run k) s.0 (said_in trace run (k + d)),
    )
  where
    plus_suc : (m n : ℕ) → m + suc n ≡ suc (m + n)
    plus_suc m n = omega arith

text_grows : (trace : Bool) (run : Trace) (k n : ℕ) → k ≤ n → (rest : List ℕ) × (said_before trace run n ≡ said_before trace run k ++ rest)
text_grows trace run k n h =
    let s = said_grows trace run k (n - k) in
    (s.0, ap (said_before trace run) (sums k n h) ∙ s.1)
  where
    sums : (a b : ℕ) → a ≤ b → b ≡ a + (b - a)
    sums a b l = omega arith

ends_by : (exit : Option ℕ) (stops : Bool) (n cause pc events cycles : ℕ) (later : Ended) → n ≤ cycles → n ≤ cycles_of later
    → n ≤ cycles_of (ended_by exit stops cause pc events cycles later)
ends_by (Some code) stops n cause pc events cycles later h i = h
ends_by None true n cause pc events cycles later h i = h
ends_by None false n cause pc events cycles later h i = i

ends_in : (run : Trace) (k n : ℕ) (later : Ended) → n ≤ suc k → n ≤ cycles_of later → n ≤ cycles_of (ended_in (exit_in run k) run k later)
ends_in run k n later h i = subst (λ x. n ≤ cycles_of x) (sym (ended_by_is (exit_in run k) run k later))
    (ends_by (exit_in run k) (stops_in run k) n (on_port run ev_cause k) (on_port run ev_pc k) (events_before run (suc k)) (suc k) later h i)

pub ends_from : (run : Trace) (k left : ℕ) → k ≤ cycles_of (end_from run k left)
unfolding end_from
ends_from run k zero = omega arith
ends_from run k (suc left) = let later : suc k ≤ cycles_of (end_from run (suc k) left) = ends_from run (suc k) left in
    ends_in run k k (end_from run (suc k) left) (omega arith) (omega (arith, later))

ends_later : (run : Trace) (k left : ℕ) → suc k ≤ cycles_of (end_from run k (suc left))
unfolding end_from
ends_later run k left = ends_in run k (suc k) (end_from run (suc k) left) (omega arith) (ends_from run (suc k) left)

-- ---- what is kept of the writes

-- a retirement settles them
pub kept_settled : (trace : Bool) (ws : List Store) (p q : Pending) (e : Option Event) (b : Bool) → b ≡ retires e → b ≡ true → p ≡ q → IsKept trace [] q
    → IsKept trace (cond (retires e) [] ws) p
kept_settled trace ws p q e b r t same h = subst (λ x. IsKept trace (cond x [] ws) p) (sym t ∙ r) (subst (IsKept trace []) (sym same) h)

pub kept_still : (trace : Bool) (ws : List Store) (p q : Pending) (e : Option Event) (b : Bool) → b ≡ retires e → b ≡ false → p ≡ q → IsKept trace ws q
    → IsKept trace (cond (retires e) [] ws) p
kept_still trace ws p q e b r f same h = subst (λ x. IsKept trace (cond x [] ws) p) (sym f ∙ r) (subst (IsKept trace ws) (sym same) h)

pub kept_noted : (trace : Bool) (ws : List Store) (p : Pending) (o : Option Write) (w : Write) → o ≡ Some w → IsKept trace (store_of_write w ∷ ws) p
    → IsKept trace (noted o ++ ws) p
kept_noted trace ws p o w e h = subst (λ x. IsKept trace (noted x ++ ws) p) (sym e) h

pub kept_none : (trace : Bool) (ws : List Store) (p : Pending) (o : Option Write) → o ≡ None → IsKept trace ws p → IsKept trace (noted o ++ ws) p
kept_none trace ws p o e h = subst (λ x. IsKept trace (noted x ++ ws) p) (sym e) h

-- the writes of which something is kept as the next cycle begins
pub kept_next : (run : Trace) (k : ℕ) (told : Option Event) (trace : Bool) (p : Pending) → IsTold run k told
    → IsKept trace (accepted_in run k ++ cond (retires told) [] (unsettled run k)) p → IsKept trace (unsettled run (k + 1)) p
unfolding unsettled
kept_next run k told trace p is h = subst (λ n. IsKept trace (unsettled run n) p) (sym (add-one k))
    (subst (λ b. IsKept trace (accepted_in run k ++ cond b [] (unsettled run k)) p) (retires_is run k told is) h)

module _ (run : Trace) (trace : Bool) (cycles k events : ℕ) (old mid new : Option (List ℕ)) (told : Option Event) (p : Pending)
    (h : IsAt run trace cycles k events old mid) (is : IsTold run k told) (kept : IsKept trace (unsettled run k) p) where
  shown_here : shown trace told p.bytes.items ≡ said_in trace run k
  shown_here = shown_is trace run k told p.bytes.items is kept.bytes

  -- the text of this cycle too
  text_more : Appends mid (shown trace told p.bytes.items) new → Appends old (said_before trace run (suc k)) new
  text_more a = subst (λ t. Appends old t new) (ap (λ t. said_before trace run k ++ t) shown_here ∙ sym (said_next trace run k))
      (two_appends old mid new (said_before trace run k) (shown trace told p.bytes.items) h.text a)

  count_of : (t : Option Event) → IsTold run k t → one_if (is_some t) ≡ one_if (has_event run k)
  count_of None i = ap one_if (sym (no_event run k i))
  count_of (Some e) i = ap one_if (sym (some_event run k e i).0)

  counted : events + one_if (is_some told) ≡ events_before run (suc k)
  unfolding events_before
  counted = ap (λ n. n + one_if (is_some told)) h.events ∙ ap (λ n. events_before run k + n) (count_of told is)

  module _ (count : ℕ) (is_count : count ≡ events + one_if (is_some told)) where
    end_here : (left : ℕ) → k + suc left ≡ cycles → end_of run cycles ≡ or_later (end_with told p.code count (k + 1)) (end_from run (suc k) left)
    unfolding end_from
    end_here left e = h.ends (suc left) e ∙ end_is run k told p.code (end_from run (suc k) left) is kept.code
        ∙ ap (λ n. or_later (end_with told p.code n (suc k)) (end_from run (suc k) left)) (sym (is_count ∙ counted))
        ∙ ap (λ n. or_later (end_with told p.code count n) (end_from run (suc k) left)) (sym (add-one k))

    -- the run goes on
    pub goes_on : None ≡ end_with told p.code count (k + 1) → Appends mid (shown trace told p.bytes.items) new → IsAt run trace cycles (k + 1) count old new
    goes_on none a = subst (λ n. IsAt run trace cycles n count old new) (sym (add-one k)) (record {
      events = is_count ∙ counted;
      text = text_more a;
      ends = λ left e. end_here left (omega (arith, e)) ∙ ap (λ o. or_later o (end_from run (suc k) left)) (sym none);
    })

    -- it ends in this cycle
    module _ (end : Ended) (some : Some end ≡ end_with told p.code count (k + 1)) (less : k < cycles) where
      pub ends_here : end_of run cycles ≡ end
      ends_here = end_here (cycles - (k + 1)) (omega arith) ∙ ap (λ o. or_later o (end_from run (suc k) (cycles - (k + 1)))) (sym some)

      pub text_here : Appends mid (shown trace told p.bytes.items) new → Appends old (run_text trace run cycles) new
      text_here a = subst (λ t. Appends old t new)
          (sym (said_is trace run cycles ∙ ap (λ x. said_before trace run (cycles_of x)) ends_here
          ∙ ap (said_before trace run) (end_cycles told p.code count (k + 1) end (sym some) ∙ add-one k))) (text_more a)

  pub cut : k < cycles → IsCut mid (shown trace told p.bytes.items) new → IsCut old (run_text trace run cycles) new
  cut less c =
      let here : IsCut old (said_before trace run k ++ shown trace told p.bytes.items) new =
      cut_behind old mid new (said_before trace run k) (shown trace told p.bytes.items) h.text c in
      let this : said_before trace run k ++ shown trace told p.bytes.items ≡ said_before trace run (suc k) =
      ap (λ t. said_before trace run k ++ t) shown_here ∙ sym (said_next trace run k) in
      let later : suc k ≤ cycles_of (end_of run cycles) =
      subst (λ x. suc k ≤ cycles_of x) (sym (h.ends (suc (cycles - (k + 1))) (omega arith))) (ends_later run k (cycles - (k + 1))) in
      let rest = text_grows trace run (suc k) (cycles_of (end_of run cycles)) later in
      subst (λ t. IsCut old t new) (sym (said_is trace run cycles ∙ rest.1))
      (cut_of_more old new (said_before trace run (suc k)) rest.0 (subst (λ t. IsCut old t new) this here))

module _ (run : Trace) (trace : Bool) (cycles events : ℕ) (old now : Option (List ℕ)) (h : IsAt run trace cycles cycles events old now) where
  pub ended : end_of run cycles ≡ CyclesEnded events cycles
  unfolding end_from
  ended = h.ends 0 (omega arith) ∙ ap (λ n. CyclesEnded n cycles) (sym h.events)

  pub text_ended : Appends old (run_text trace run cycles) now
  text_ended = subst (λ t. Appends old t now) (sym (said_is trace run cycles ∙ ap (λ x. said_before trace run (cycles_of x)) ended)) h.text
