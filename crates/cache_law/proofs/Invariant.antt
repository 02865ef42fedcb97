-- The invariant of the part, as a cycle begins.
use Rattle.std.proofs.Common.{◌≡◌, ℕ, zero, suc, ◌+◌, ◌*◌, ◌%◌, ◌<◌, ◌≤◌, Bool, true, false, cond, not, eqb, ltb, ◌&&◌, ◌||◌, ◌⊎◌, inl, inr, Option, Some, None, refl, sym, ap, ◌∙◌, subst, suc-mul, mul-le-mul_right, arith}
use Rattle.std.specs.Prelude.{is_some}
use Rattle.std.proofs.lemmas.Bool.{ltb-true, lt-ltb, eqb-false, eq-eqb, ne_eqb}
use Rattle.core_ports.specs.Trace.{Bus}
use Rattle.bus_law.specs.Memory.{Memory, word_at}
use Rattle.bus_law.specs.Protocol.{is_given, is_accepted, owed}
use Rattle.bus_law.specs.Honest.{FetchReply, fetch_reply, Responds}
use Rattle.bus_law.specs.Prompt.{given_from}
use Rattle.isa_model.specs.Effects.{behind}
use Rattle.isa_model.specs.Run.{FetchedFrom}
use Rattle.plug_law.specs.Past.{last}
use Rattle.plug_law.specs.Fetch.{FetchSignals, fetched_as, next_of, owes_pc, FetchAssumed, is_taken_or_redirected}
use Rattle.plug_law.specs.Predict.{IsPredict}
use Rattle.cache_law.proofs.Truths.{and_l, and_r, or_l, or_r, or_yes, both, not_true, not_false, same, ltb_no, ltb_off, back, last_le}
use Rattle.bus_law.proofs.Standing.{from_by_now, owed_since}
use Rattle.cache_law.proofs.InTime.{InTime}
use Rattle.plug_law.specs.Cache.{still_held, reads_word, overtakes, line_of as line_at}
use Rattle.cache_law.specs.Machine.{Registers, line_of, place_of, is_line, address_of, guess, walking, looks, line_now, hits, finds, word_found, error_found, room, moves, keeps, is_last, misses, goes_on, ends, now_bad, captures, IsCache}
use Rattle.cache_law.proofs.Wires.{ms_of, goes_of, given_of, owed_of, dropped_of, Stays, fill_next, fill_on, busy_next, end_next, no_miss, still_at_work}
use Rattle.cache_law.proofs.Basics.{addressed, place_less, line_is, line_same, place_same}

-- a word is what memory held at a place of a line as a cycle after cycle `since` and before cycle t began
pub record IsHeld (mem : ℕ → Memory) (words since t line place word : ℕ) : Type 0 where
  pub cycle : ℕ
  pub after : since < cycle
  pub before : cycle < t
  pub gives : word_at (mem cycle) (address_of words line place) ≡ Some word

-- an item likewise
pub record IsTrueSince (mem : ℕ → Memory) (since t pc : ℕ) (error : Bool) (word : ℕ) : Type 0 where
  pub cycle : ℕ
  pub after : since < cycle
  pub before : cycle < t
  pub gives : FetchedFrom (mem cycle) pc (fetched_as error word)

held_later : (mem : ℕ → Memory) (words since t line place word : ℕ) → IsHeld mem words since t line place word → IsHeld mem words since (suc t) line place word
held_later mem words since t line place word h = record { cycle = h.cycle; after = h.after; before = let l = h.before in omega arith; gives = h.gives }

true_later : (mem : ℕ → Memory) (since t pc : ℕ) (error : Bool) (word : ℕ) → IsTrueSince mem since t pc error word → IsTrueSince mem since (suc t) pc error word
true_later mem since t pc error word h = record { cycle = h.cycle; after = h.after; before = let l = h.before in omega arith; gives = h.gives }

gives_of : (m : Memory) (pc error payload : ℕ) → FetchReply (word_at m pc) error payload → FetchedFrom m pc (fetched_as (eqb error 1) payload)
gives_of m pc error payload h = by (word_at m pc) refl h
  where
    by : (o : Option ℕ) → word_at m pc ≡ o → FetchReply o error payload → FetchedFrom m pc (fetched_as (eqb error 1) payload)
    by None e g = subst (λ k. FetchedFrom m pc (fetched_as (eqb k 1) payload)) (sym g) e
    by (Some w) e g = subst (λ k. FetchedFrom m pc (fetched_as (eqb k 1) payload)) (sym g.0) (e ∙ ap Some (sym g.1))

held_of : (o : Option ℕ) (error payload : ℕ) → FetchReply o error payload → eqb error 1 ≡ false → o ≡ Some payload
held_of None error payload h e = both (eqb error 1) (ap (λ k. eqb k 1) h) e
held_of (Some w) error payload h e = ap Some (sym h.1)

-- one item by equal parts
pub gives_as : (x : Memory) {pc pc' : ℕ} {e e' : Bool} {w w' : ℕ} → pc' ≡ pc → e' ≡ e → w' ≡ w → FetchedFrom x pc (fetched_as e w) → FetchedFrom x pc' (fetched_as e' w')
gives_as x {pc} {pc'} {e} {e'} {w} {w'} a b c h =
    subst (λ z. FetchedFrom x z (fetched_as e' w')) (sym a) (subst (λ z. FetchedFrom x pc (fetched_as z w')) (sym b) (subst (λ z. FetchedFrom x pc (fetched_as e z)) (sym c) h))

-- k words of 2 * w + 1 cycles each
abbrev pub span : (k w : ℕ) → ℕ
span k w = k * (2 * w + 1)

span_more : (k w : ℕ) → span (suc k) w ≡ span k w + (2 * w + 1)
span_more k w = suc-mul k (2 * w + 1)

span_mono : (j k w : ℕ) → j ≤ k → span j w ≤ span k w
span_mono j k w l = mul-le-mul_right (2 * w + 1) l

errorless_of : (q : Option ℕ) (error payload : ℕ) → FetchReply q error payload → is_some q ≡ true → eqb error 1 ≡ false
errorless_of None error payload h e = absurd (grind arith)
errorless_of (Some w) error payload h e = ap (λ k. eqb k 1) h.0

is_line_true : (o : Option ℕ) (n : ℕ) → is_line o n ≡ true → o ≡ Some n
is_line_true None n e = absurd (grind arith)
is_line_true (Some k) n e = ap Some (same k n e)

pub is_line_of : (o : Option ℕ) (n : ℕ) → o ≡ Some n → is_line o n ≡ true
is_line_of o n e = ap (λ z. is_line z n) e ∙ eq-eqb n n refl

some_same : (x y : ℕ) → Some x ≡ Some y → x ≡ y
some_same x y e = cc

none_some : {A : Type 0} (x : ℕ) (o : Option ℕ) → o ≡ None → o ≡ Some x → A
none_some x o e h = absurd (let g : None ≡ Some x = sym e ∙ h in grind arith)

behind_whole : (pc : ℕ) → pc % 4 ≡ 0 → behind pc % 4 ≡ 0
behind_whole pc h = omega arith

-- a guess behind a multiple of 4 is one
predict_whole : (predicts : Bool) (predict : ℕ → ℕ → ℕ) → IsPredict predicts predict → (pc word : ℕ) → pc % 4 ≡ 0 → predict pc word % 4 ≡ 0
predict_whole true predict is pc word h = is pc word h
predict_whole false predict is pc word h = ap (λ k. k % 4) (is pc word) ∙ behind_whole pc h

module _ (lines words reset_pc : ℕ) (predicts : Bool) (f : FetchSignals) (ib : Bus) (mem : ℕ → Memory) (predict : ℕ → ℕ → ℕ) (r : Registers) where
  abbrev pub walks : ℕ → Bool
  walks t = walking lines words f ib r t

  abbrev pub begins : ℕ → Bool
  begins t = misses lines words f ib r t

  abbrev pub keep : ℕ → Bool
  keep t = keeps lines words f ib r t

  abbrev pub go : ℕ → Bool
  go t = goes_on lines words f ib r t

  abbrev pub finish : ℕ → Bool
  finish t = ends lines words f ib r t

  abbrev pub move : ℕ → Bool
  move t = moves lines words f ib r t

  abbrev pub is_busy : ℕ → Bool
  is_busy t = r.given t || r.owed t

  abbrev pub now : ℕ → ℕ
  now t = line_now lines words f ib r t

  abbrev pub address : ℕ → ℕ
  address t = address_of words (r.line t) (r.place t)

  -- the cycle in which the command at work was first given
  unfoldable pub start : ℕ → ℕ
  start zero = 0
  start (suc t) = cond (begins t || go t) (suc t) (start t)

  pub start_le : (t : ℕ) → start t ≤ t
  unfolding start
  start_le zero = omega arith
  start_le (suc t) = by (begins t || go t) (start_le t)
    where
      by : (c : Bool) → start t ≤ t → cond c (suc t) (start t) ≤ suc t
      by true h = omega arith
      by false h = omega arith

  pub data Phase (t : ℕ) : Type 0 where
    Rests : r.given t ≡ false → r.owed t ≡ false → owed ib t ≡ None → Phase t
    Asks : r.given t ≡ true → r.owed t ≡ false → owed ib t ≡ None → given_from ib t ≡ start t → Phase t
    Waits : (c : ℕ) → r.given t ≡ false → r.owed t ≡ true → owed ib t ≡ Some c → given_from ib c ≡ start t → ib.cmd_addr c ≡ address t → Phase t

  -- a line is read
  pub record Fills (t : ℕ) : Type 0 where
    pub busy : is_busy t ≡ true
    pub kept : r.dropped t ≡ false

  abbrev pub HeldIn : (t line place index : ℕ) → Type 0
  HeldIn t line place index = IsHeld mem words (last f.fence t) t line place (r.cells t index place)

  abbrev pub CapturedIn : (t : ℕ) → Type 0
  CapturedIn t = IsTrueSince mem (last f.fence t) t (r.pc t) (r.captured_error t) (r.captured_word t)

  pub record Inv (t : ℕ) : Type 0 where
    pub phase : Phase t
    pub drops : is_busy t ≡ true → r.dropped t ≡ not (ltb (last f.fence t) (start t))
    pub clears : walks t ≡ true → is_busy t ≡ true → r.dropped t ≡ true
    pub swept : walks t ≡ true → (i : ℕ) → i < r.walk t → r.tags t i ≡ None
    pub held : walks t ≡ false → (n : ℕ) → r.tags t (n % lines) ≡ Some n → (Fills t → r.line t % lines ≡ n % lines → ⊥) → (k : ℕ) → k < words → HeldIn t n k (n % lines)
    pub place : is_busy t ≡ true → r.place t < words
    pub read : Fills t → r.bad t ≡ false → (k : ℕ) → k < r.place t → HeldIn t (r.line t) k (r.line t % lines)
    pub wants : Fills t → r.wanted t ≡ true → r.line t ≡ now t
    pub caught : Fills t → r.wanted t ≡ true → place_of words (r.pc t) < r.place t → CapturedIn t
    pub captured : r.captured t ≡ true → (is_busy t ≡ false) × (walks t ≡ false) × CapturedIn t
    pub out : r.full t ≡ true → IsTrueSince mem (last f.fence t) t (r.out_pc t) (r.out_error t) (r.out_word t)
    pub owes_out : r.full t ≡ true → (pc : ℕ) → owes_pc f predict reset_pc t ≡ Some pc → r.out_pc t ≡ pc
    pub owes_pc : r.full t ≡ false → (pc : ℕ) → owes_pc f predict reset_pc t ≡ Some pc → r.pc t ≡ pc
    pub follows : r.full t ≡ true → r.out_error t ≡ false → r.pc t ≡ predict (r.out_pc t) (r.out_word t)
    pub whole : r.pc t % 4 ≡ 0
    pub fences : last f.fence t ≤ last f.redirect t

  -- the cycle in which the first command of the fill was first given
  unfoldable pub begun : ℕ → ℕ
  begun zero = 0
  begun (suc t) = cond (begins t) (suc t) (begun t)

  pub begun_le : (t : ℕ) → begun t ≤ t
  unfolding begun
  begun_le zero = omega arith
  begun_le (suc t) = by (begins t) (begun_le t)
    where
      by : (c : Bool) → begun t ≤ t → cond c (suc t) (begun t) ≤ suc t
      by true h = omega arith
      by false h = omega arith

  -- the last take or redirect
  abbrev pub quiet_since : ℕ → ℕ
  quiet_since t = last (is_taken_or_redirected f) t

  -- how long a search can take that finds nothing, and a whole one
  abbrev pub search_time : ℕ → ℕ
  search_time w = lines + 1 + span words w

  abbrev pub whole_time : ℕ → ℕ
  whole_time w = search_time w + 1 + span words w

  -- how late things are, as cycle t begins, on a bus that answers within w cycles
  pub record Early (w t : ℕ) : Type 0 where
    pub paced : Fills t → start t ≤ begun t + span (r.place t) w
    pub sweeps : walks t ≡ true → t ≤ quiet_since t + r.walk t + 1
    pub old : Fills t → r.wanted t ≡ false → begun t ≤ quiet_since t
    pub fresh : r.full t ≡ false → Fills t → r.wanted t ≡ true → begun t ≤ quiet_since t + search_time w + 1
    pub looking : r.full t ≡ false → looks lines words f ib r t ≡ true → (t ≤ quiet_since t + search_time w) ⊎ ((t ≤ quiet_since t + whole_time w) × (finds lines words f ib r t ≡ true))

  -- a line lay wholly in memory in each cycle before cycle t
  abbrev pub IsInside : (t line : ℕ) → Type 0
  IsInside t n = (c k : ℕ) → 1 ≤ c → c < t → k < words → is_some (word_at (mem c) (address_of words n k)) ≡ true

  -- where a word is that was read and not overtaken: in a line that is held, over which no other is read yet, or in the line
  -- that is read, before its place or owed
  pub data Where (t n k : ℕ) : Type 0 where
    Stored : r.tags t (n % lines) ≡ Some n → (Fills t → r.line t % lines ≡ n % lines → (r.place t ≡ 0) × (r.owed t ≡ false) × (r.line t ≡ n → ⊥)) → Where t n k
    Coming : Fills t → r.line t ≡ n → (k < r.place t) ⊎ ((k ≡ r.place t) × (r.owed t ≡ true)) → Where t n k

  pub record Reads (t : ℕ) : Type 0 where
    pub errorless : (n : ℕ) → IsInside t n → Fills t → r.line t ≡ n → r.bad t ≡ false
    pub kept : (n k : ℕ) → k < words → IsInside t n → still_held lines words f ib (address_of words n k) t ≡ true → (walks t ≡ false) × (is_busy t ≡ true → r.dropped t ≡ false) × Where t n k

  pub in_time : (w n t : ℕ) → InTime ib w n → t ≤ n → is_given ib t ≡ r.given t → Phase t → is_busy t ≡ true → t ≤ start t + 2 * w
  in_time w n t within l ge (Rests g o e) b = both (r.given t || r.owed t) b (λ j. g j || o j)
  in_time w n t within l ge (Asks g o e d) b = let k = within.given t l (ge ∙ g) in omega arith
  in_time w n t within l ge (Waits c g o e d q) b = let k = within.answered t c l e in omega arith

  last_before : (q : ℕ → Bool) (t : ℕ) → last q t ≤ t
  unfolding last
  last_before q zero = omega arith
  last_before q (suc t) = let l : last q (suc t) ≤ t = last_le q t in omega arith

  -- what holds more often held later
  last_more : (q z : ℕ → Bool) → ((t : ℕ) → q t ≡ true → z t ≡ true) → (t : ℕ) → last q t ≤ last z t
  unfolding last
  last_more q z h zero = omega arith
  last_more q z h (suc t) = by (q t) (z t) (h t) (last_more q z h t) (last_before q t)
    where
      by : (a b : Bool) → (a ≡ true → b ≡ true) → last q t ≤ last z t → last q t ≤ t → cond a t (last q t) ≤ cond b t (last z t)
      by true true k l e = omega arith
      by true false k l e = both false (k refl) refl
      by false true k l e = e
      by false false k l e = l

  -- a command that will be dropped began no later than the last redirect
  pub late : (t : ℕ) → Inv t → is_busy t ≡ true → r.dropped t ≡ true → start t ≤ quiet_since t
  late t i b d =
      let off : ltb (last f.fence t) (start t) ≡ false = not_true (ltb (last f.fence t) (start t)) (sym (i.drops b) ∙ d) in
      let before : start t ≤ last f.fence t = ltb_no (last f.fence t) (start t) off in
      let redirected = i.fences in
      let more : last f.redirect t ≤ quiet_since t = last_more f.redirect (is_taken_or_redirected f) (λ k e. or_true (f.take k) (f.redirect k) e) t in
      omega arith
    where
      or_true : (a b : Bool) → b ≡ true → (a || b) ≡ true
      or_true true b h = refl
      or_true false b h = h

  pub apart : (t : ℕ) → Phase t → (r.given t && r.owed t) ≡ false
  apart t (Rests g o w) = ap (λ b. b && r.owed t) g
  apart t (Asks g o w a) = λ i. g i && o i
  apart t (Waits c g o w a q) = ap (λ b. b && r.owed t) g

  module _ (m : IsCache lines words reset_pc predicts f ib r) (some_lines : 1 ≤ lines) (some_words : 1 ≤ words) (reset_whole : reset_pc % 4 ≡ 0) (is_predict : IsPredict predicts predict) where
    pub given_is : (s : ℕ) → is_given ib (suc s) ≡ r.given (suc s)
    unfolding is_given
    given_is s = ap (λ n. eqb n 1) (m.cmd_valid s) ∙ back (r.given (suc s))

    pub accepted_is : (s : ℕ) → is_accepted ib (suc s) ≡ (r.given (suc s) && eqb (ib.cmd_ready (suc s)) 1)
    unfolding is_accepted
    accepted_is s = ap (λ b. b && eqb (ib.cmd_ready (suc s)) 1) (given_is s)

    -- ---- in cycle 1
    first_phase : Phase 1
    unfolding owed is_accepted is_given
    first_phase = Rests m.given_reset m.owed_reset (none (eqb (ib.rsp_valid 0) 1))
      where
        none : (v : Bool) → ◌≡◌ {A = Option ℕ} (cond false (Some 0) (cond v None None)) None
        none true = refl
        none false = refl

    idle_at_first : {A : Type 0} → is_busy 1 ≡ true → A
    idle_at_first e = both (is_busy 1) e (λ i. m.given_reset i || m.owed_reset i)

    first_last : (q : ℕ → Bool) → last q 1 ≡ 0
    unfolding last
    first_last q = by (q 0)
      where
        by : (b : Bool) → ◌≡◌ {A = ℕ} (cond b 0 0) 0
        by true = refl
        by false = refl

    walks_at_first : walks 1 ≡ true
    walks_at_first = ap (λ z. ltb z lines) m.walk_reset ∙ lt-ltb 0 lines some_lines

    pub first : Inv 1
    unfolding owes_pc
    first = record {
      phase = first_phase;
      drops = λ e. idle_at_first e;
      clears = λ e b. idle_at_first b;
      swept = λ e i l. let z : r.walk 1 ≡ 0 = m.walk_reset in absurd (omega arith);
      held = λ e. both (walks 1) walks_at_first e;
      place = λ e. idle_at_first e;
      read = λ h. idle_at_first h.busy;
      wants = λ h. idle_at_first h.busy;
      caught = λ h. idle_at_first h.busy;
      captured = λ e. both (r.captured 1) e m.captured_reset;
      out = λ e. both (r.full 1) e m.full_reset;
      owes_out = λ e. both (r.full 1) e m.full_reset;
      owes_pc = λ e pc h. m.pc_reset ∙ some_same reset_pc pc h;
      follows = λ e. both (r.full 1) e m.full_reset;
      whole = ap (λ k. k % 4) m.pc_reset ∙ reset_whole;
      fences = rw (first_last f.fence, first_last f.redirect) (omega arith);
    }

    module _ (s : ℕ) (i : Inv (suc s)) (a : FetchAssumed f ib mem predicts predict s) where
      abbrev t : ℕ
      t = suc s

      abbrev g : Bool
      g = r.given t

      abbrev o : Bool
      o = r.owed t

      abbrev v : Bool
      v = eqb (ib.rsp_valid t) 1

      abbrev y : Bool
      y = eqb (ib.cmd_ready t) 1

      abbrev dr : Bool
      dr = r.dropped t

      abbrev la : Bool
      la = is_last lines words f ib r t

      abbrev fe : Bool
      fe = f.fence t

      abbrev off : Bool
      off = r.captured t || hits lines words f ib r t

      not_ready : (c : ℕ) → owed ib t ≡ Some c → y ≡ false
      not_ready c w = ap (λ k. eqb k 1) (subst (Responds fetch_reply ib mem t) w a.honest.responds).0

      abbrev ms : (g o : Bool) → Bool
      ms g o = ms_of g o (walks t) off (f.redirect t)

      phase_next : Phase (suc t)
      unfolding owed given_from start
      phase_next = by i.phase v y refl refl
        where
          none : (b : Bool) (q : Option ℕ) → q ≡ None → ◌≡◌ {A = Option ℕ} (cond b None q) None
          none true q h = refl
          none false q h = h

          rests : (b : Bool) → begins t ≡ b → g ≡ false → o ≡ false → owed ib t ≡ None → Phase (suc t)
          rests true be ge oe w =
              Asks (m.given s ∙ λ j. be j || (go t || (g && not y))) (m.owed s ∙ λ j. owed_of (ge j) (oe j) v y)
              ((λ j. cond ((accepted_is s ∙ λ j. ge j && y) j) (Some t) (cond v None (owed ib t))) ∙ none v (owed ib t) w)
              ((λ j. cond ((given_is s ∙ ge) j && not (is_accepted ib t)) (given_from ib t) (suc t)) ∙ λ j. cond (sym be j || go t) (suc t) (start t))
          rests false be ge oe w =
              Rests (m.given s ∙ λ j. given_of (be j) (goes_of (oe j) v dr la fe) (ge j) y) (m.owed s ∙ λ j. owed_of (ge j) (oe j) v y)
              ((λ j. cond ((accepted_is s ∙ λ j. ge j && y) j) (Some t) (cond v None (owed ib t))) ∙ none v (owed ib t) w)

          came : (c : ℕ) (b : Bool) → go t ≡ b → g ≡ false → o ≡ true → v ≡ true → owed ib t ≡ Some c → Phase (suc t)
          came c true be ge oe ve w =
              Asks (m.given s ∙ λ j. given_of (ms (ge j) (oe j)) (be j) (ge j) y) (m.owed s ∙ λ j. owed_of (ge j) (oe j) (ve j) y)
              (λ j. cond ((accepted_is s ∙ λ j. ge j && y) j) (Some t) (cond (ve j) None (owed ib t)))
              ((λ j. cond ((given_is s ∙ ge) j && not (is_accepted ib t)) (given_from ib t) (suc t)) ∙ λ j. cond (ms (sym ge j) (sym oe j) || sym be j) (suc t) (start t))
          came c false be ge oe ve w =
              Rests (m.given s ∙ λ j. given_of (ms (ge j) (oe j)) (be j) (ge j) y) (m.owed s ∙ λ j. owed_of (ge j) (oe j) (ve j) y)
              (λ j. cond ((accepted_is s ∙ λ j. ge j && y) j) (Some t) (cond (ve j) None (owed ib t)))

          by : Phase t → (bv b_y : Bool) → v ≡ bv → y ≡ b_y → Phase (suc t)
          by (Rests ge oe w) bv b_y ev ey = rests (begins t) refl ge oe w
          by (Asks ge oe w d) bv true ev ey =
              Waits t (m.given s ∙ λ j. given_of (ms (ge j) (oe j)) (goes_of (oe j) v dr la fe) (ge j) (ey j)) (m.owed s ∙ λ j. owed_of (ge j) (oe j) v (ey j))
              (λ j. cond ((accepted_is s ∙ λ j. ge j && ey j) j) (Some t) (cond v None (owed ib t)))
              (d ∙ λ j. cond (ms (sym ge j) (sym oe j) || goes_of (sym oe j) v dr la fe) (suc t) (start t))
              (m.cmd_addr s ∙ sym (λ j. address_of words
              ((m.line s ∙ λ j. cond (ms (ge j) (oe j)) (now t) (r.line t)) j)
              ((m.place s ∙ λ j. cond (ms (ge j) (oe j)) 0 (cond (goes_of (oe j) v dr la fe) (suc (r.place t)) (r.place t))) j)))
          by (Asks ge oe w d) bv false ev ey =
              Asks (m.given s ∙ λ j. given_of (ms (ge j) (oe j)) (goes_of (oe j) v dr la fe) (ge j) (ey j)) (m.owed s ∙ λ j. owed_of (ge j) (oe j) v (ey j))
              ((λ j. cond ((accepted_is s ∙ λ j. ge j && ey j) j) (Some t) (cond v None (owed ib t))) ∙ none v (owed ib t) w)
              ((λ j. cond ((given_is s ∙ ge) j && not ((accepted_is s ∙ λ j. ge j && ey j) j)) (given_from ib t) (suc t)) ∙ (d ∙ λ j. cond (ms (sym ge j) (sym oe j) || goes_of (sym oe j) v dr la fe) (suc t) (start t)))
          by (Waits c ge oe w d q) true b_y ev ey = came c (go t) refl ge oe ev w
          by (Waits c ge oe w d q) false b_y ev ey =
              Waits c (m.given s ∙ λ j. given_of (ms (ge j) (oe j)) (goes_of (oe j) (ev j) dr la fe) (ge j) y) (m.owed s ∙ λ j. owed_of (ge j) (oe j) (ev j) y)
              ((λ j. cond ((accepted_is s ∙ λ j. ge j && y) j) (Some t) (cond (ev j) None (owed ib t))) ∙ w)
              (d ∙ λ j. cond (ms (sym ge j) (sym oe j) || goes_of (sym oe j) (sym ev j) dr la fe) (suc t) (start t))
              (q ∙ sym (λ j. address_of words
              ((m.line s ∙ λ j. cond (ms (ge j) (oe j)) (now t) (r.line t)) j)
              ((m.place s ∙ λ j. cond (ms (ge j) (oe j)) 0 (cond (goes_of (oe j) (ev j) dr la fe) (suc (r.place t)) (r.place t))) j)))

      -- ---- what a cycle does
      busy_is : is_busy (suc t) ≡ (given_of (begins t) (go t) g y || owed_of g o v y)
      busy_is = λ j. m.given s j || m.owed s j

      fill_from : Fills (suc t) → (begins t ≡ true) ⊎ Stays (begins t) g o v dr fe la
      fill_from h = fill_next (begins t) g o v dr fe la y (apart t i.phase) (sym busy_is ∙ h.busy) (sym (m.dropped s) ∙ h.kept)

      fills : Stays (begins t) g o v dr fe la → Fills t
      fills h = record { busy = h.busy; kept = h.kept }

      fills_on : Fills t → fe ≡ false → finish t ≡ false → Fills (suc t)
      fills_on h e n = let k = fill_on (begins t) g o v dr fe la y h.busy h.kept e n in record { busy = busy_is ∙ k.0; kept = m.dropped s ∙ k.1 }

      fills_unmissed : Fills t → begins t ≡ false
      fills_unmissed h = no_miss g o (walks t) off (f.redirect t) h.busy

      unwalked : Fills t → walks t ≡ false
      unwalked h = by (walks t) refl
        where
          by : (b : Bool) → walks t ≡ b → walks t ≡ false
          by true e = both dr (i.clears e h.busy) h.kept
          by false e = e

      record Missed : Type 0 where
        idle : is_busy t ≡ false
        unwalked : walks t ≡ false
        uncaptured : r.captured t ≡ false
        unheld : hits lines words f ib r t ≡ false
        straight : f.redirect t ≡ false

      missed : begins t ≡ true → Missed
      missed e =
          let l = not_true (is_busy t || walks t) (and_l (looks lines words f ib r t) (not off && not (f.redirect t)) e) in
          let k = and_r (looks lines words f ib r t) (not off && not (f.redirect t)) e in
          let n = not_true off (and_l (not off) (not (f.redirect t)) k) in
          record {
            idle = or_l (is_busy t) (walks t) l;
            unwalked = or_r (is_busy t) (walks t) l;
            uncaptured = or_l (r.captured t) (hits lines words f ib r t) n;
            unheld = or_r (r.captured t) (hits lines words f ib r t) n;
            straight = not_true (f.redirect t) (and_r (not off) (not (f.redirect t)) k);
          }

      -- nothing moves where a command is at work
      busy_unmoved : is_busy t ≡ true → move t ≡ false
      busy_unmoved e = λ j. (not (e j || walks t) && off) && room lines words f ib r t

      missed_unmoved : begins t ≡ true → move t ≡ false
      missed_unmoved e =
          let h = missed e in
          (λ j. (looks lines words f ib r t && (h.uncaptured j || h.unheld j)) && room lines words f ib r t) ∙ no (looks lines words f ib r t) (room lines words f ib r t)
        where
          no : (x z : Bool) → ((x && false) && z) ≡ false
          no true z = refl
          no false z = refl

      pc_stays : f.redirect t ≡ false → move t ≡ false → r.pc (suc t) ≡ r.pc t
      pc_stays re me = m.pc s ∙ λ j. cond (re j) (f.redirect_pc t) (cond (me j) (guess predicts f r t) (r.pc t))

      straight_unfenced : f.redirect t ≡ false → fe ≡ false
      straight_unfenced re = by fe refl
        where
          by : (b : Bool) → fe ≡ b → fe ≡ false
          by true e = both (f.redirect t) (a.fences e) re
          by false e = e

      same_fence : fe ≡ false → last f.fence (suc t) ≡ last f.fence t
      unfolding last
      same_fence e = λ j. cond (e j) t (last f.fence t)

      walks_off : fe ≡ false → walks t ≡ false → walks (suc t) ≡ false
      walks_off e w = ap (λ z. ltb z lines) (m.walk s ∙ λ j. cond (e j) 0 (cond (w j) (suc (r.walk t)) (r.walk t))) ∙ w

      -- a response that is kept
      record Came : Type 0 where
        resting : g ≡ false
        owes : o ≡ true
        comes : v ≡ true
        kept : dr ≡ false
        cycle : ℕ
        after : last f.fence t < cycle
        before : cycle < t
        reply : FetchReply (word_at (mem cycle) (address t)) (ib.rsp_error t) (ib.rsp_data t)

      came : keep t ≡ true → Came
      came e = by i.phase
        where
          rsp : (o && v) ≡ true
          rsp = and_l (o && v) (not dr) e

          not_dropped : dr ≡ false
          not_dropped = not_true dr (and_r (o && v) (not dr) e)

          by : Phase t → Came
          by (Rests ge oe w) = both o (and_l o v rsp) oe
          by (Asks ge oe w d) = both o (and_l o v rsp) oe
          by (Waits c ge oe w d q) =
              let x = owed_since ib t c w in
              let reply = (subst (Responds fetch_reply ib mem t) w a.honest.responds).1 (same (ib.rsp_valid t) 1 (and_r o v rsp)) in
              let busy : is_busy t ≡ true = λ j. ge j || oe j in
              let begun : last f.fence t < start t = ltb-true _ _ (not_false (ltb (last f.fence t) (start t)) (sym (i.drops busy) ∙ not_dropped)) in
              let given : given_from ib c ≤ c = from_by_now ib c in
              let before : c < t = x.before in
              record {
                resting = ge;
                owes = oe;
                comes = and_r o v rsp;
                kept = not_dropped;
                cycle = c;
                after = omega arith;
                before = before;
                reply = subst (λ z. FetchReply (word_at (mem c) z) (ib.rsp_error t) (ib.rsp_data t)) q reply;
              }

      keep_fills : keep t ≡ true → Fills t
      keep_fills e = let h = came e in record { busy = λ j. h.resting j || h.owes j; kept = h.kept }

      -- ---- the command's rows
      drops_next : is_busy (suc t) ≡ true → r.dropped (suc t) ≡ not (ltb (last f.fence (suc t)) (start (suc t)))
      unfolding last start
      drops_next b = by (begins t) (go t) fe refl refl refl
        where
          fresh : r.dropped (suc t) ≡ false → (begins t || go t) ≡ true → r.dropped (suc t) ≡ not (ltb (cond fe t (last f.fence t)) (cond (begins t || go t) (suc t) (start t)))
          fresh d e = d ∙ sym ((λ j. not (ltb (cond fe t (last f.fence t)) (cond (e j) (suc t) (start t)))) ∙ ap not (lt-ltb (last f.fence (suc t)) (suc t) (let l = last_le f.fence t in omega arith)))

          no : (x : Bool) → (x && false) ≡ false
          no true = refl
          no false = refl

          yes : (x : Bool) → (x && true) ≡ x
          yes true = refl
          yes false = refl

          at_work : begins t ≡ false → go t ≡ false → (g || (o && not (o && v))) ≡ true
          at_work be ge = still_at_work g o v y ((λ j. given_of (sym be j) (sym ge j) g y || owed_of g o v y) ∙ (sym busy_is ∙ b))

          by : (bg gg fg : Bool) → begins t ≡ bg → go t ≡ gg → fe ≡ fg → r.dropped (suc t) ≡ not (ltb (cond fe t (last f.fence t)) (cond (begins t || go t) (suc t) (start t)))
          by true gg fg be ge ee =
              let h = missed be in
              fresh (m.dropped s ∙ ((λ j. (fe || dr) && (or_l g o h.idle j || (or_r g o h.idle j && not (or_r g o h.idle j && v)))) ∙ no (fe || dr))) (λ j. be j || go t)
          by false true fg be ge ee =
              let h = came (and_l (keep t) (not la && not fe) ge) in
              fresh (m.dropped s ∙ ((λ j. (fe || dr) && (h.resting j || (h.owes j && not (h.owes j && h.comes j)))) ∙ no (fe || dr))) (λ j. be j || ge j)
          by false false true be ge ee =
              (m.dropped s ∙ λ j. (ee j || dr) && at_work be ge j)
              ∙ sym ((λ j. not (ltb (cond (ee j) t (last f.fence t)) (cond (be j || ge j) (suc t) (start t)))) ∙ ap not (ltb_off t (start t) (start_le t)))
          by false false false be ge ee =
              (m.dropped s ∙ λ j. (ee j || dr) && at_work be ge j) ∙ (yes dr ∙ (i.drops (busy_next (begins t) g o v dr fe la y (sym busy_is ∙ b) be)
              ∙ λ j. not (ltb (cond (sym ee j) t (last f.fence t)) (cond (sym be j || sym ge j) (suc t) (start t)))))

      clears_next : walks (suc t) ≡ true → is_busy (suc t) ≡ true → r.dropped (suc t) ≡ true
      clears_next w b = by (r.dropped (suc t)) refl
        where
          from : (begins t ≡ true) ⊎ Stays (begins t) g o v dr fe la → r.dropped (suc t) ≡ true
          from (inl e) = let h = missed e in both (walks (suc t)) w (walks_off (straight_unfenced h.straight) h.unwalked)
          from (inr h) = both (walks (suc t)) w (walks_off h.unfenced (unwalked (fills h)))

          by : (c : Bool) → r.dropped (suc t) ≡ c → r.dropped (suc t) ≡ true
          by true e = e
          by false e = from (fill_from (record { busy = b; kept = e }))

      swept_next : walks (suc t) ≡ true → (k : ℕ) → k < r.walk (suc t) → r.tags (suc t) k ≡ None
      swept_next w k l = by fe (walks t) (eqb k (r.walk t)) refl refl refl
        where
          by : (fg wg eg : Bool) → fe ≡ fg → walks t ≡ wg → eqb k (r.walk t) ≡ eg → r.tags (suc t) k ≡ None
          by true wg eg ee we qe =
              let z : r.walk (suc t) ≡ 0 = m.walk s ∙ λ j. cond (ee j) 0 (cond (walks t) (suc (r.walk t)) (r.walk t)) in
              absurd (omega arith)
          by false true true ee we qe = m.tags s k ∙ λ j. cond (we j) (cond (qe j) None (r.tags t k)) (cond (finish t && eqb k (r.line t % lines)) (cond (now_bad lines words f ib r t) None (Some (r.line t))) (r.tags t k))
          by false true false ee we qe =
              let z : r.walk (suc t) ≡ suc (r.walk t) = m.walk s ∙ λ j. cond (ee j) 0 (cond (we j) (suc (r.walk t)) (r.walk t)) in
              let n = eqb-false k (r.walk t) qe in
              (m.tags s k ∙ λ j. cond (we j) (cond (qe j) None (r.tags t k)) (cond (finish t && eqb k (r.line t % lines)) (cond (now_bad lines words f ib r t) None (Some (r.line t))) (r.tags t k)))
              ∙ i.swept we k (less k (r.walk t) n (omega arith))
            where
              less : (x z : ℕ) → (x ≡ z → ⊥) → x ≤ z → x < z
              less x z n l = at_least (ltb x z) refl
                where
                  at_least : (c : Bool) → ltb x z ≡ c → x < z
                  at_least true e = ltb-true x z e
                  at_least false e = let h : z ≤ x = ltb_no x z e in absurd (n (omega arith))
          by false false eg ee we qe = both (walks (suc t)) w (walks_off ee we)

      -- ---- the words of the lines
      cell_old : (index k : ℕ) → (keep t ≡ true → index ≡ r.line t % lines → k ≡ r.place t → ⊥) → r.cells (suc t) index k ≡ r.cells t index k
      cell_old index k h = m.cells s index k ∙ by (keep t) (eqb index (r.line t % lines)) (eqb k (r.place t)) refl refl refl
        where
          by : (x z u : Bool) → keep t ≡ x → eqb index (r.line t % lines) ≡ z → eqb k (r.place t) ≡ u → cond (x && (z && u)) (ib.rsp_data t) (r.cells t index k) ≡ r.cells t index k
          by true true true xe ze ue = absurd (h xe (same _ _ ze) (same _ _ ue))
          by true true false xe ze ue = refl
          by true false u xe ze ue = refl
          by false z u xe ze ue = refl

      cell_new : keep t ≡ true → r.cells (suc t) (r.line t % lines) (r.place t) ≡ ib.rsp_data t
      cell_new e = m.cells s (r.line t % lines) (r.place t) ∙ λ j. cond (e j && (eq-eqb (r.line t % lines) (r.line t % lines) refl j && eq-eqb (r.place t) (r.place t) refl j)) (ib.rsp_data t) (r.cells t (r.line t % lines) (r.place t))

      held_on : fe ≡ false → (n k index : ℕ) → HeldIn t n k index → r.cells (suc t) index k ≡ r.cells t index k → HeldIn (suc t) n k index
      held_on e n k index h c = record {
        cycle = h.cycle;
        after = let q = same_fence e in let l : last f.fence t < h.cycle = h.after in omega arith;
        before = let l : h.cycle < t = h.before in omega arith;
        gives = h.gives ∙ ap Some (sym c);
      }

      held_new : fe ≡ false → keep t ≡ true → eqb (ib.rsp_error t) 1 ≡ false → HeldIn (suc t) (r.line t) (r.place t) (r.line t % lines)
      held_new e k n =
          let h = came k in
          record {
            cycle = h.cycle;
            after = let q = same_fence e in let l : last f.fence t < h.cycle = h.after in omega arith;
            before = let l : h.cycle < t = h.before in omega arith;
            gives = held_of (word_at (mem h.cycle) (address t)) (ib.rsp_error t) (ib.rsp_data t) h.reply n ∙ ap Some (sym (cell_new k));
          }

      line_on : begins t ≡ false → r.line (suc t) ≡ r.line t
      line_on e = m.line s ∙ λ j. cond (e j) (now t) (r.line t)

      place_begun : begins t ≡ true → r.place (suc t) ≡ 0
      place_begun e = m.place s ∙ λ j. cond (e j) 0 (cond (go t) (suc (r.place t)) (r.place t))

      place_gone : begins t ≡ false → go t ≡ true → r.place (suc t) ≡ suc (r.place t)
      place_gone e n = m.place s ∙ λ j. cond (e j) 0 (cond (n j) (suc (r.place t)) (r.place t))

      place_on : begins t ≡ false → go t ≡ false → r.place (suc t) ≡ r.place t
      place_on e n = m.place s ∙ λ j. cond (e j) 0 (cond (n j) (suc (r.place t)) (r.place t))

      place_next : is_busy (suc t) ≡ true → r.place (suc t) < words
      place_next h = by (begins t) (go t) refl refl
        where
          further : (suc (r.place t) ≡ words) ⊎ (suc (r.place t) < words) → (suc (r.place t) ≡ words → ⊥) → suc (r.place t) < words
          further (inl e) q = absurd (q e)
          further (inr l) q = l

          by : (bg gg : Bool) → begins t ≡ bg → go t ≡ gg → r.place (suc t) < words
          by true gg e k = let z = place_begun e in omega arith
          by false true e k =
              let z = place_gone e k in
              let n : la ≡ false = not_true la (and_l (not la) (not fe) (and_r (keep t) (not la && not fe) k)) in
              let l = further (Rattle.std.proofs.Common.eq-or-lt_of_le (i.place (busy_next (begins t) g o v dr fe la y (sym busy_is ∙ h) e))) (eqb-false (suc (r.place t)) words n) in
              omega arith
          by false false e k =
              let z = place_on e k in
              let l = i.place (busy_next (begins t) g o v dr fe la y (sym busy_is ∙ h) e) in
              omega arith

      bad_on : begins t ≡ false → keep t ≡ false → r.bad (suc t) ≡ r.bad t
      bad_on e k = m.bad s ∙ λ j. not (e j) && cond (k j) (now_bad lines words f ib r t) (r.bad t)

      bad_came : begins t ≡ false → keep t ≡ true → r.bad (suc t) ≡ now_bad lines words f ib r t
      bad_came e k = m.bad s ∙ λ j. not (e j) && cond (k j) (now_bad lines words f ib r t) (r.bad t)

      -- the words of the fill, with the one that comes
      read_more : fe ≡ false → Fills t → keep t ≡ true → now_bad lines words f ib r t ≡ false → (k : ℕ) → k ≤ r.place t → HeldIn (suc t) (r.line t) k (r.line t % lines)
      read_more e h c n k l = by (Rattle.std.proofs.Common.eq-or-lt_of_le l)
        where
          by : (k ≡ r.place t) ⊎ (k < r.place t) → HeldIn (suc t) (r.line t) k (r.line t % lines)
          by (inl q) = subst (λ z. HeldIn (suc t) (r.line t) z (r.line t % lines)) (sym q) (held_new e c (or_r (r.bad t) (eqb (ib.rsp_error t) 1) n))
          by (inr q) = held_on e (r.line t) k (r.line t % lines) (i.read h (or_l (r.bad t) (eqb (ib.rsp_error t) 1) n) k q) (cell_old (r.line t % lines) k (λ x z u. absurd (omega arith)))

      read_next : Fills (suc t) → r.bad (suc t) ≡ false → (k : ℕ) → k < r.place (suc t) → HeldIn (suc t) (r.line (suc t)) k (r.line (suc t) % lines)
      read_next h n k l = by (fill_from h)
        where
          by : (begins t ≡ true) ⊎ Stays (begins t) g o v dr fe la → HeldIn (suc t) (r.line (suc t)) k (r.line (suc t) % lines)
          by (inl e) = let z = place_begun e in absurd (omega arith)
          by (inr q) = subst (λ z. HeldIn (suc t) z k (z % lines)) (sym (line_on q.begins)) (on (keep t) refl)
            where
              on : (c : Bool) → keep t ≡ c → HeldIn (suc t) (r.line t) k (r.line t % lines)
              on true e =
                  let z = place_gone q.begins (q.goes ∙ e) in
                  read_more q.unfenced (fills q) e (sym (bad_came q.begins e) ∙ n) k (omega arith)
              on false e =
                  let z = place_on q.begins (q.goes ∙ e) in
                  held_on q.unfenced (r.line t) k (r.line t % lines) (i.read (fills q) (sym (bad_on q.begins e) ∙ n) k (omega arith)) (cell_old (r.line t % lines) k (λ x z u. both (keep t) x e))

      tag_on : (index : ℕ) → walks t ≡ false → (finish t ≡ true → index ≡ r.line t % lines → ⊥) → r.tags (suc t) index ≡ r.tags t index
      tag_on index w n = m.tags s index ∙ ((λ j. cond (w j) (cond (eqb index (r.walk t)) None (r.tags t index)) (cond (finish t && eqb index (r.line t % lines)) (cond (now_bad lines words f ib r t) None (Some (r.line t))) (r.tags t index)))
          ∙ by (finish t) (eqb index (r.line t % lines)) refl refl)
        where
          by : (x z : Bool) → finish t ≡ x → eqb index (r.line t % lines) ≡ z → cond (x && z) (cond (now_bad lines words f ib r t) None (Some (r.line t))) (r.tags t index) ≡ r.tags t index
          by true true xe ze = absurd (n xe (same _ _ ze))
          by true false xe ze = refl
          by false z xe ze = refl

      tag_ends : walks t ≡ false → finish t ≡ true → r.tags (suc t) (r.line t % lines) ≡ cond (now_bad lines words f ib r t) None (Some (r.line t))
      tag_ends w e = m.tags s (r.line t % lines)
          ∙ λ j. cond (w j) (cond (eqb (r.line t % lines) (r.walk t)) None (r.tags t (r.line t % lines))) (cond (e j && eq-eqb (r.line t % lines) (r.line t % lines) refl j) (cond (now_bad lines words f ib r t) None (Some (r.line t))) (r.tags t (r.line t % lines)))

      last_place : finish t ≡ true → suc (r.place t) ≡ words
      last_place e = same _ _ (and_r (keep t) la e)

      held_next : walks (suc t) ≡ false → (n : ℕ) → r.tags (suc t) (n % lines) ≡ Some n → (Fills (suc t) → r.line (suc t) % lines ≡ n % lines → ⊥) → (k : ℕ) → k < words → HeldIn (suc t) n k (n % lines)
      held_next w n tag free k l = by fe (walks t) refl refl
        where
          -- not walking, no fence
          idx_fills : Fills t → finish t ≡ false → fe ≡ false → r.line t % lines ≡ n % lines → ⊥
          idx_fills h e u q = free (fills_on h u e) (ap (λ z. z % lines) (line_on (fills_unmissed h)) ∙ q)

          old : walks t ≡ false → fe ≡ false → (Fills t → r.line t % lines ≡ n % lines → ⊥) → r.tags t (n % lines) ≡ Some n → HeldIn (suc t) n k (n % lines)
          old we ee apart tag = held_on ee n k (n % lines) (i.held we n tag apart k l) (cell_old (n % lines) k (λ ke ie pe. apart (keep_fills ke) (sym ie)))

          ended : walks t ≡ false → fe ≡ false → finish t ≡ true → HeldIn (suc t) n k (n % lines)
          ended we ee fn = on (eqb (n % lines) (r.line t % lines)) refl
            where
              fl : Fills t
              fl = keep_fills (and_l (keep t) la fn)

              new : n % lines ≡ r.line t % lines → (b : Bool) → now_bad lines words f ib r t ≡ b → HeldIn (suc t) n k (n % lines)
              new q true be = none_some n (r.tags (suc t) (n % lines)) (ap (r.tags (suc t)) q ∙ (tag_ends we fn ∙ λ j. cond (be j) None (Some (r.line t)))) tag
              new q false be =
                  let is : r.line t ≡ n = some_same (r.line t) n (sym (ap (r.tags (suc t)) q ∙ (tag_ends we fn ∙ λ j. cond (be j) None (Some (r.line t)))) ∙ tag) in
                  let full = last_place fn in
                  subst (λ z. HeldIn (suc t) z k (z % lines)) is (read_more ee fl (and_l (keep t) la fn) be k (omega arith))

              on : (b : Bool) → eqb (n % lines) (r.line t % lines) ≡ b → HeldIn (suc t) n k (n % lines)
              on true q = new (same _ _ q) (now_bad lines words f ib r t) refl
              on false q =
                  let ne = eqb-false _ _ q in
                  old we ee (λ h z. ne (sym z)) (sym (tag_on (n % lines) we (λ x z. ne z)) ∙ tag)

          unended : walks t ≡ false → fe ≡ false → finish t ≡ false → HeldIn (suc t) n k (n % lines)
          unended we ee fn = old we ee (λ h q. idx_fills h fn ee q) (sym (tag_on (n % lines) we (λ x z. both (finish t) x fn)) ∙ tag)

          swept : fe ≡ false → walks t ≡ true → HeldIn (suc t) n k (n % lines)
          swept ee we = none_some n (r.tags (suc t) (n % lines)) gone tag
            where
              z : r.walk (suc t) ≡ suc (r.walk t)
              z = m.walk s ∙ λ j. cond (ee j) 0 (cond (we j) (suc (r.walk t)) (r.walk t))

              over : lines ≤ r.walk (suc t)
              over = ltb_no _ _ w

              below : n % lines < lines
              below = Rattle.std.proofs.lemmas.Nat.mod_below n lines some_lines

              gone : r.tags (suc t) (n % lines) ≡ None
              gone = on (eqb (n % lines) (r.walk t)) refl
                where
                  is : (x : Bool) → eqb (n % lines) (r.walk t) ≡ x → r.tags (suc t) (n % lines) ≡ cond x None (r.tags t (n % lines))
                  is x q = m.tags s (n % lines) ∙ λ j. cond (we j) (cond (q j) None (r.tags t (n % lines))) (cond (finish t && eqb (n % lines) (r.line t % lines)) (cond (now_bad lines words f ib r t) None (Some (r.line t))) (r.tags t (n % lines)))

                  on : (x : Bool) → eqb (n % lines) (r.walk t) ≡ x → r.tags (suc t) (n % lines) ≡ None
                  on true q = is true q
                  on false q =
                      let a = z in
                      let b = over in
                      let c = below in
                      is false q ∙ i.swept we (n % lines) (order (Rattle.std.proofs.Common.eq-or-lt_of_le (most a b c)) (eqb-false _ _ q))
                    where
                      most : r.walk (suc t) ≡ suc (r.walk t) → lines ≤ r.walk (suc t) → n % lines < lines → n % lines ≤ r.walk t
                      most a b c = omega arith

                      order : (n % lines ≡ r.walk t) ⊎ (n % lines < r.walk t) → (n % lines ≡ r.walk t → ⊥) → n % lines < r.walk t
                      order (inl e) h = absurd (h e)
                      order (inr e) h = e

          by : (fg wg : Bool) → fe ≡ fg → walks t ≡ wg → HeldIn (suc t) n k (n % lines)
          by true wg ee we =
              let z : r.walk (suc t) ≡ 0 = m.walk s ∙ λ j. cond (ee j) 0 (cond (walks t) (suc (r.walk t)) (r.walk t)) in
              both (walks (suc t)) (ap (λ z. ltb z lines) z ∙ lt-ltb 0 lines some_lines) w
          by false true ee we = swept ee we
          by false false ee we = on (finish t) refl
            where
              on : (b : Bool) → finish t ≡ b → HeldIn (suc t) n k (n % lines)
              on true q = ended we ee q
              on false q = unended we ee q

      -- ---- the word that is waited for
      wanted_from : r.wanted (suc t) ≡ true → ((begins t || r.wanted t) ≡ true) × (f.redirect t ≡ false)
      wanted_from e =
          let q : ((begins t || r.wanted t) && not (f.redirect t)) ≡ true = sym (m.wanted s) ∙ e in
          (and_l _ _ q, not_true (f.redirect t) (and_r (begins t || r.wanted t) (not (f.redirect t)) q))

      wants_next : Fills (suc t) → r.wanted (suc t) ≡ true → r.line (suc t) ≡ now (suc t)
      wants_next h e = by (fill_from h)
        where
          w : ((begins t || r.wanted t) ≡ true) × (f.redirect t ≡ false)
          w = wanted_from e

          by : (begins t ≡ true) ⊎ Stays (begins t) g o v dr fe la → r.line (suc t) ≡ now (suc t)
          by (inl b) = (m.line s ∙ λ j. cond (b j) (now t) (r.line t)) ∙ sym (ap (line_of words) (pc_stays w.1 (missed_unmoved b)))
          by (inr q) =
              let was : r.wanted t ≡ true = (λ j. sym q.begins j || r.wanted t) ∙ w.0 in
              line_on q.begins ∙ (i.wants (fills q) was ∙ sym (ap (line_of words) (pc_stays w.1 (busy_unmoved q.busy))))

      -- what is captured so far, with the word that comes
      captured_on : fe ≡ false → r.pc (suc t) ≡ r.pc t → captures lines words f ib r t ≡ false → CapturedIn t → CapturedIn (suc t)
      captured_on e q c h = record {
        cycle = h.cycle;
        after = let q = same_fence e in let l : last f.fence t < h.cycle = h.after in omega arith;
        before = let l : h.cycle < t = h.before in omega arith;
        gives = gives_as (mem h.cycle) q (m.captured_error s ∙ λ j. cond (c j) (eqb (ib.rsp_error t) 1) (r.captured_error t)) (m.captured_word s ∙ λ j. cond (c j) (ib.rsp_data t) (r.captured_word t)) h.gives;
      }

      captured_new : fe ≡ false → r.pc (suc t) ≡ r.pc t → (k : keep t ≡ true) → r.line t ≡ now t → r.place t ≡ place_of words (r.pc t) → CapturedIn (suc t)
      captured_new e q k le pe =
          let h = came k in
          let c : captures lines words f ib r t ≡ true = λ j. k j && eq-eqb _ _ pe j in
          let addr : address t ≡ r.pc (suc t) = (λ j. address_of words (le j) (pe j)) ∙ (sym (addressed words (r.pc t) some_words i.whole) ∙ sym q) in
          record {
            cycle = h.cycle;
            after = let q = same_fence e in let l : last f.fence t < h.cycle = h.after in omega arith;
            before = let l : h.cycle < t = h.before in omega arith;
            gives = gives_as (mem h.cycle) (sym addr) (m.captured_error s ∙ λ j. cond (c j) (eqb (ib.rsp_error t) 1) (r.captured_error t)) (m.captured_word s ∙ λ j. cond (c j) (ib.rsp_data t) (r.captured_word t))
                (gives_of (mem h.cycle) (address t) (ib.rsp_error t) (ib.rsp_data t) h.reply);
          }

      caught_more : f.redirect t ≡ false → Fills t → r.wanted t ≡ true → keep t ≡ true → place_of words (r.pc t) ≤ r.place t → CapturedIn (suc t)
      caught_more re h w k l = by (eqb (r.place t) (place_of words (r.pc t))) refl
        where
          pe : r.pc (suc t) ≡ r.pc t
          pe = pc_stays re (busy_unmoved h.busy)

          ue : fe ≡ false
          ue = straight_unfenced re

          by : (b : Bool) → eqb (r.place t) (place_of words (r.pc t)) ≡ b → CapturedIn (suc t)
          by true q = captured_new ue pe k (i.wants h w) (same _ _ q)
          by false q = captured_on ue pe (λ j. k j && q j) (i.caught h w (order (Rattle.std.proofs.Common.eq-or-lt_of_le l)))
            where
              order : (place_of words (r.pc t) ≡ r.place t) ⊎ (place_of words (r.pc t) < r.place t) → place_of words (r.pc t) < r.place t
              order (inl e) = absurd (eqb-false _ _ q (sym e))
              order (inr e) = e

      caught_next : Fills (suc t) → r.wanted (suc t) ≡ true → place_of words (r.pc (suc t)) < r.place (suc t) → CapturedIn (suc t)
      caught_next h e l = by (fill_from h)
        where
          w : ((begins t || r.wanted t) ≡ true) × (f.redirect t ≡ false)
          w = wanted_from e

          by : (begins t ≡ true) ⊎ Stays (begins t) g o v dr fe la → CapturedIn (suc t)
          by (inl b) = let z = place_begun b in absurd (omega arith)
          by (inr q) = on (keep t) refl
            where
              was : r.wanted t ≡ true
              was = (λ j. sym q.begins j || r.wanted t) ∙ w.0

              pe : r.pc (suc t) ≡ r.pc t
              pe = pc_stays w.1 (busy_unmoved q.busy)

              ple : place_of words (r.pc (suc t)) ≡ place_of words (r.pc t)
              ple = ap (place_of words) pe

              on : (c : Bool) → keep t ≡ c → CapturedIn (suc t)
              on true k = let z = place_gone q.begins (q.goes ∙ k) in let x = ple in caught_more w.1 (fills q) was k (omega arith)
              on false k = let z = place_on q.begins (q.goes ∙ k) in let x = ple in captured_on q.unfenced pe (λ j. k j && eqb (r.place t) (place_of words (r.pc t))) (i.caught (fills q) was (omega arith))

      not_busy_next : is_busy t ≡ false → begins t ≡ false → is_busy (suc t) ≡ false
      not_busy_next b e = by (is_busy (suc t)) refl
        where
          by : (c : Bool) → is_busy (suc t) ≡ c → is_busy (suc t) ≡ false
          by true q = both (is_busy t) (busy_next (begins t) g o v dr fe la y (sym busy_is ∙ q) e) b
          by false q = q

      no_keep : is_busy t ≡ false → keep t ≡ false
      no_keep b = λ j. (or_r g o b j && v) && not dr

      caught_unmissed : r.captured t ≡ true → begins t ≡ false
      caught_unmissed e = (λ j. looks lines words f ib r t && (not (e j || hits lines words f ib r t) && not (f.redirect t))) ∙ no (looks lines words f ib r t)
        where
          no : (x : Bool) → (x && false) ≡ false
          no true = refl
          no false = refl

      captured_next : r.captured (suc t) ≡ true → (is_busy (suc t) ≡ false) × (walks (suc t) ≡ false) × CapturedIn (suc t)
      captured_next e = by (or_yes (finish t && (r.wanted t && now_bad lines words f ib r t)) (r.captured t && not (move t)) (and_l _ _ q))
        where
          q : (((finish t && (r.wanted t && now_bad lines words f ib r t)) || (r.captured t && not (move t))) && not (f.redirect t)) ≡ true
          q = sym (m.captured s) ∙ e

          re : f.redirect t ≡ false
          re = not_true (f.redirect t) (and_r ((finish t && (r.wanted t && now_bad lines words f ib r t)) || (r.captured t && not (move t))) (not (f.redirect t)) q)

          by : ((finish t && (r.wanted t && now_bad lines words f ib r t)) ≡ true) ⊎ ((r.captured t && not (move t)) ≡ true) → (is_busy (suc t) ≡ false) × (walks (suc t) ≡ false) × CapturedIn (suc t)
          by (inl h) =
              let fn = and_l (finish t) (r.wanted t && now_bad lines words f ib r t) h in
              let w = and_l (r.wanted t) (now_bad lines words f ib r t) (and_r (finish t) (r.wanted t && now_bad lines words f ib r t) h) in
              let k = and_l (keep t) la fn in
              let fl = keep_fills k in
              let full = last_place fn in
              let below = place_less words (r.pc t) some_words in (
                busy_is ∙ ((λ j. given_of (fills_unmissed fl j) (go t) g y || owed_of g o v y) ∙ end_next g o v dr fe la y (apart t i.phase) fn),
                walks_off (straight_unfenced re) (unwalked fl),
                caught_more re fl w k (omega arith),
              )
          by (inr h) =
              let was = and_l (r.captured t) (not (move t)) h in
              let me = not_true (move t) (and_r (r.captured t) (not (move t)) h) in
              let c = i.captured was in (
                not_busy_next c.0 (caught_unmissed was),
                walks_off (straight_unfenced re) c.1,
                captured_on (straight_unfenced re) (pc_stays re me) (λ j. no_keep c.0 j && eqb (r.place t) (place_of words (r.pc t))) c.2,
              )

      -- ---- the item
      record Found : Type 0 where
        cycle : ℕ
        after : last f.fence t < cycle
        before : cycle < t
        gives : FetchedFrom (mem cycle) (r.pc t) (fetched_as (error_found lines words f ib r t) (word_found lines words f ib r t))

      found : finds lines words f ib r t ≡ true → Found
      found e = by (r.captured t) refl
        where
          le : (is_busy t || walks t) ≡ false
          le = not_true (is_busy t || walks t) (and_l (looks lines words f ib r t) off e)

          by : (c : Bool) → r.captured t ≡ c → Found
          by true ce =
              let h = (i.captured ce).2 in
              record {
                cycle = h.cycle;
                after = h.after;
                before = h.before;
                gives = subst (λ z. FetchedFrom (mem h.cycle) (r.pc t) (fetched_as (z && r.captured_error t) (cond z (r.captured_word t) (r.cells t (now t % lines) (place_of words (r.pc t)))))) (sym ce) h.gives;
              }
          by false ce =
              let hit : hits lines words f ib r t ≡ true = (λ j. sym ce j || hits lines words f ib r t) ∙ and_r (looks lines words f ib r t) off e in
              let h = i.held (or_r (is_busy t) (walks t) le) (now t) (is_line_true _ _ hit) (λ b. both (is_busy t) b.busy (or_l (is_busy t) (walks t) le)) (place_of words (r.pc t)) (place_less words (r.pc t) some_words) in
              record {
                cycle = h.cycle;
                after = h.after;
                before = h.before;
                gives = subst (λ z. FetchedFrom (mem h.cycle) (r.pc t) (fetched_as (z && r.captured_error t) (cond z (r.captured_word t) (r.cells t (now t % lines) (place_of words (r.pc t)))))) (sym ce)
                    (ap (word_at (mem h.cycle)) (addressed words (r.pc t) some_words i.whole) ∙ h.gives);
              }

      move_finds : move t ≡ true → finds lines words f ib r t ≡ true
      move_finds e = and_l (finds lines words f ib r t) (room lines words f ib r t) e

      -- what is offered next: an item that moves, or the same
      data Full : Type 0 where
        Moves : f.redirect t ≡ false → move t ≡ true → room lines words f ib r t ≡ true → Full
        Keeps : f.redirect t ≡ false → move t ≡ false → r.full t ≡ true → f.take t ≡ false → room lines words f ib r t ≡ false → Full

      full_from : r.full (suc t) ≡ true → Full
      full_from e = by (move t) refl
        where
          q : (not (f.redirect t) && (move t || (r.full t && not (f.take t)))) ≡ true
          q = sym (m.full s) ∙ e

          re : f.redirect t ≡ false
          re = not_true (f.redirect t) (and_l (not (f.redirect t)) (move t || (r.full t && not (f.take t))) q)

          by : (c : Bool) → move t ≡ c → Full
          by true me = Moves re me (and_r (finds lines words f ib r t) (room lines words f ib r t) me)
          by false me =
              let k : (r.full t && not (f.take t)) ≡ true = (λ j. sym me j || (r.full t && not (f.take t))) ∙ and_r (not (f.redirect t)) (move t || (r.full t && not (f.take t))) q in
              let fu = and_l (r.full t) (not (f.take t)) k in
              let te = not_true (f.take t) (and_r (r.full t) (not (f.take t)) k) in
              Keeps re me fu te (λ j. not (fu j) || te j)

      out_next : r.full (suc t) ≡ true → IsTrueSince mem (last f.fence (suc t)) (suc t) (r.out_pc (suc t)) (r.out_error (suc t)) (r.out_word (suc t))
      out_next e = by (full_from e)
        where
          by : Full → IsTrueSince mem (last f.fence (suc t)) (suc t) (r.out_pc (suc t)) (r.out_error (suc t)) (r.out_word (suc t))
          by (Moves re me ro) =
              let h = found (move_finds me) in
              record {
                cycle = h.cycle;
                after = let q = same_fence (straight_unfenced re) in let l : last f.fence t < h.cycle = h.after in omega arith;
                before = let l : h.cycle < t = h.before in omega arith;
                gives = gives_as (mem h.cycle) (m.out_pc s ∙ λ j. cond (ro j) (r.pc t) (r.out_pc t)) (m.out_error s ∙ λ j. cond (ro j) (error_found lines words f ib r t) (r.out_error t)) (m.out_word s ∙ λ j. cond (ro j) (word_found lines words f ib r t) (r.out_word t)) h.gives;
              }
          by (Keeps re me fu te ro) =
              let h = i.out fu in
              record {
                cycle = h.cycle;
                after = let q = same_fence (straight_unfenced re) in let l : last f.fence t < h.cycle = h.after in omega arith;
                before = let l : h.cycle < t = h.before in omega arith;
                gives = gives_as (mem h.cycle) (m.out_pc s ∙ λ j. cond (ro j) (r.pc t) (r.out_pc t)) (m.out_error s ∙ λ j. cond (ro j) (error_found lines words f ib r t) (r.out_error t)) (m.out_word s ∙ λ j. cond (ro j) (word_found lines words f ib r t) (r.out_word t)) h.gives;
              }

      next_is : guess predicts f r t ≡ predict (r.pc t) (word_found lines words f ib r t)
      next_is = by predicts refl is_predict
        where
          by : (b : Bool) → predicts ≡ b → IsPredict b predict → cond predicts (f.answered t) (behind (r.pc t)) ≡ predict (r.pc t) (word_found lines words f ib r t)
          by true e h = (λ j. cond (e j) (f.answered t) (behind (r.pc t))) ∙ (a.predicted e ∙ λ j. predict ((m.asks e s).0 j) ((m.asks e s).1 j))
          by false e h = (λ j. cond (e j) (f.answered t) (behind (r.pc t))) ∙ sym (h (r.pc t) (word_found lines words f ib r t))

      taken_full : f.take t ≡ true → r.full t ≡ true
      taken_full e = sym (m.valid s) ∙ a.takes e

      -- what is owed after a take is the pc that is looked up
      taken_owes : f.take t ≡ true → f.redirect t ≡ false → (pc : ℕ) → owes_pc f predict reset_pc (suc t) ≡ Some pc → r.pc t ≡ pc
      unfolding owes_pc
      taken_owes te re pc e = by (f.error t) refl
        where
          q : next_of predict (f.error t) (f.pc t) (f.word t) ≡ Some pc
          q = (λ j. cond (sym re j) (Some (f.redirect_pc t)) (cond (sym te j) (next_of predict (f.error t) (f.pc t) (f.word t)) (owes_pc f predict reset_pc t))) ∙ e

          by : (c : Bool) → f.error t ≡ c → r.pc t ≡ pc
          by true ee = none_some pc (next_of predict (f.error t) (f.pc t) (f.word t)) (λ j. next_of predict (ee j) (f.pc t) (f.word t)) q
          by false ee =
              i.follows (taken_full te) (sym (m.item_error s) ∙ ee)
              ∙ some_same _ pc ((λ j. next_of predict (sym ee j) (sym (m.item_pc s) j) (sym (m.item_word s) j)) ∙ q)

      kept_owes : f.take t ≡ false → f.redirect t ≡ false → (pc : ℕ) → owes_pc f predict reset_pc (suc t) ≡ Some pc → owes_pc f predict reset_pc t ≡ Some pc
      unfolding owes_pc
      kept_owes te re pc e = (λ j. cond (sym re j) (Some (f.redirect_pc t)) (cond (sym te j) (next_of predict (f.error t) (f.pc t) (f.word t)) (owes_pc f predict reset_pc t))) ∙ e

      -- the pc that is looked up is the one that is owed, where the output is free
      looked_owes : f.redirect t ≡ false → (f.take t ≡ false → r.full t ≡ false) → (pc : ℕ) → owes_pc f predict reset_pc (suc t) ≡ Some pc → r.pc t ≡ pc
      looked_owes re free pc e = by (f.take t) refl
        where
          by : (c : Bool) → f.take t ≡ c → r.pc t ≡ pc
          by true te = taken_owes te re pc e
          by false te = i.owes_pc (free te) pc (kept_owes te re pc e)

      owes_out_next : r.full (suc t) ≡ true → (pc : ℕ) → owes_pc f predict reset_pc (suc t) ≡ Some pc → r.out_pc (suc t) ≡ pc
      owes_out_next e pc q = by (full_from e)
        where
          by : Full → r.out_pc (suc t) ≡ pc
          by (Moves re me ro) = (m.out_pc s ∙ λ j. cond (ro j) (r.pc t) (r.out_pc t)) ∙ looked_owes re (λ te. free (r.full t) (f.take t) ro te) pc q
            where
              free : (x z : Bool) → (not x || z) ≡ true → z ≡ false → x ≡ false
              free true true h k = absurd (grind arith)
              free true false h k = absurd (grind arith)
              free false z h k = refl
          by (Keeps re me fu te ro) = (m.out_pc s ∙ λ j. cond (ro j) (r.pc t) (r.out_pc t)) ∙ i.owes_out fu pc (kept_owes te re pc q)

      owes_pc_next : r.full (suc t) ≡ false → (pc : ℕ) → owes_pc f predict reset_pc (suc t) ≡ Some pc → r.pc (suc t) ≡ pc
      unfolding owes_pc
      owes_pc_next e pc q = by (f.redirect t) refl
        where
          by : (c : Bool) → f.redirect t ≡ c → r.pc (suc t) ≡ pc
          by true re =
              (m.pc s ∙ λ j. cond (re j) (f.redirect_pc t) (cond (move t) (guess predicts f r t) (r.pc t)))
              ∙ some_same _ pc ((λ j. cond (sym re j) (Some (f.redirect_pc t)) (cond (f.take t) (next_of predict (f.error t) (f.pc t) (f.word t)) (owes_pc f predict reset_pc t))) ∙ q)
          by false re =
              let n : (move t || (r.full t && not (f.take t))) ≡ false = (λ j. not (sym re j) && (move t || (r.full t && not (f.take t)))) ∙ (sym (m.full s) ∙ e) in
              pc_stays re (or_l (move t) (r.full t && not (f.take t)) n) ∙ looked_owes re (λ te. free (r.full t) (f.take t) (or_r (move t) (r.full t && not (f.take t)) n) te) pc q
            where
              free : (x z : Bool) → (x && not z) ≡ false → z ≡ false → x ≡ false
              free true true h k = absurd (grind arith)
              free true false h k = absurd (grind arith)
              free false z h k = refl

      follows_next : r.full (suc t) ≡ true → r.out_error (suc t) ≡ false → r.pc (suc t) ≡ predict (r.out_pc (suc t)) (r.out_word (suc t))
      follows_next e q = by (full_from e)
        where
          by : Full → r.pc (suc t) ≡ predict (r.out_pc (suc t)) (r.out_word (suc t))
          by (Moves re me ro) =
              (m.pc s ∙ λ j. cond (re j) (f.redirect_pc t) (cond (me j) (guess predicts f r t) (r.pc t))) ∙ (next_is
              ∙ λ j. predict (sym (m.out_pc s ∙ λ j. cond (ro j) (r.pc t) (r.out_pc t)) j) (sym (m.out_word s ∙ λ j. cond (ro j) (word_found lines words f ib r t) (r.out_word t)) j))
          by (Keeps re me fu te ro) =
              pc_stays re me ∙ (i.follows fu (sym (m.out_error s ∙ λ j. cond (ro j) (error_found lines words f ib r t) (r.out_error t)) ∙ q)
              ∙ λ j. predict (sym (m.out_pc s ∙ λ j. cond (ro j) (r.pc t) (r.out_pc t)) j) (sym (m.out_word s ∙ λ j. cond (ro j) (word_found lines words f ib r t) (r.out_word t)) j))

      whole_next : r.pc (suc t) % 4 ≡ 0
      whole_next = ap (λ k. k % 4) (m.pc s) ∙ by (f.redirect t) (move t) refl
        where
          by : (rd mv : Bool) → f.redirect t ≡ rd → cond rd (f.redirect_pc t) (cond mv (guess predicts f r t) (r.pc t)) % 4 ≡ 0
          by true mv re = a.whole
          by false true re = ap (λ k. k % 4) next_is ∙ predict_whole predicts predict is_predict (r.pc t) (word_found lines words f ib r t) i.whole
          by false false re = i.whole

      fences_next : last f.fence (suc t) ≤ last f.redirect (suc t)
      unfolding last
      fences_next = by (f.fence t) (f.redirect t) a.fences
        where
          earlier : last f.fence t ≤ s
          earlier = last_le f.fence s

          by : (fg rd : Bool) → (fg ≡ true → rd ≡ true) → cond fg t (last f.fence t) ≤ cond rd t (last f.redirect t)
          by true true h = omega arith
          by true false h = both false (h refl) refl
          by false true h = let l = earlier in omega arith
          by false false h = i.fences

      pub next : Inv (suc t)
      next = record {
        phase = phase_next;
        drops = drops_next;
        clears = clears_next;
        swept = swept_next;
        held = held_next;
        place = place_next;
        read = read_next;
        wants = wants_next;
        caught = caught_next;
        captured = captured_next;
        out = out_next;
        owes_out = owes_out_next;
        owes_pc = owes_pc_next;
        follows = follows_next;
        whole = whole_next;
        fences = fences_next;
      }

      -- ---- time
      module _ (w n : ℕ) (within : InTime ib w n) (l : t ≤ n) (x : Early w t) where
        abbrev ev : Bool
        ev = is_taken_or_redirected f t

        abbrev u : ℕ
        u = quiet_since t

        since_now : ev ≡ true → quiet_since (suc t) ≡ t
        unfolding last
        since_now e = λ j. cond (e j) t (quiet_since t)

        since_before : ev ≡ false → quiet_since (suc t) ≡ u
        unfolding last
        since_before e = λ j. cond (e j) t (quiet_since t)

        since_mono : u ≤ quiet_since (suc t)
        unfolding last
        since_mono = by ev (last_before (is_taken_or_redirected f) t)
          where
            by : (c : Bool) → last (is_taken_or_redirected f) t ≤ t → last (is_taken_or_redirected f) t ≤ cond c t (last (is_taken_or_redirected f) t)
            by true h = h
            by false h = omega arith

        redirected : f.redirect t ≡ true → ev ≡ true
        redirected e = by (f.take t)
          where
            by : (c : Bool) → (c || f.redirect t) ≡ true
            by true = refl
            by false = e

        taken : f.take t ≡ true → ev ≡ true
        taken e = λ j. e j || f.redirect t

        timely : is_busy t ≡ true → t ≤ start t + 2 * w
        timely b = in_time w n t within l (given_is s) i.phase b

        begun_on : begins t ≡ false → begun (suc t) ≡ begun t
        unfolding begun
        begun_on e = λ j. cond (e j) (suc t) (begun t)

        begun_now : begins t ≡ true → begun (suc t) ≡ suc t
        unfolding begun
        begun_now e = λ j. cond (e j) (suc t) (begun t)

        start_begun : begins t ≡ true → start (suc t) ≡ suc t
        unfolding start
        start_begun e = λ j. cond (e j || go t) (suc t) (start t)

        start_gone : begins t ≡ false → go t ≡ true → start (suc t) ≡ suc t
        unfolding start
        start_gone e k = λ j. cond (e j || k j) (suc t) (start t)

        start_on : begins t ≡ false → go t ≡ false → start (suc t) ≡ start t
        unfolding start
        start_on e k = λ j. cond (e j || k j) (suc t) (start t)

        paced_next : Fills (suc t) → start (suc t) ≤ begun (suc t) + span (r.place (suc t)) w
        paced_next h = by (fill_from h)
          where
            by : (begins t ≡ true) ⊎ Stays (begins t) g o v dr fe la → start (suc t) ≤ begun (suc t) + span (r.place (suc t)) w
            by (inl e) = let a = start_begun e in let b = begun_now e in omega arith
            by (inr q) = on (go t) refl
              where
                on : (c : Bool) → go t ≡ c → start (suc t) ≤ begun (suc t) + span (r.place (suc t)) w
                on true k =
                    let a = start_gone q.begins k in
                    let b = begun_on q.begins in
                    let c : span (r.place (suc t)) w ≡ span (suc (r.place t)) w = ap (λ z. span z w) (place_gone q.begins k) in
                    let d = span_more (r.place t) w in
                    let e = x.paced (fills q) in
                    let f = timely q.busy in
                    omega arith
                on false k =
                    let a = start_on q.begins k in
                    let b = begun_on q.begins in
                    let c : span (r.place (suc t)) w ≡ span (r.place t) w = ap (λ z. span z w) (place_on q.begins k) in
                    let e = x.paced (fills q) in
                    omega arith

        sweeps_next : walks (suc t) ≡ true → suc t ≤ quiet_since (suc t) + r.walk (suc t) + 1
        sweeps_next e = by fe ev (walks t) refl refl refl
          where
            by : (fg eg wg : Bool) → fe ≡ fg → ev ≡ eg → walks t ≡ wg → suc t ≤ quiet_since (suc t) + r.walk (suc t) + 1
            by fg true wg ee ve we = let a = since_now ve in omega arith
            by true false wg ee ve we = both ev (redirected (a.fences ee)) ve
            by false false true ee ve we =
                let z : r.walk (suc t) ≡ suc (r.walk t) = m.walk s ∙ λ j. cond (ee j) 0 (cond (we j) (suc (r.walk t)) (r.walk t)) in
                let b = since_before ve in
                let c = x.sweeps we in
                omega arith
            by false false false ee ve we = both (walks (suc t)) e (walks_off ee we)

        old_next : Fills (suc t) → r.wanted (suc t) ≡ false → begun (suc t) ≤ quiet_since (suc t)
        old_next h e = by (f.redirect t) refl (fill_from h)
          where
            by : (c : Bool) → f.redirect t ≡ c → (begins t ≡ true) ⊎ Stays (begins t) g o v dr fe la → begun (suc t) ≤ quiet_since (suc t)
            by true re (inl b) = both (f.redirect t) re (missed b).straight
            by true re (inr q) = let a = begun_on q.begins in let b = since_now (redirected re) in let c = begun_le t in omega arith
            by false re (inl b) = both (r.wanted (suc t)) (m.wanted s ∙ λ j. (b j || r.wanted t) && not (re j)) e
            by false re (inr q) =
                let was : r.wanted t ≡ false = sym (yes (r.wanted t)) ∙ ((λ j. (sym q.begins j || r.wanted t) && not (sym re j)) ∙ (sym (m.wanted s) ∙ e)) in
                let a = begun_on q.begins in
                let b = x.old (fills q) was in
                let c = since_mono in
                omega arith
              where
                yes : (z : Bool) → (z && true) ≡ z
                yes true = refl
                yes false = refl

        -- without a take or a redirect what is offered stays
        was_empty : ev ≡ false → r.full (suc t) ≡ false → r.full t ≡ false
        was_empty ve e = by (r.full t) refl
          where
            yes : (z : Bool) → (z || true) ≡ true
            yes true = refl
            yes false = refl

            by : (c : Bool) → r.full t ≡ c → r.full t ≡ false
            by true q = both (r.full (suc t)) (m.full s ∙ ((λ j. not (or_r (f.take t) (f.redirect t) ve j) && (move t || (q j && not (or_l (f.take t) (f.redirect t) ve j)))) ∙ yes (move t))) e
            by false q = q

        -- a search that fails begins a fill, and one that does not is over
        searched : ev ≡ false → r.full (suc t) ≡ false → looks lines words f ib r t ≡ true → (finds lines words f ib r t ≡ false) × (begins t ≡ true)
        searched ve e le = by off refl
          where
            by : (c : Bool) → off ≡ c → (finds lines words f ib r t ≡ false) × (begins t ≡ true)
            by true q =
                let me : move t ≡ true = λ j. (le j && q j) && (not (was_empty ve e j) || f.take t) in
                both (r.full (suc t)) (m.full s ∙ λ j. not (or_r (f.take t) (f.redirect t) ve j) && (me j || (r.full t && not (f.take t)))) e
            by false q = ((λ j. le j && q j), (λ j. le j && (not (q j) && not (or_r (f.take t) (f.redirect t) ve j))))

        fresh_next : r.full (suc t) ≡ false → Fills (suc t) → r.wanted (suc t) ≡ true → begun (suc t) ≤ quiet_since (suc t) + search_time w + 1
        fresh_next fu h e = by ev refl (fill_from h)
          where
            by : (c : Bool) → ev ≡ c → (begins t ≡ true) ⊎ Stays (begins t) g o v dr fe la → begun (suc t) ≤ quiet_since (suc t) + search_time w + 1
            by true ve q = let a = since_now ve in let b = begun_le (suc t) in omega arith
            by false ve (inl b) =
                let le = and_l (looks lines words f ib r t) (not off && not (f.redirect t)) b in
                let a = begun_now b in
                let c = since_before ve in
                let d = soon (x.looking (was_empty ve fu) le) (searched ve fu le).0 in
                omega arith
              where
                soon : (t ≤ u + search_time w) ⊎ ((t ≤ u + whole_time w) × (finds lines words f ib r t ≡ true)) → finds lines words f ib r t ≡ false → t ≤ u + search_time w
                soon (inl z) h = z
                soon (inr z) h = both (finds lines words f ib r t) z.1 h
            by false ve (inr q) =
                let was : r.wanted t ≡ true = (λ j. sym q.begins j || r.wanted t) ∙ (wanted_from e).0 in
                let a = begun_on q.begins in
                let c = since_before ve in
                let d = x.fresh (was_empty ve fu) (fills q) was in
                omega arith

        -- a fill ends in time
        filled : Fills t → finish t ≡ true → suc t ≤ begun t + span words w
        filled h e =
            let a = x.paced h in
            let b = timely h.busy in
            let c : span (suc (r.place t)) w ≡ span words w = ap (λ z. span z w) (last_place e) in
            let d = span_more (r.place t) w in
            omega arith

        -- and what waited for it finds it
        finds_filled : f.redirect t ≡ false → Fills t → finish t ≡ true → r.wanted t ≡ true → looks lines words f ib r (suc t) ≡ true → finds lines words f ib r (suc t) ≡ true
        finds_filled re h e wa le = λ j. le j && there (now_bad lines words f ib r t) refl j
          where
            or_true : (a b : Bool) → b ≡ true → (a || b) ≡ true
            or_true true b h = refl
            or_true false b h = h

            there : (c : Bool) → now_bad lines words f ib r t ≡ c → (r.captured (suc t) || hits lines words f ib r (suc t)) ≡ true
            there true be = λ j. (m.captured s ∙ λ j. ((e j && (wa j && be j)) || (r.captured t && not (move t))) && not (re j)) j || hits lines words f ib r (suc t)
            there false be =
                let q : now (suc t) ≡ r.line t = ap (line_of words) (pc_stays re (busy_unmoved h.busy)) ∙ sym (i.wants h wa) in
                or_true (r.captured (suc t)) (hits lines words f ib r (suc t))
                (is_line_of _ _ (ap (λ z. r.tags (suc t) (z % lines)) q ∙ (tag_ends (unwalked h) e ∙ ((λ j. cond (be j) None (Some (r.line t))) ∙ ap Some (sym q)))))

        least_span : 2 * w + 1 ≤ span words w
        least_span = let a = span_mono 1 words w some_words in omega arith

        abbrev Goal : Type 0
        Goal = (suc t ≤ quiet_since (suc t) + search_time w) ⊎ ((suc t ≤ quiet_since (suc t) + whole_time w) × (finds lines words f ib r (suc t) ≡ true))

        looking_next : r.full (suc t) ≡ false → looks lines words f ib r (suc t) ≡ true → (suc t ≤ quiet_since (suc t) + search_time w) ⊎ ((suc t ≤ quiet_since (suc t) + whole_time w) × (finds lines words f ib r (suc t) ≡ true))
        looking_next fu le = by ev refl
          where
            free : (is_busy (suc t) || walks (suc t)) ≡ false
            free = not_true (is_busy (suc t) || walks (suc t)) le

            idle : is_busy (suc t) ≡ false
            idle = or_l (is_busy (suc t)) (walks (suc t)) free

            by_fill : ev ≡ false → Fills t → (c b : Bool) → finish t ≡ c → r.wanted t ≡ b → Goal
            by_fill ve h true true e wa =
                let a = filled h e in
                let b = x.fresh (was_empty ve fu) h wa in
                let c = since_before ve in
                inr ((omega arith), finds_filled (or_r (f.take t) (f.redirect t) ve) h e wa le)
            by_fill ve h true false e wa =
                let a = filled h e in
                let b = x.old h wa in
                let c = since_before ve in
                inl (omega arith)
            by_fill ve h false b e wa = both (is_busy (suc t)) (fills_on h (straight_unfenced (or_r (f.take t) (f.redirect t) ve)) e).busy idle

            by_busy : ev ≡ false → is_busy t ≡ true → (c : Bool) → dr ≡ c → Goal
            by_busy ve b true de =
                let a = late t i b de in
                let c = timely b in
                let d = since_before ve in
                let e = least_span in
                inl (omega arith)
            by_busy ve b false de = by_fill ve (record { busy = b; kept = de }) (finish t) (r.wanted t) refl refl

            by_look : ev ≡ false → (c z : Bool) → is_busy t ≡ c → walks t ≡ z → Goal
            by_look ve true z b we = by_busy ve b dr refl
            by_look ve false true b we =
                let a = x.sweeps we in
                let c = since_before ve in
                let d : r.walk t < lines = ltb-true _ _ we in
                inl (omega arith)
            by_look ve false false b we =
                let h : begins t ≡ true = (searched ve fu (λ j. not (b j || we j))).1 in
                both (is_busy (suc t)) ((λ j. m.given s j || r.owed (suc t)) ∙ λ j. (h j || (go t || (g && not y))) || r.owed (suc t)) idle

            by : (c : Bool) → ev ≡ c → Goal
            by true ve = let a = since_now ve in inl (omega arith)
            by false ve = by_look ve (is_busy t) (walks t) refl refl

        pub early_next : Early w (suc t)
        early_next = record { paced = paced_next; sweeps = sweeps_next; old = old_next; fresh = fresh_next; looking = looking_next }

      -- ---- what was read
      module _ (x : Reads t) where
        inside_before : (n : ℕ) → IsInside (suc t) n → IsInside t n
        inside_before n h c k one l z = h c k one (omega arith) z

        -- a word inside memory comes without an error
        unerring : IsInside t (r.line t) → keep t ≡ true → eqb (ib.rsp_error t) 1 ≡ false
        unerring h k =
            let c = came k in
            let after : last f.fence t < c.cycle = c.after in
            errorless_of (word_at (mem c.cycle) (address t)) (ib.rsp_error t) (ib.rsp_data t) c.reply (h c.cycle (r.place t) (omega arith) c.before (i.place (keep_fills k).busy))

        errorless_next : (n : ℕ) → IsInside (suc t) n → Fills (suc t) → r.line (suc t) ≡ n → r.bad (suc t) ≡ false
        errorless_next n inside h e = by (fill_from h)
          where
            by : (begins t ≡ true) ⊎ Stays (begins t) g o v dr fe la → r.bad (suc t) ≡ false
            by (inl b) = m.bad s ∙ λ j. not (b j) && cond (keep t) (now_bad lines words f ib r t) (r.bad t)
            by (inr q) = on (keep t) refl
              where
                is : r.line t ≡ n
                is = sym (line_on q.begins) ∙ e

                was : r.bad t ≡ false
                was = x.errorless n (inside_before n inside) (fills q) is

                on : (c : Bool) → keep t ≡ c → r.bad (suc t) ≡ false
                on true k = bad_came q.begins k ∙ λ j. was j || unerring (subst (IsInside t) (sym is) (inside_before n inside)) k j
                on false k = bad_on q.begins k ∙ was

        no_drop : fe ≡ false → (is_busy t ≡ true → dr ≡ false) → r.dropped (suc t) ≡ false
        no_drop ee h = m.dropped s ∙ by (is_busy t) refl
          where
            no : (z : Bool) → (z && false) ≡ false
            no true = refl
            no false = refl

            by : (c : Bool) → is_busy t ≡ c → dropped_of g o v fe dr ≡ false
            by true b = λ j. (ee j || h b j) && (g || (o && not (o && v)))
            by false b = (λ j. (fe || dr) && (or_l g o b j || (or_r g o b j && not (or_r g o b j && v)))) ∙ no (fe || dr)

        or_true : (c z : Bool) → z ≡ true → (c || z) ≡ true
        or_true true z h = refl
        or_true false z h = h

        module _ (n k : ℕ) (below : k < words) (inside : IsInside (suc t) n) (ee : fe ≡ false) where
          abbrev addr : ℕ
          addr = address_of words n k

          abbrev Result : Type 0
          Result = (walks (suc t) ≡ false) × (is_busy (suc t) ≡ true → r.dropped (suc t) ≡ false) × Where (suc t) n k

          -- it is read now
          read_now : reads_word f ib addr t ≡ true → Result
          read_now e = by i.phase
            where
              ac : (g && y) ≡ true
              ac = sym (accepted_is s) ∙ and_l (is_accepted ib t) (eqb (ib.cmd_addr t) addr && ltb (last f.fence (suc t)) (given_from ib t)) e

              rest : (eqb (ib.cmd_addr t) addr && ltb (last f.fence (suc t)) (given_from ib t)) ≡ true
              rest = and_r (is_accepted ib t) (eqb (ib.cmd_addr t) addr && ltb (last f.fence (suc t)) (given_from ib t)) e

              by : Phase t → Result
              by (Rests ge oe w) = both g (and_l g y ac) ge
              by (Waits c ge oe w d q) = both g (and_l g y ac) ge
              by (Asks ge oe w d) =
                  let busy : is_busy t ≡ true = λ j. ge j || o in
                  let de : dr ≡ false = i.drops busy ∙ ((λ j. not (ltb (sym (same_fence ee) j) (sym d j))) ∙ ap not (and_r (eqb (ib.cmd_addr t) addr) (ltb (last f.fence (suc t)) (given_from ib t)) rest)) in
                  let fl : Fills t = record { busy = busy; kept = de } in
                  let q : address t ≡ addr = sym (m.cmd_addr s) ∙ same _ _ (and_l (eqb (ib.cmd_addr t) addr) (ltb (last f.fence (suc t)) (given_from ib t)) rest) in
                  let le = line_same words (r.line t) (r.place t) n k (i.place busy) below q in
                  let pe = place_same words (r.line t) (r.place t) n k (i.place busy) below q in
                  let ne : keep t ≡ false = λ j. (oe j && v) && not dr in
                  let fl' = fills_on fl ee (λ j. ne j && la) in
                  let nb = fills_unmissed fl in (
                    walks_off ee (unwalked fl),
                    (λ b. no_drop ee (λ b. de)),
                    Coming fl' (line_on nb ∙ le) (inr (sym (place_on nb (λ j. ne j && (not la && not fe)) ∙ pe), m.owed s ∙ λ j. ac j || (o && not (o && v)))),
                  )

          -- it was read, and is not overtaken
          module _ (over : overtakes lines words ib addr t ≡ false) where
            -- a command for another line of its index is not accepted
            unready : Fills t → r.line t % lines ≡ n % lines → (r.line t ≡ n → ⊥) → g ≡ true → y ≡ false
            unready h idx other ge = by y refl
              where
                there : line_at words (ib.cmd_addr t) ≡ r.line t
                there = ap (line_at words) (m.cmd_addr s) ∙ line_is words (r.line t) (r.place t) (i.place h.busy)

                here : line_at words addr ≡ n
                here = line_is words n k below

                by : (c : Bool) → y ≡ c → y ≡ false
                by true ye =
                    let e : overtakes lines words ib addr t ≡ true =
                    (λ j. (accepted_is s ∙ λ j. ge j && ye j) j && (eqb (there j % lines) (here j % lines) && not (eqb (there j) (here j))))
                    ∙ λ j. eq-eqb (r.line t % lines) (n % lines) idx j && not (ne_eqb (r.line t) n other j) in
                    both (overtakes lines words ib addr t) e over
                by false ye = ye

            stored : walks t ≡ false → r.tags t (n % lines) ≡ Some n → (Fills t → r.line t % lines ≡ n % lines → (r.place t ≡ 0) × (o ≡ false) × (r.line t ≡ n → ⊥)) → Where (suc t) n k
            stored w tag free = Stored (tag_on (n % lines) w (λ fn q. untouched (and_l (keep t) la fn) q) ∙ tag) (λ h idx. after h idx (fill_from h))
              where
                untouched : keep t ≡ true → n % lines ≡ r.line t % lines → ⊥
                untouched ke q = both o (came ke).owes (free (keep_fills ke) (sym q)).1

                after : Fills (suc t) → r.line (suc t) % lines ≡ n % lines → (begins t ≡ true) ⊎ Stays (begins t) g o v dr fe la → (r.place (suc t) ≡ 0) × (r.owed (suc t) ≡ false) × (r.line (suc t) ≡ n → ⊥)
                after h idx (inl b) =
                    let z = missed b in
                    let le : r.line (suc t) ≡ now t = m.line s ∙ λ j. cond (b j) (now t) (r.line t) in (
                      place_begun b,
                      (m.owed s ∙ λ j. owed_of (or_l g o z.idle j) (or_r g o z.idle j) v y),
                      (λ q. both (hits lines words f ib r t) (is_line_of _ _ (ap (λ c. r.tags t (c % lines)) (sym le ∙ q) ∙ (tag ∙ ap Some (sym (sym le ∙ q))))) z.unheld),
                    )
                after h idx (inr q) =
                    let le = line_on q.begins in
                    let fr = free (fills q) (sym (ap (λ c. c % lines) le) ∙ idx) in
                    let ge : g ≡ true = only g o q.busy fr.1 in
                    let ye = unready (fills q) (sym (ap (λ c. c % lines) le) ∙ idx) fr.2 ge in
                    let ne : keep t ≡ false = λ j. (fr.1 j && v) && not dr in (
                      place_on q.begins (λ j. ne j && (not la && not fe)) ∙ fr.0,
                      (m.owed s ∙ λ j. owed_of (ge j) (fr.1 j) v (ye j)),
                      (λ c. fr.2 (sym le ∙ c)),
                    )
                  where
                    only : (a b : Bool) → (a || b) ≡ true → b ≡ false → a ≡ true
                    only true b h z = refl
                    only false b h z = both b h z

            coming : walks t ≡ false → Fills t → r.line t ≡ n → (k < r.place t) ⊎ ((k ≡ r.place t) × (o ≡ true)) → Where (suc t) n k
            coming w h le pos = by (keep t) (finish t) refl refl
              where
                nb : begins t ≡ false
                nb = fills_unmissed h

                ended : keep t ≡ true → finish t ≡ true → Where (suc t) n k
                ended ke fn =
                    let i' = inside_before n inside in
                    let nbad : now_bad lines words f ib r t ≡ false = λ j. x.errorless n i' h le j || unerring (subst (IsInside t) (sym le) i') ke j in
                    Stored (ap (λ c. r.tags (suc t) (c % lines)) (sym le) ∙ (tag_ends w fn ∙ ((λ j. cond (nbad j) None (Some (r.line t))) ∙ ap Some le))) (λ h' idx. no (fill_from h'))
                  where
                    no : {A : Type 0} → (begins t ≡ true) ⊎ Stays (begins t) g o v dr fe la → A
                    no (inl b) = both (begins t) b nb
                    no (inr q) = both (finish t) fn q.unended

                upto : (k < r.place t) ⊎ ((k ≡ r.place t) × (o ≡ true)) → k ≤ r.place t
                upto (inl l) = omega arith
                upto (inr q) = let e : k ≡ r.place t = q.0 in omega arith

                gone : keep t ≡ true → finish t ≡ false → Where (suc t) n k
                gone ke fn =
                    let h' = fills_on h ee fn in
                    let ge : go t ≡ true = goes_is (fill_from h') in
                    let z = place_gone nb ge in
                    let l = upto pos in
                    Coming h' (line_on nb ∙ le) (inl (omega arith))
                  where
                    goes_is : (begins t ≡ true) ⊎ Stays (begins t) g o v dr fe la → go t ≡ true
                    goes_is (inl b) = both (begins t) b nb
                    goes_is (inr q) = q.goes ∙ ke

                waiting : keep t ≡ false → Where (suc t) n k
                waiting ke = Coming (fills_on h ee (λ j. ke j && la)) (line_on nb ∙ le) (on pos)
                  where
                    pl : r.place (suc t) ≡ r.place t
                    pl = place_on nb (λ j. ke j && (not la && not fe))

                    no_response : (c z d : Bool) → ((c && z) && not d) ≡ false → d ≡ false → (c && z) ≡ false
                    no_response c z true e de = absurd (grind arith)
                    no_response true true false e de = absurd (grind arith)
                    no_response true false false e de = refl
                    no_response false z false e de = refl

                    on : (k < r.place t) ⊎ ((k ≡ r.place t) × (o ≡ true)) → (k < r.place (suc t)) ⊎ ((k ≡ r.place (suc t)) × (r.owed (suc t) ≡ true))
                    on (inl l) = let e = pl in inl (omega arith)
                    on (inr q) = inr (q.0 ∙ sym pl, m.owed s ∙ or_true (g && y) (o && not (o && v)) (λ j. q.1 j && not (no_response o v dr ke h.kept j)))

                by : (c z : Bool) → keep t ≡ c → finish t ≡ z → Where (suc t) n k
                by true true ke fn = ended ke fn
                by true false ke fn = gone ke fn
                by false z ke fn = waiting ke

          read_before : (not (overtakes lines words ib addr t) && still_held lines words f ib addr t) ≡ true → Result
          read_before e =
              let over = not_true (overtakes lines words ib addr t) (and_l (not (overtakes lines words ib addr t)) (still_held lines words f ib addr t) e) in
              let was = x.kept n k below (inside_before n inside) (and_r (not (overtakes lines words ib addr t)) (still_held lines words f ib addr t) e) in
              (walks_off ee was.0, (λ b. no_drop ee was.1), by over was.0 was.2)
            where
              by : overtakes lines words ib addr t ≡ false → walks t ≡ false → Where t n k → Where (suc t) n k
              by over w (Stored tag free) = stored over w tag free
              by over w (Coming h le pos) = coming over w h le pos

        kept_next : (n k : ℕ) → k < words → IsInside (suc t) n → still_held lines words f ib (address_of words n k) (suc t) ≡ true → (walks (suc t) ≡ false) × (is_busy (suc t) ≡ true → r.dropped (suc t) ≡ false) × Where (suc t) n k
        unfolding still_held
        kept_next n k below inside e = by fe refl
          where
            by : (c : Bool) → fe ≡ c → (walks (suc t) ≡ false) × (is_busy (suc t) ≡ true → r.dropped (suc t) ≡ false) × Where (suc t) n k
            by true ee = both (still_held lines words f ib (address_of words n k) (suc t)) e (λ j. cond (ee j) false (reads_word f ib (address_of words n k) t || (not (overtakes lines words ib (address_of words n k) t) && still_held lines words f ib (address_of words n k) t)))
            by false ee = on (or_yes (reads_word f ib (address_of words n k) t) (not (overtakes lines words ib (address_of words n k) t) && still_held lines words f ib (address_of words n k) t)
                ((λ j. cond (sym ee j) false (reads_word f ib (address_of words n k) t || (not (overtakes lines words ib (address_of words n k) t) && still_held lines words f ib (address_of words n k) t))) ∙ e))
              where
                on : (reads_word f ib (address_of words n k) t ≡ true) ⊎ ((not (overtakes lines words ib (address_of words n k) t) && still_held lines words f ib (address_of words n k) t) ≡ true)
                    → (walks (suc t) ≡ false) × (is_busy (suc t) ≡ true → r.dropped (suc t) ≡ false) × Where (suc t) n k
                on (inl h) = read_now n k below inside ee h
                on (inr h) = read_before n k below inside ee h

        pub reads_next : Reads (suc t)
        reads_next = record { errorless = errorless_next; kept = kept_next }

    -- the invariant holds as each cycle after cycle 0 begins, for what was assumed of the cycles before it
    pub inv : (s : ℕ) → ((j : ℕ) → j < s → FetchAssumed f ib mem predicts predict j) → Inv (suc s)
    inv zero h = first
    inv (suc s) h = next s (inv s (λ j l. h j (omega arith))) (h s (omega arith))

    -- ---- time
    first_early : (w : ℕ) → Early w 1
    first_early w = record {
      paced = λ h. idle_at_first h.busy;
      sweeps = λ e. let z : r.walk 1 ≡ 0 = m.walk_reset in omega arith;
      old = λ h. idle_at_first h.busy;
      fresh = λ e h. idle_at_first h.busy;
      looking = λ e h. both (walks 1) walks_at_first (or_r (is_busy 1) (walks 1) (not_true (is_busy 1 || walks 1) h));
    }

    pub early : (w n : ℕ) → InTime ib w n → (s : ℕ) → s ≤ n → ((j : ℕ) → j < s → FetchAssumed f ib mem predicts predict j) → Early w (suc s)
    early w n within zero l h = first_early w
    early w n within (suc s) l h = early_next s (inv s (λ j k. h j (omega arith))) (h s (omega arith)) w n within l (early w n within s (omega arith) (λ j k. h j (omega arith)))

    module _ (s : ℕ) (i : Inv (suc s)) (w n : ℕ) (within : InTime ib w n) (l : suc s ≤ n) (x : Early w (suc s)) where
      timely_at : is_busy (suc s) ≡ true → (suc s) ≤ start (suc s) + 2 * w
      timely_at b = in_time w n (suc s) within l (given_is s) i.phase b

      -- an item that is not offered is late by no more than this
      pub waited : r.full (suc s) ≡ false → (suc s) ≤ quiet_since (suc s) + whole_time w
      waited fu = by (is_busy (suc s)) (walks (suc s)) refl refl
        where
          by_fill : Fills (suc s) → (c : Bool) → r.wanted (suc s) ≡ c → (suc s) ≤ quiet_since (suc s) + whole_time w
          by_fill h true wa =
              let a = x.fresh fu h wa in
              let b = x.paced h in
              let c = timely_at h.busy in
              let d = span_more (r.place (suc s)) w in
              let e = span_mono (suc (r.place (suc s))) words w (i.place h.busy) in
              omega arith
          by_fill h false wa =
              let a = x.old h wa in
              let b = x.paced h in
              let c = timely_at h.busy in
              let d = span_more (r.place (suc s)) w in
              let e = span_mono (suc (r.place (suc s))) words w (i.place h.busy) in
              omega arith

          by_busy : is_busy (suc s) ≡ true → (c : Bool) → r.dropped (suc s) ≡ c → (suc s) ≤ quiet_since (suc s) + whole_time w
          by_busy b true de =
              let a = late (suc s) i b de in
              let c = timely_at b in
              let e = span_mono 1 words w some_words in
              omega arith
          by_busy b false de = by_fill (record { busy = b; kept = de }) (r.wanted (suc s)) refl

          on : ((suc s) ≤ quiet_since (suc s) + search_time w) ⊎ (((suc s) ≤ quiet_since (suc s) + whole_time w) × (finds lines words f ib r (suc s) ≡ true)) → (suc s) ≤ quiet_since (suc s) + whole_time w
          on (inl z) = omega arith
          on (inr z) = z.0

          by : (c z : Bool) → is_busy (suc s) ≡ c → walks (suc s) ≡ z → (suc s) ≤ quiet_since (suc s) + whole_time w
          by true z b we = by_busy b (r.dropped (suc s)) refl
          by false true b we =
              let a = x.sweeps we in
              let d : r.walk (suc s) < lines = ltb-true _ _ we in
              omega arith
          by false false b we = on (x.looking fu (λ j. not (b j || we j)))

    -- ---- what was read
    first_reads : Reads 1
    unfolding still_held is_accepted is_given
    first_reads = record {
      errorless = λ n inside h. idle_at_first h.busy;
      kept = λ n k below inside e. none (f.fence 0) e;
    }
      where
        none : {A : Type 0} (c : Bool) → cond c false false ≡ true → A
        none true e = absurd (grind arith)
        none false e = absurd (grind arith)

    pub reads : (s : ℕ) → ((j : ℕ) → j < s → FetchAssumed f ib mem predicts predict j) → Reads (suc s)
    reads zero h = first_reads
    reads (suc s) h = reads_next s (inv s (λ j k. h j (omega arith))) (h s (omega arith)) (reads s (λ j k. h j (omega arith)))
