-- The unit's registers are the machine's, and it keeps its laws.
use Rattle.std.proofs.Common.{◌≡◌, ℕ, zero, suc, ◌+◌, ◌*◌, ◌/◌, ◌%◌, ◌<◌, ◌≤◌, Bool, true, false, cond, not, eqb, [], ◌&&◌, ◌||◌, inl, Some, None, refl, ap, ◌∙◌, sym, subst, arith}
use Rattle.std.specs.Prelude.{option_to_list}
use Rattle.std.proofs.Math.Nat.{le_refl}
use Rattle.core_words.specs.Fields.{csr_of}
use Rattle.core_ports.specs.Trace.{Bus}
use Rattle.bus_law.specs.Memory.{Memory}
use Rattle.isa_csr.specs.Csrs.{Csrs, pending, trap_entry}
use Rattle.isa_model.specs.Machine.{Set}
use Rattle.isa_model.specs.Effects.{Moment, Effect, csrs_of, effect_of, rests, write_of}
use Rattle.plug_law.specs.Exec.{ExecSignals, ExecAssumed, ExecKept, Shows, busy, effect_at, no_bus, worked}
use Rattle.plug_law.specs.System.{SystemAssumed, SystemKept, SystemLaw, SystemSignals, csrs_at}
use Rattle.plug_law.specs.Pipeline.{member}
use Rattle.plug_law.specs.Table.{table_of}
use Rattle.csr_law.specs.Words.{bit, is_access, is_return, is_wait, new_of, operand_of, writes_of}
use Rattle.csr_law.specs.Machine.{IsCsr, Lines, SeesLines, State, any, enters, new, old, own, refused, shown, there}
use Rattle.csr_law.specs.Machine as machine
use Rattle.csr_law.specs.Law.{OwnExecLaw, csr_rows, csr_terms}
use Rattle.csr_law.proofs.Tests.{and_l, and_r, both, not_true}
use Rattle.csr_law.proofs.Numbers.{pending_is, written}
use Rattle.csr_law.proofs.Quiet.{quiet_accepted, quiet_duties, quiet_given, quiet_made, quiet_made_by, quiet_owed}
use Rattle.csr_law.proofs.Results.{IsOfRow, csrs_by, effect_by, left, met, no_write, of_rows, rests_by, shows_by}

-- ---- the registers after a cycle without an entry
abbrev after_own : (o acc r w : Bool) → State → (n v : ℕ) → State
after_own o acc r w s n v = left (o && (not acc && r)) (written (o && (acc && w)) s n v)

abbrev turned : (o acc r w : Bool) → State → (n v : ℕ) → State
turned o acc r w s n v = record {
  on = cond (o && (not acc && r)) s.was (cond (o && (acc && (w && eqb n 0x300))) (bit v 3) s.on);
  was = cond (o && (not acc && r)) true (cond (o && (acc && (w && eqb n 0x300))) (bit v 7) s.was);
  soft = cond (o && (acc && (w && eqb n 0x304))) (bit v 3) s.soft;
  timer = cond (o && (acc && (w && eqb n 0x304))) (bit v 7) s.timer;
  outer = cond (o && (acc && (w && eqb n 0x304))) (bit v 11) s.outer;
  tvec = cond (o && (acc && (w && eqb n 0x305))) (v / 4) s.tvec;
  epc = cond (o && (acc && (w && eqb n 0x341))) (v / 4) s.epc;
  scratch = cond (o && (acc && (w && eqb n 0x340))) v s.scratch;
  cause = cond (o && (acc && (w && eqb n 0x342))) v s.cause;
  tval = cond (o && (acc && (w && eqb n 0x343))) v s.tval;
}

turned_is : (o acc r w : Bool) (s : State) (n v : ℕ) → turned o acc r w s n v ≡ after_own o acc r w s n v
turned_is false acc r w s n v = refl
turned_is true true r w s n v = refl
turned_is true false r w s n v = refl

own_off : (d t c : Bool) → (d && not c) ≡ false → (d && (not t && not c)) ≡ false
own_off true true c h = refl
own_off true false c h = h
own_off false t c h = refl

own_on : (d t c : Bool) → (d && not c) ≡ true → (d && (not t && not c)) ≡ not t
own_on true true true h = refl
own_on true false true h = absurd (grind arith)
own_on true true false h = refl
own_on true false false h = refl
own_on false t c h = absurd (grind arith)

own_parts : (d t c : Bool) → (d && (not t && not c)) ≡ true → (d ≡ true) × (t ≡ false)
own_parts d t c h = (and_l d (not t && not c) h, not_true t (and_l (not t) (not c) (and_r d (not t && not c) h)))

module _ (set : Set) (claims : ℕ → Bool) (claimed_rows : (row : ℕ) → claims row ≡ true → member row csr_rows ≡ true)
    (misa : ℕ) (e : ExecSignals) (y : SystemSignals) (db : Bus) (mem : ℕ → Memory) (moments : ℕ → Moment) (l : Lines) (g : ℕ → State)
    (is : IsCsr misa e y l g) (sees : SeesLines misa e y l g moments) where
  abbrev csrs : ℕ → Csrs
  csrs = csrs_at misa (table_of set) e y mem moments

  abbrev Assume : ℕ → Type 0
  Assume s = ExecAssumed (csr_terms set claims) e no_bus mem s

  abbrev IsAt : ℕ → Type 0
  IsAt s = csrs (suc s) ≡ shown misa (g (suc s))

  row_at : (s : ℕ) → Assume s → e.go (suc s) ≡ true → IsOfRow (e.row (suc s)) (e.word (suc s))
  row_at s asked go = let c = asked.claimed go in of_rows (e.word (suc s)) (e.row (suc s)) (claimed_rows (e.row (suc s)) c.0) (met set (e.word (suc s)) (e.row (suc s)) c.1)

  done_goes : (s : ℕ) → e.done (suc s) ≡ true → e.go (suc s) ≡ true
  done_goes s d = and_l (e.go (suc s)) (not (is_wait (e.word (suc s))) || any misa e y l g (suc s)) (sym (is.done s) ∙ d)

  module _ (s : ℕ) where
    abbrev k : ℕ
    k = suc s

    abbrev effect : Effect
    effect = effect_by misa (e.pc (suc s)) (e.word (suc s)) (e.a (suc s)) (e.b (suc s)) (mem (Rattle.plug_law.specs.Exec.begun e (suc s))) (g (suc s)) (l.soft (suc s)) (l.timer (suc s)) (l.outer (suc s))
        (bit (e.word (suc s)) 12) (bit (e.word (suc s)) 13) (bit (e.word (suc s)) 14) (bit (e.word (suc s)) 29)

    effect_is : IsOfRow (e.row (suc s)) (e.word (suc s)) → (c : Csrs) → c ≡ shown misa (g (suc s)) → effect_at (table_of set) e mem (λ j. c) moments (suc s) ≡ effect
    unfolding table_of
    effect_is of c h = λ i. effect_of (e.pc (suc s)) (e.word (suc s)) (mem (Rattle.plug_law.specs.Exec.begun e (suc s))) (h i) (record { lines = sees s i }) (of.act (e.pc (suc s)) (e.a (suc s)) (e.b (suc s)) i)

    -- ---- the next state
    abbrev after_state : (o : Bool) → State
    after_state o = after_own o (is_access (e.word (suc s))) (bit (e.word (suc s)) 29) (writes_of (e.word (suc s))) (g (suc s)) (csr_of (e.word (suc s))) (new misa e y l g (suc s))

    quiet_state : enters misa e y l g (suc s) ≡ false → g (suc (suc s)) ≡ after_state (own misa e y l g (suc s))
    unfolding is_return is_access
    quiet_state h =
        (λ i. record {
          on = (is.on s ∙ (λ j. cond (h j) false (cond (machine.leaves misa e y l g (suc s)) (g (suc s)).was (cond (machine.writes_to misa e y l g 0x300 (suc s)) (bit (new misa e y l g (suc s)) 3) (g (suc s)).on)))) i;
          was = (is.was s ∙ (λ j. cond (h j) (g (suc s)).on (cond (machine.leaves misa e y l g (suc s)) true (cond (machine.writes_to misa e y l g 0x300 (suc s)) (bit (new misa e y l g (suc s)) 7) (g (suc s)).was)))) i;
          soft = is.soft s i;
          timer = is.timer s i;
          outer = is.outer s i;
          tvec = is.tvec s i;
          epc = (is.epc s ∙ (λ j. cond (h j) (y.pc (suc s) / 4) (cond (machine.writes_to misa e y l g 0x341 (suc s)) (new misa e y l g (suc s) / 4) (g (suc s)).epc))) i;
          scratch = is.scratch s i;
          cause = (is.cause s ∙ (λ j. cond (h j) (y.cause (suc s)) (cond (machine.writes_to misa e y l g 0x342 (suc s)) (new misa e y l g (suc s)) (g (suc s)).cause))) i;
          tval = (is.tval s ∙ (λ j. cond (h j) (y.tval (suc s)) (cond (machine.writes_to misa e y l g 0x343 (suc s)) (new misa e y l g (suc s)) (g (suc s)).tval))) i;
        })
        ∙ turned_is (own misa e y l g (suc s)) (is_access (e.word (suc s))) (bit (e.word (suc s)) 29) (writes_of (e.word (suc s))) (g (suc s)) (csr_of (e.word (suc s))) (new misa e y l g (suc s))

    -- an entry, where the part has no effect of its own
    entered : State
    entered = record (g (suc s)) { on = false; was = (g (suc s)).on; epc = y.pc (suc s) / 4; cause = y.cause (suc s); tval = y.tval (suc s) }

    entry_state : enters misa e y l g (suc s) ≡ true → own misa e y l g (suc s) ≡ false → g (suc (suc s)) ≡ entered
    unfolding entered
    entry_state h o = λ i. record {
      on = (is.on s ∙ (λ j. cond (h j) false (cond (machine.leaves misa e y l g (suc s)) (g (suc s)).was (cond (machine.writes_to misa e y l g 0x300 (suc s)) (bit (new misa e y l g (suc s)) 3) (g (suc s)).on)))) i;
      was = (is.was s ∙ (λ j. cond (h j) (g (suc s)).on (cond (machine.leaves misa e y l g (suc s)) true (cond (machine.writes_to misa e y l g 0x300 (suc s)) (bit (new misa e y l g (suc s)) 7) (g (suc s)).was)))) i;
      soft = (is.soft s ∙ (λ j. cond (o j && (is_access (e.word (suc s)) && (writes_of (e.word (suc s)) && eqb (csr_of (e.word (suc s))) 0x304))) (bit (new misa e y l g (suc s)) 3) (g (suc s)).soft)) i;
      timer = (is.timer s ∙ (λ j. cond (o j && (is_access (e.word (suc s)) && (writes_of (e.word (suc s)) && eqb (csr_of (e.word (suc s))) 0x304))) (bit (new misa e y l g (suc s)) 7) (g (suc s)).timer)) i;
      outer = (is.outer s ∙ (λ j. cond (o j && (is_access (e.word (suc s)) && (writes_of (e.word (suc s)) && eqb (csr_of (e.word (suc s))) 0x304))) (bit (new misa e y l g (suc s)) 11) (g (suc s)).outer)) i;
      tvec = (is.tvec s ∙ (λ j. cond (o j && (is_access (e.word (suc s)) && (writes_of (e.word (suc s)) && eqb (csr_of (e.word (suc s))) 0x305))) (new misa e y l g (suc s) / 4) (g (suc s)).tvec)) i;
      epc = (is.epc s ∙ (λ j. cond (h j) (y.pc (suc s) / 4) (cond (machine.writes_to misa e y l g 0x341 (suc s)) (new misa e y l g (suc s) / 4) (g (suc s)).epc))) i;
      scratch = (is.scratch s ∙ (λ j. cond (o j && (is_access (e.word (suc s)) && (writes_of (e.word (suc s)) && eqb (csr_of (e.word (suc s))) 0x340))) (new misa e y l g (suc s)) (g (suc s)).scratch)) i;
      cause = (is.cause s ∙ (λ j. cond (h j) (y.cause (suc s)) (cond (machine.writes_to misa e y l g 0x342 (suc s)) (new misa e y l g (suc s)) (g (suc s)).cause))) i;
      tval = (is.tval s ∙ (λ j. cond (h j) (y.tval (suc s)) (cond (machine.writes_to misa e y l g 0x343 (suc s)) (new misa e y l g (suc s)) (g (suc s)).tval))) i;
    }

    -- the machine's registers after the part's own effect
    abbrev after_csrs : Csrs → Csrs
    after_csrs c = cond (e.done (suc s) && not (e.clear (suc s))) (csrs_of (effect_at (table_of set) e mem (λ j. c) moments (suc s)) c) c

    after_is : Assume s → (c : Csrs) → c ≡ shown misa (g (suc s)) → after_csrs c ≡ shown misa (after_state (own misa e y l g (suc s)))
    unfolding is_access writes_of new_of operand_of refused there old
    after_is asked c h = by (e.done (suc s) && not (e.clear (suc s))) refl
      where
        by : (b : Bool) → (e.done (suc s) && not (e.clear (suc s))) ≡ b
            → cond b (csrs_of (effect_at (table_of set) e mem (λ j. c) moments (suc s)) c) c ≡ shown misa (after_state (own misa e y l g (suc s)))
        by true z =
            let go = done_goes s (and_l (e.done (suc s)) (not (e.clear (suc s))) z) in
            (λ i. csrs_of (effect_is (row_at s asked go) c h i) (h i))
            ∙ csrs_by misa (e.pc (suc s)) (e.word (suc s)) (e.a (suc s)) (e.b (suc s)) (mem (Rattle.plug_law.specs.Exec.begun e (suc s))) (g (suc s)) (l.soft (suc s)) (l.timer (suc s)) (l.outer (suc s))
            (bit (e.word (suc s)) 12) (bit (e.word (suc s)) 13) (bit (e.word (suc s)) 14) (bit (e.word (suc s)) 29)
            ∙ sym (ap (λ o. shown misa (after_state o)) (own_on (e.done (suc s)) (e.trap (suc s)) (e.clear (suc s)) z ∙ ap not (is.trap s)))
        by false z = h ∙ sym (ap (λ o. shown misa (after_state o)) (own_off (e.done (suc s)) (e.trap (suc s)) (e.clear (suc s)) z))

    entry_is : y.pc (suc s) % 4 ≡ 0 → trap_entry (shown misa (g (suc s))) (y.pc (suc s)) (y.cause (suc s)) (y.tval (suc s)) ≡ shown misa entered
    unfolding entered
    entry_is h = let q : y.pc (suc s) ≡ y.pc (suc s) / 4 * 4 = omega arith in λ i. trap_entry (shown misa (g (suc s))) (q i) (y.cause (suc s)) (y.tval (suc s))

    no_own : SystemAssumed e y s → enters misa e y l g (suc s) ≡ true → own misa e y l g (suc s) ≡ false
    no_own told h = by (own misa e y l g (suc s)) refl
      where
        by : (o : Bool) → own misa e y l g (suc s) ≡ o → own misa e y l g (suc s) ≡ false
        by false z = z
        by true z =
            let p = own_parts (e.done (suc s)) (e.trap (suc s)) (e.clear (suc s)) z in
            let ev : y.event (suc s) ≡ true = and_l (y.event (suc s)) (not (eqb (y.kind (suc s)) 0)) h in
            let none : y.kind (suc s) ≡ 0 = told.own ev p.0 p.1 in
            both (eqb (y.kind (suc s)) 0) (ap (λ n. eqb n 0) none) (not_true (eqb (y.kind (suc s)) 0) (and_r (y.event (suc s)) (not (eqb (y.kind (suc s)) 0)) h))

    step : Assume s → SystemAssumed e y s → IsAt s → IsAt (suc s)
    unfolding csrs_at
    step asked told h = by (enters misa e y l g (suc s)) refl
      where
        after : after_csrs (csrs (suc s)) ≡ shown misa (after_state (own misa e y l g (suc s)))
        after = after_is asked (csrs (suc s)) h

        by : (b : Bool) → enters misa e y l g (suc s) ≡ b
            → cond b (trap_entry (after_csrs (csrs (suc s))) (y.pc (suc s)) (y.cause (suc s)) (y.tval (suc s))) (after_csrs (csrs (suc s))) ≡ shown misa (g (suc (suc s)))
        by false z = after ∙ sym (ap (shown misa) (quiet_state z))
        by true z =
            let o = no_own told z in
            let ev : y.event (suc s) ≡ true = and_l (y.event (suc s)) (not (eqb (y.kind (suc s)) 0)) z in
            ap (λ c. trap_entry c (y.pc (suc s)) (y.cause (suc s)) (y.tval (suc s))) (after ∙ ap (λ x. shown misa (after_state x)) o)
            ∙ entry_is (told.whole ev) ∙ sym (ap (shown misa) (entry_state z o))

  state_is : (s : ℕ) → ((j : ℕ) → j < s → Assume j) → ((j : ℕ) → j < s → SystemAssumed e y j) → IsAt s
  unfolding csrs_at
  state_is zero asks told = sym (ap (shown misa) is.reset)
  state_is (suc s) asks told = step s (asks s (omega arith)) (told s (omega arith)) (state_is s (λ j lt. asks j (omega arith)) (λ j lt. told j (omega arith)))

  -- ---- one cycle
  module _ (s : ℕ) (asked : Assume s) (at : IsAt s) where
    effect_now : e.go (suc s) ≡ true → effect_at (table_of set) e mem csrs moments (suc s) ≡ effect s
    effect_now go = effect_is s (row_at s asked go) (csrs (suc s)) at

    wait_test : Bool
    wait_test = not (is_wait (e.word (suc s))) || any misa e y l g (suc s)

    shows : e.go (suc s) ≡ true → e.done (suc s) ≡ true
        → Shows (effect_at (table_of set) e mem csrs moments (suc s)) (e.value (suc s)) (e.next_pc (suc s)) (e.cause (suc s)) (e.tval (suc s)) (e.trap (suc s))
    unfolding is_access is_return is_wait any writes_of refused there old
    shows go d =
        let t : (not (is_wait (e.word (suc s))) || any misa e y l g (suc s)) ≡ true = and_r (e.go (suc s)) (not (is_wait (e.word (suc s))) || any misa e y l g (suc s)) (sym (is.done s) ∙ d) in
        subst (λ x. Shows x (e.value (suc s)) (e.next_pc (suc s)) (e.cause (suc s)) (e.tval (suc s)) (e.trap (suc s))) (sym (effect_now go))
        (subst {A = ℕ × ℕ × ℕ × ℕ × Bool} (λ o. Shows (effect s) o.0 o.1 o.2 o.3 o.4) (λ i. (sym (is.value s) i, sym (is.next_pc s) i, sym (is.illegal s) i, sym (is.its_word s) i, sym (is.trap s) i))
        (shows_by misa (e.pc (suc s)) (e.word (suc s)) (e.a (suc s)) (e.b (suc s)) (mem (Rattle.plug_law.specs.Exec.begun e (suc s))) (g (suc s)) (l.soft (suc s)) (l.timer (suc s)) (l.outer (suc s))
        (bit (e.word (suc s)) 12) (bit (e.word (suc s)) 13) (bit (e.word (suc s)) 14) (bit (e.word (suc s)) 29) t))

    rests_now : e.go (suc s) ≡ true → e.done (suc s) ≡ false → rests (effect_at (table_of set) e mem csrs moments (suc s)) ≡ true
    unfolding is_access is_return is_wait any
    rests_now go d =
        let t : (not (is_wait (e.word (suc s))) || any misa e y l g (suc s)) ≡ false = sym (ap (λ b. b && (not (is_wait (e.word (suc s))) || any misa e y l g (suc s))) go) ∙ sym (is.done s) ∙ d in
        ap rests (effect_now go)
        ∙ rests_by misa (e.pc (suc s)) (e.word (suc s)) (e.a (suc s)) (e.b (suc s)) (mem (Rattle.plug_law.specs.Exec.begun e (suc s))) (g (suc s)) (l.soft (suc s)) (l.timer (suc s)) (l.outer (suc s))
        (bit (e.word (suc s)) 12) (bit (e.word (suc s)) 13) (bit (e.word (suc s)) 14) (bit (e.word (suc s)) 29) t

    no_store : e.go (suc s) ≡ true → [] ≡ option_to_list (write_of (effect_at (table_of set) e mem csrs moments (suc s)))
    no_store go = sym (ap option_to_list (ap write_of (effect_now go)
        ∙ no_write misa (e.pc (suc s)) (e.word (suc s)) (e.a (suc s)) (e.b (suc s)) (mem (Rattle.plug_law.specs.Exec.begun e (suc s))) (g (suc s)) (l.soft (suc s)) (l.timer (suc s)) (l.outer (suc s))
        (bit (e.word (suc s)) 12) (bit (e.word (suc s)) 13) (bit (e.word (suc s)) 14) (bit (e.word (suc s)) 29)))

    kept : ExecKept (table_of set) e no_bus mem csrs moments s
    kept = record {
      rests = λ z. is.done s ∙ ap (λ b. b && (not (is_wait (e.word (suc s))) || any misa e y l g (suc s))) z;
      result = λ go d. (shows go d, is.fence s ∙ sym ((row_at s asked go).no_fence));
      idle = λ z. (quiet_given (suc s), quiet_owed (suc s));
      asks = λ z. both (Rattle.bus_law.specs.Protocol.is_given no_bus (suc s)) z (quiet_given (suc s));
      writes = λ go. inl (quiet_made_by e (suc s));
      wrote = λ go d. (quiet_made e (suc s) ∙ no_store go, quiet_accepted (suc s));
      duties = quiet_duties (suc s);
    }

    -- ---- System
    pending_now : pending (csrs (suc s)) (moments (suc s)).lines ≡ cond (y.take_irq (suc s)) (Some (y.irq_cause (suc s))) None
    unfolding any
    pending_now =
        (λ i. pending (at i) (sees s i))
        ∙ pending_is misa (g (suc s)) (l.soft (suc s)) (l.timer (suc s)) (l.outer (suc s))
        ∙ sym (λ i. cond (is.take_irq s i) (Some (is.irq_cause s i)) None)

    system_kept : SystemKept csrs y moments s
    system_kept = record {
      none = λ h. by_none (y.take_irq (suc s)) (y.irq_cause (suc s)) (sym pending_now ∙ h);
      some = λ cause h. by_some (y.take_irq (suc s)) (y.irq_cause (suc s)) cause (sym pending_now ∙ h);
      base = is.base s ∙ sym (ap (λ c. c.mtvec) at);
    }
      where
        by_none : (b : Bool) (c : ℕ) → cond b (Some c) None ≡ None → b ≡ false
        by_none true c h = absurd (cc)
        by_none false c h = refl

        by_some : (b : Bool) (c d : ℕ) → cond b (Some c) None ≡ Some d → (b ≡ true) × (c ≡ d)
        by_some true c d h = (refl, cc)
        by_some false c d h = absurd (cc)

  -- a wait is not counted
  abbrev idle : ℕ → Bool
  idle t = rests (effect_at (table_of set) e mem csrs moments t)

  busy_parts : (t : ℕ) → busy e (suc (suc t)) ≡ true → (e.go (suc t) ≡ true) × (e.done (suc t) ≡ false)
  unfolding busy
  busy_parts t h = (
    and_l (e.go (suc t)) (not (e.done (suc t)) && not (e.clear (suc t))) h,
    not_true (e.done (suc t)) (and_l (not (e.done (suc t))) (not (e.clear (suc t))) (and_r (e.go (suc t)) (not (e.done (suc t)) && not (e.clear (suc t))) h)),
  )

  no_work : (s : ℕ) → ((j : ℕ) → j ≤ s → Assume j) → ((j : ℕ) → j ≤ s → IsAt j) → e.go (suc s) ≡ true → e.done (suc s) ≡ false → worked idle e (suc s) ≡ 0
  unfolding worked busy
  no_work zero asks at go d = λ i. cond (rests_now 0 (asks 0 (le_refl 0)) (at 0 (le_refl 0)) go d i) 0 1 + 0
  no_work (suc s) asks at go d =
      (λ i. cond (rests_now (suc s) (asks (suc s) (le_refl (suc s))) (at (suc s) (le_refl (suc s))) go d i) 0 1 + cond (busy e (suc (suc s))) (worked idle e (suc s)) 0)
      ∙ before (busy e (suc (suc s))) refl (no_work s (λ j lt. asks j (omega arith)) (λ j lt. at j (omega arith)))
    where
      before : (b : Bool) → busy e (suc (suc s)) ≡ b → (e.go (suc s) ≡ true → e.done (suc s) ≡ false → worked idle e (suc s) ≡ 0) → 0 + cond b (worked idle e (suc s)) 0 ≡ 0
      before false h ih = refl
      before true h ih = let w = busy_parts s h in ap (λ v. 0 + v) (ih w.0 w.1)

  pub own_law : OwnExecLaw (csr_terms set claims) misa e y db mem moments
  own_law s asks alone told =
      let at : (j : ℕ) → j ≤ s → IsAt j = λ j le. state_is j (λ i lt. asks i (omega arith)) (λ i lt. told i (omega arith)) in (
        kept s (asks s (le_refl s)) (at s (le_refl s)),
        λ w l prompt go d. let z : worked idle e (suc s) ≡ 0 = no_work s asks at go d in omega arith,
      )

  pub system_law : SystemLaw (csr_terms set claims) misa e y db mem moments
  system_law s asks alone told =
      system_kept s (asks s (le_refl s)) (state_is s (λ i lt. asks i (omega arith)) told)
