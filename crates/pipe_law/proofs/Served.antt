-- The done that serves an event, and the item that a unit is given.
use Rattle.std.proofs.Common.{◌≡◌, ℕ, suc, Bool, true, false, cond, not, eqb, leb, ◌&&◌, ◌||◌, ◌⊎◌, inl, inr, refl, ap, ◌∙◌, sym, subst, arith, Option, Some, is_some}
use Rattle.core_words.specs.Fields.{rd_of}
use Rattle.core_words.specs.Values.{bits_of}
use Rattle.core_ports.specs.Trace.{PortEvent, port_event}
use Rattle.isa_model.specs.Machine.{Machine}
use Rattle.isa_model.specs.Run.{now}
use Rattle.plug_law.specs.Decode.{is_call}
use Rattle.plug_law.specs.Pipeline.{Shape, Slot, ends, event, except_cause, fresh_except, irq, member, run, trap_cause, traps, value}
use Rattle.plug_law.specs.Table.{Table}
use Rattle.pipe_law.proofs.Basics.{and_l, and_r, both, cond_false, cond_true, or_l, same}
use Rattle.pipe_law.proofs.Cycle.{ends_run, event_by, irq_parts, takes_parts, traps_is}
use Rattle.pipe_law.proofs.Invariant.{Here}
use Rattle.pipe_law.proofs.Outcome.{Good, cause_of}
use Rattle.pipe_law.proofs.Told.{told_of_end, told_of_irq}
use Rattle.pipe_law.proofs.Unit.{at_pc, cause_is, done_is, go_parts, head, own, row_is_row, value_is}
use Rattle.pipe_law.specs.Serves.{IsDoneOf, IsGiven, IsServed}
use Rattle.pipe_law.specs.Core.{begin_at}
use Rattle.plug_law.specs.Pipeline as wire

-- equal numbers
some_same : (a b : ℕ) → ◌≡◌ {A = Option ℕ} (Some a) (Some b) → a ≡ b
some_same a b e = cc

-- the traps of the pipeline itself are served by no unit
abbrev OwnCause : ℕ → Type 0
OwnCause cause = (cause ≡ 1) ⊎ ((cause ≡ 3) ⊎ (cause ≡ 11))

-- a trap that is the pipeline's own is served by no unit
not_served : (t : Table) (b : Bool) (pc word rd value cause : ℕ) → OwnCause cause
    → IsServed t (record { kind = cond b 1 3; pc = pc; word = word; rd = rd; value = value; cause = cause }) ≡ false
not_served t true pc word rd value cause (inl e) = ap (λ v. eqb v 0 || ((leb 4 v && leb v 7) || (eqb v 2 && is_some (t.row_of word)))) e
not_served t false pc word rd value cause (inl e) = ap (λ v. eqb v 0 || ((leb 4 v && leb v 7) || (eqb v 2 && is_some (t.row_of word)))) e
not_served t true pc word rd value cause (inr (inl e)) = ap (λ v. eqb v 0 || ((leb 4 v && leb v 7) || (eqb v 2 && is_some (t.row_of word)))) e
not_served t false pc word rd value cause (inr (inl e)) = ap (λ v. eqb v 0 || ((leb 4 v && leb v 7) || (eqb v 2 && is_some (t.row_of word)))) e
not_served t true pc word rd value cause (inr (inr e)) = ap (λ v. eqb v 0 || ((leb 4 v && leb v 7) || (eqb v 2 && is_some (t.row_of word)))) e
not_served t false pc word rd value cause (inr (inr e)) = ap (λ v. eqb v 0 || ((leb 4 v && leb v 7) || (eqb v 2 && is_some (t.row_of word)))) e

module _ (c : Here) where
  open c use {core, p, run', memory, n, is_core, laws, steps, is_memory, honest, q, h, inv, within}

  -- short names
  abbrev sh : Shape
  sh = core.shape

  abbrev m : Machine
  m = now (begin_at core memory) h

  abbrev x : Slot
  x = p.slot (suc q)

  abbrev u : ℕ
  u = core.owner (p.slot (suc q)).row

  -- ---- what a unit is given

  -- a go has its taking
  pub given_item : (k : ℕ) → member k sh.entries ≡ true → (p.unit k).go (suc q) ≡ true → (j : ℕ) × IsGiven p.fetch p.decode p.hazard (p.unit k) k (suc q) j
  given_item k a g =
      let w = go_parts c k a g in
      let i = inv.item w.valid in
      let ex : fresh_except sh p (suc i.cycle) ≡ false = ap (λ z. z.except) (sym i.is) ∙ w.plain in
      let er : p.fetch.error (suc i.cycle) ≡ false = or_l (p.fetch.error (suc i.cycle)) (not (p.decode.legal (suc i.cycle)) || is_call (p.decode.row (suc i.cycle))) ex in
      let tp = takes_parts sh p (suc i.cycle) i.taken in
      let ch = sym (i.chosen k a) ∙ and_r (cond (sh.commits k) (run sh p (suc q)) (p.valid (suc q))) (p.chosen k (suc q)) (sym (steps.go k q a) ∙ g) in (
        suc i.cycle,
        record {
          before = i.before;
          taken = steps.take i.cycle ∙ i.taken;
          item = (steps.go_pc k q a ∙ ap (λ z. z.pc) i.is, steps.go_word k q a ∙ ap (λ z. z.word) i.is ∙ cond_false (p.fetch.error (suc i.cycle)) 0 (p.fetch.word (suc i.cycle)) er, er);
          decoded = (steps.go_row k q a ∙ ap (λ z. z.row) i.is, same (p.decode.unit (suc i.cycle)) k (and_l (eqb (p.decode.unit (suc i.cycle)) k) (not (fresh_except sh p (suc i.cycle))) ch));
          operands = (tp.2, steps.go_a k q a ∙ ap (λ z. z.a) i.is, steps.go_b k q a ∙ ap (λ z. z.b) i.is);
        },
      )

  -- ---- the done of an event
  abbrev ToldEnd : PortEvent
  ToldEnd = record {
    kind = cond (traps sh p (suc q)) (cond core.set.system 1 3) 0;
    pc = m.pc;
    word = x.word;
    rd = cond (not (traps sh p (suc q)) && x.writes) (rd_of x.word) 0;
    value = cond (not (traps sh p (suc q)) && x.writes) (value sh p (suc q)) 0;
    cause = cond (traps sh p (suc q)) (trap_cause sh p (suc q)) 0;
  }

  -- the pipeline's own traps
  except_not_served : (row : ℕ) → ends sh p (suc q) ≡ true → x.except ≡ true → core.table.row_of x.word ≡ Some row → IsServed core.table ToldEnd ≡ false
  unfolding trap_cause except_cause
  except_not_served row e ex r =
      ap (λ b. IsServed core.table (record { kind = cond b (cond core.set.system 1 3) 0; pc = m.pc; word = x.word; rd = ToldEnd.rd; value = ToldEnd.value; cause = cond b (trap_cause sh p (suc q)) 0 })) tr
      ∙ not_served core.table core.set.system m.pc x.word ToldEnd.rd ToldEnd.value (trap_cause sh p (suc q)) (by_error x.error refl)
    where
      tr : traps sh p (suc q) ≡ true
      tr = traps_is sh p (suc q) e ∙ ap (λ b. b || wire.trap sh p (suc q)) ex

      g : Good core.table x
      g = inv.good (head c (ends_run sh p (suc q) e)).valid

      is_cause : cond x.except (cause_of x) (wire.cause sh p (suc q)) ≡ cause_of x
      is_cause = cond_true x.except (cause_of x) (wire.cause sh p (suc q)) ex

      by_bit : (b : Bool) → OwnCause (cond b 3 11)
      by_bit true = inr (inl refl)
      by_bit false = inr (inr refl)

      by_error : (b : Bool) → x.error ≡ b → OwnCause (cond x.except (cause_of x) (wire.cause sh p (suc q)))
      by_error true z = inl (is_cause ∙ cond_true x.error 1 (cond x.legal (cond (eqb (bits_of x.word 20 20) 1) 3 11) 2) z)
      by_error false z =
          subst OwnCause
          (sym (is_cause ∙ cond_false x.error 1 (cond x.legal (cond (eqb (bits_of x.word 20 20) 1) 3 11) 2) z ∙ cond_true x.legal (cond (eqb (bits_of x.word 20 20) 1) 3 11) 2 (g.some z row r).0))
          (by_bit (eqb (bits_of x.word 20 20) 1))

  -- the end of an item is its unit's done
  unit_done : (row : ℕ) → ends sh p (suc q) ≡ true → x.except ≡ false → core.table.row_of x.word ≡ Some row → IsDoneOf ToldEnd (p.unit u) row (suc q)
  unfolding trap_cause
  unit_done row e pl r =
      let hr = ends_run sh p (suc q) e in
      let hd = head c hr in
      let a = (own c hr pl).0 in
      record {
        done = done_is c hr pl e;
        row_is = steps.go_row u q a ∙ some_same x.row row (sym (row_is_row c hr pl) ∙ r);
        pc = steps.go_pc u q a ∙ at_pc c hd;
        word = steps.go_word u q a;
        value = λ k d. sym (value_is c hr pl e) ∙ sym (cond_true (not (traps sh p (suc q)) && x.writes) (value sh p (suc q)) 0 (writes_some (not (traps sh p (suc q)) && x.writes) d));
        cause = λ k.
            let tr = trap_some (traps sh p (suc q)) k in
            sym (cause_is c hr pl e) ∙ sym (cond_false x.except (except_cause sh p (suc q)) (wire.cause sh p (suc q)) pl)
            ∙ sym (cond_true (traps sh p (suc q)) (cond x.except (except_cause sh p (suc q)) (wire.cause sh p (suc q))) 0 tr);
      }
    where
      writes_some : (b : Bool) → eqb (cond b (rd_of x.word) 0) 0 ≡ false → b ≡ true
      writes_some true d = refl
      writes_some false d = absurd (grind arith)

      trap_some : (b : Bool) → eqb (cond b (cond core.set.system 1 3) 0) 0 ≡ false → b ≡ true
      trap_some true d = refl
      trap_some false d = absurd (grind arith)

  -- its unit is the row's owner
  owner_is : (row : ℕ) → ends sh p (suc q) ≡ true → x.except ≡ false → core.table.row_of x.word ≡ Some row → u ≡ core.owner row
  owner_is row e pl r = ap core.owner (some_same x.row row (sym (row_is_row c (ends_run sh p (suc q) e) pl) ∙ r))

  -- so the event of an item that ends is served
  end_served : (row : ℕ) → ends sh p (suc q) ≡ true → IsServed core.table ToldEnd ≡ true → core.table.row_of x.word ≡ Some row → IsDoneOf ToldEnd (p.unit (core.owner row)) row (suc q)
  end_served row e s r = by x.except refl
    where
      by : (b : Bool) → x.except ≡ b → IsDoneOf ToldEnd (p.unit (core.owner row)) row (suc q)
      by true ex = both (IsServed core.table ToldEnd) s (except_not_served row e ex r)
      by false pl = subst (λ k. IsDoneOf ToldEnd (p.unit k) row (suc q)) (owner_is row e pl r) (unit_done row e pl r)

  -- any event that a unit serves
  pub served_by : (row : ℕ) → event sh p (suc q) ≡ true → IsServed core.table (port_event run' (suc q)) ≡ true → core.table.row_of (port_event run' (suc q)).word ≡ Some row
      → IsDoneOf (port_event run' (suc q)) (p.unit (core.owner row)) row (suc q)
  served_by row e s r = by (event_by sh p (suc q) e)
    where
      by : (ends sh p (suc q) ≡ true) ⊎ (irq sh p (suc q) ≡ true) → IsDoneOf (port_event run' (suc q)) (p.unit (core.owner row)) row (suc q)
      by (inl z) =
          let w : port_event run' (suc q) ≡ ToldEnd = steps.tells q e ∙ told_of_end c z in
          subst (λ y. IsDoneOf y (p.unit (core.owner row)) row (suc q)) (sym w) (end_served row z (ap (IsServed core.table) (sym w) ∙ s) (ap (λ y. core.table.row_of y.word) (sym w) ∙ r))
      by (inr z) = both (IsServed core.table (port_event run' (suc q))) s (ap (IsServed core.table) (steps.tells q e ∙ told_of_irq c z))

  -- ---- interrupts

  -- an interrupt is one of System
  pub interrupt_by : event sh p (suc q) ≡ true → (port_event run' (suc q)).kind ≡ 2 → (p.system.take_irq (suc q) ≡ true) × (p.system.irq_cause (suc q) ≡ (port_event run' (suc q)).cause)
  interrupt_by e k = by (event_by sh p (suc q) e)
    where
      not_two : (a b : Bool) → ◌≡◌ {A = ℕ} (cond a (cond b 1 3) 0) 2 → ⊥
      not_two true true z = absurd (grind arith)
      not_two true false z = absurd (grind arith)
      not_two false b z = absurd (grind arith)

      by : (ends sh p (suc q) ≡ true) ⊎ (irq sh p (suc q) ≡ true) → (p.system.take_irq (suc q) ≡ true) × (p.system.irq_cause (suc q) ≡ (port_event run' (suc q)).cause)
      by (inl z) = absurd (not_two (traps sh p (suc q)) core.set.system (ap (λ y. y.kind) (sym (steps.tells q e ∙ told_of_end c z)) ∙ k))
      by (inr z) = ((irq_parts sh p (suc q) z).1, ap (λ y. y.cause) (sym (steps.tells q e ∙ told_of_irq c z)))
