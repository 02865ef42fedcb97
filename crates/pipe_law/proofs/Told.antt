-- What the ports tell of a cycle, the write that waits for its event, and the duties on the data bus.
use Rattle.std.proofs.Common.{◌≡◌, ℕ, suc, Bool, true, false, cond, not, List, [], ◌∷◌, ◌&&◌, ◌⊎◌, inl, inr, refl, ap, ◌∙◌, sym, subst, arith, Option, Some, None}
use Rattle.std.specs.Prelude.{option_to_list}
use Rattle.core_words.specs.Fields.{rd_of}
use Rattle.core_ports.specs.Trace.{Bus, data_bus}
use Rattle.bus_law.specs.Duties.{KeepsDuties}
use Rattle.bus_law.specs.Memory.{Memory, Store, with_store}
use Rattle.isa_csr.specs.Csrs.{Csrs}
use Rattle.isa_model.specs.Effects.{Effect, Moment, write_of}
use Rattle.isa_model.specs.Effects.Effect.{Does, Rests, Traps}
use Rattle.isa_model.specs.Machine.{Machine}
use Rattle.isa_model.specs.Run.{Possible, now}
use Rattle.isa_model.specs.Step.{Done, done_of, outcome_of, retire, trap}
use Rattle.isa_follow.specs.Follows.{Made}
use Rattle.plug_law.specs.Exec.{effect_at, made_by}
use Rattle.plug_law.specs.Outcome.{effect_on}
use Rattle.plug_law.specs.Pipeline.{Shape, Slot, asked, ends, event, faulty, irq, member, run, told, trap_cause, traps, value, wins}
use Rattle.pipe_law.proofs.After.{after_cycle, h2, h2_none, i_pc, m2, pend_event, pend_none}
use Rattle.pipe_law.proofs.Basics.{and_l, and_no_r, and_r, cond_false, cond_true, not_true}
use Rattle.pipe_law.proofs.Cycle.{asked_is, ends_run, faulty_is, irq_parts, wins_is}
use Rattle.pipe_law.proofs.End.{bus_is}
use Rattle.pipe_law.proofs.Invariant.{Here, bus_at, fetched_in, pend}
use Rattle.pipe_law.proofs.Outcome.{unit_outcome}
use Rattle.pipe_law.proofs.Unit.{Head, at_pc, effect_is, goes, head, kept, list_inj, no_fence, own, running, silent_writes}
use Rattle.pipe_law.proofs.Work.{w_none, w_pend, w_plain}
use Rattle.pipe_law.specs.Core.{begin_at, csrs_in, mem_of, moment_at}

module _ (c : Here) where
  open c use {core, p, run', memory, n, is_core, laws, steps, is_memory, honest, q, h, inv, within}

  -- short names
  abbrev sh : Shape
  sh = core.shape

  abbrev moments : ℕ → Moment
  moments = moment_at run'

  abbrev db : Bus
  db = data_bus run'

  abbrev mem : ℕ → Memory
  mem = mem_of memory run'

  abbrev csr : ℕ → Csrs
  csr = csrs_in core p run' memory

  abbrev bus : ℕ → Bus
  bus = bus_at core run'

  abbrev begin : Machine
  begin = begin_at core memory

  abbrev m : Machine
  m = now (begin_at core memory) h

  abbrev x : Slot
  x = p.slot (suc q)

  abbrev u : ℕ
  u = core.owner (p.slot (suc q)).row

  -- ---- the event

  -- an end on the ports
  pub told_of_end : (e : ends sh p (suc q) ≡ true) → told sh p (suc q) ≡ record {
    kind = cond (traps sh p (suc q)) (cond core.set.system 1 3) 0;
    pc = m.pc;
    word = x.word;
    rd = cond (not (traps sh p (suc q)) && x.writes) (rd_of x.word) 0;
    value = cond (not (traps sh p (suc q)) && x.writes) (value sh p (suc q)) 0;
    cause = cond (traps sh p (suc q)) (trap_cause sh p (suc q)) 0;
  }
  unfolding told
  told_of_end e =
      let hd = head c (ends_run sh p (suc q) e) in
      let f = sym (faulty_is sh p (suc q) e) in
      let w = ends_wins hd e in
      (λ i. record {
        kind = (cond_false (asked sh p (suc q)) 2 (cond (faulty sh p (suc q)) (cond sh.system 1 3) 0) hd.calm ∙ (λ o. cond (f o) (cond (is_core.system o) 1 3) 0)) i;
        pc = (sym hd.path ∙ at_pc c hd) i;
        word = cond_false (asked sh p (suc q)) 0 x.word hd.calm i;
        rd = cond (w i) (rd_of x.word) 0;
        value = cond (w i) (value sh p (suc q)) 0;
        cause = (cond_false (asked sh p (suc q)) (p.system.irq_cause (suc q)) (cond (faulty sh p (suc q)) (trap_cause sh p (suc q)) 0) hd.calm ∙ ap (λ b. cond b (trap_cause sh p (suc q)) 0) f) i;
      })
    where
      and_true : (a : Bool) → (a && true) ≡ a
      and_true true = refl
      and_true false = refl

      ends_wins : Head c → ends sh p (suc q) ≡ true → (wins sh p (suc q) && not (asked sh p (suc q))) ≡ (not (traps sh p (suc q)) && x.writes)
      ends_wins hd e = ap (λ b. wins sh p (suc q) && not b) hd.calm ∙ and_true (wins sh p (suc q)) ∙ wins_is sh p (suc q) e (silent_writes c hd.valid)

  -- an interrupt on the ports
  pub told_of_irq : irq sh p (suc q) ≡ true → told sh p (suc q) ≡ record { kind = 2; pc = m.pc; word = 0; rd = 0; value = 0; cause = p.system.irq_cause (suc q) }
  unfolding told
  told_of_irq i =
      let a = asked_is sh p (suc q) (irq_parts sh p (suc q) i).3 ∙ i in
      let w = and_no_r (wins sh p (suc q)) (not (asked sh p (suc q))) (ap not a) in
      (λ k. record {
        kind = cond_true (asked sh p (suc q)) 2 (cond (faulty sh p (suc q)) (cond sh.system 1 3) 0) a k;
        pc = sym (i_pc c i) k;
        word = cond_true (asked sh p (suc q)) 0 x.word a k;
        rd = cond (w k) (rd_of x.word) 0;
        value = cond (w k) (value sh p (suc q)) 0;
        cause = cond_true (asked sh p (suc q)) (p.system.irq_cause (suc q)) (cond (faulty sh p (suc q)) (trap_cause sh p (suc q)) 0) a k;
      })

  -- ---- the write that some next step makes
  abbrev effect_here : Effect
  effect_here = effect_at core.table (p.unit u) mem csr moments (suc q)

  -- a write that waits is one that the item in front makes
  pending_made : (r : run sh p (suc q) ≡ true) (nend : ends sh p (suc q) ≡ false) (w : Store) → pend sh p run' (suc (suc q)) ≡ Some w → Made core.set begin h (Some w)
  pending_made r nend w z =
      let pl = w_plain c r nend in
      let hd = head c r in
      let law = (kept c u (own c r pl).0).writes (goes c r pl) in
      made_by_effect hd pl w effect_here (effect_is c r pl) (write_is law)
    where
      some_of : (y : List Store) (w : Store) (o : Option Store) → y ≡ (w ∷ []) → (y ≡ []) ⊎ (y ≡ option_to_list o) → o ≡ Some w
      some_of y w o g (inl k) = absurd (let e : (w ∷ []) ≡ [] = sym g ∙ k in grind arith)
      some_of y w o g (inr k) = sym (list_inj (Some w) o (sym g ∙ k))

      write_is : (made_by (p.unit u) (bus u) (suc q) ≡ []) ⊎ (made_by (p.unit u) (bus u) (suc q) ≡ option_to_list (write_of effect_here)) → write_of effect_here ≡ Some w
      write_is law = some_of (made_by (p.unit u) (bus u) (suc q)) w (write_of effect_here) (w_pend c r nend ∙ ap option_to_list (sym (pend_none c (w_none c r nend)) ∙ z)) law

      outcome_is : Head c → x.except ≡ false → (f : Effect) → effect_on core.table m x.row x.word (moments (suc q)) ≡ f → outcome_of core.set m (fetched_in x) (moments (suc q)) ≡ done_of core.set.system m x.word f
      outcome_is hd pl f y =
          is_core.means m (fetched_in x) (moments (suc q)) ∙ unit_outcome core.set.system core.table is_core.table m x (moments (suc q)) (inv.good hd.valid) f pl y

      step_of : Head c → x.except ≡ false → (f : Effect) → effect_on core.table m x.row x.word (moments (suc q)) ≡ f → (v : Store) → write_of f ≡ Some v
          → (d : Done) × (outcome_of core.set m (fetched_in x) (moments (suc q)) ≡ Some d) × (d.write ≡ Some v)
      step_of hd pl (Traps a b wr) y v g = (trap core.set.system m x.word a b wr, outcome_is hd pl (Traps a b wr) y, by_sys core.set.system a b wr v g)
        where
          by_sys : (sy : Bool) (a b : ℕ) (wr : Option Store) (v : Store) → wr ≡ Some v → (trap sy m x.word a b wr).write ≡ Some v
          by_sys true a b wr v g = g
          by_sys false a b wr v g = g
      step_of hd pl Rests y v g = absurd (grind arith)
      step_of hd pl (Does o nx wr cs) y v g = (retire m x.word o nx wr cs, outcome_is hd pl (Does o nx wr cs) y, g)

      made_by_effect : Head c → x.except ≡ false → (v : Store) (f : Effect) → f ≡ effect_on core.table m x.row x.word (moments (suc q)) → write_of f ≡ Some v → Made core.set begin h (Some v)
      made_by_effect hd pl v f y g =
          let d = step_of hd pl f (sym y) v g in (
            fetched_in x,
            moments (suc q),
            d.0,
            subst (λ i. Possible begin h i (fetched_in x)) (at_pc c hd) (inv.truth hd.valid (no_fence c hd.flush)),
            record { goes = running c hd; how = inr d.1 },
            d.2,
          )

  -- and so in the next cycle
  pub made_next : (w : Store) → pend sh p run' (suc (suc q)) ≡ Some w → Made core.set begin (h2 c) (Some w)
  made_next w z = by (run sh p (suc q) && not (ends sh p (suc q))) refl
    where
      by : (b : Bool) → (run sh p (suc q) && not (ends sh p (suc q))) ≡ b → Made core.set begin (h2 c) (Some w)
      by true e =
          let r = and_l (run sh p (suc q)) (not (ends sh p (suc q))) e in
          let nend = not_true (ends sh p (suc q)) (and_r (run sh p (suc q)) (not (ends sh p (suc q))) e) in
          subst (λ y. Made core.set begin y (Some w)) (sym (h2_none c (w_none c r nend))) (pending_made r nend w z)
      by false e = absurd (let k : None ≡ Some w = sym ((after_cycle c).idle e) ∙ z in grind arith)

  -- after an event memory is the machine's
  pub memory_event : event sh p (suc q) ≡ true → (m2 c).memory ≡ mem (suc (suc q))
  memory_event e = sym ((after_cycle c).memory_is ∙ ap (with_store (m2 c).memory) (pend_event c e))

  -- ---- the duties

  -- of the unit that has the data bus
  pub data_kept : (k : ℕ) → member k sh.entries ≡ true → core.holds k ≡ true → KeepsDuties db (suc q)
  data_kept k a o = subst (λ b. KeepsDuties b (suc q)) (bus_is c k o) (kept c k a).duties
