-- The item in front in the next cycle: where it comes from, its decoding, its unit and its operands.
use Rattle.std.proofs.Common.{◌≡◌, ℕ, suc, ◌<◌, Bool, true, false, cond, not, eqb, List, ◌∷◌, ◌&&◌, ◌||◌, ◌⊎◌, inl, inr, set, refl, ap, ◌∙◌, sym, subst, arith, Option, Some, None}
use Rattle.std.proofs.Math.Nat.{le_refl}
use Rattle.core_words.specs.Fields.{rd_of, rs1_of, rs2_of}
use Rattle.isa_model.specs.Machine.{Machine, register}
use Rattle.isa_model.specs.Run.{now}
use Rattle.plug_law.specs.Fetch.{owes_pc}
use Rattle.plug_law.specs.Hazard.{Ahead, value_or, writer}
use Rattle.plug_law.specs.Outcome.{source_a, source_b}
use Rattle.plug_law.specs.Pipeline.{Late, Shape, Slot, ends, enters, fresh, in_front, irq, kill, leaves, made_late, member, places, retires, takes, traps, value, writes}
use Rattle.plug_law.specs.RegFile.{regs_at}
use Rattle.pipe_law.proofs.After.{after_cycle, h2_none, m2}
use Rattle.pipe_law.proofs.Basics.{and_l, and_no_l, and_no_r, and_r, both, cond_false, cond_true, not_true, or_l, or_r}
use Rattle.pipe_law.proofs.Cycle.{ends_run, enters_parts, event_none, leaves_or_none, no_flush, run_valid, takes_parts, through_none, works_no_take, writes_is, writes_parts}
use Rattle.pipe_law.proofs.Invariant.{Here, Item}
use Rattle.pipe_law.proofs.Outcome.{Good}
use Rattle.pipe_law.proofs.Registers.{FitsOne, applied, applied_shift, operand, put, zeroed_put}
use Rattle.pipe_law.proofs.Unit.{silent_writes}
use Rattle.pipe_law.specs.Core.{begin_at}
use Rattle.plug_law.specs.Pipeline as wire

module _ (c : Here) where
  open c use {core, p, run', memory, n, is_core, laws, steps, is_memory, honest, q, h, inv, within}

  -- short names
  abbrev sh : Shape
  sh = core.shape

  abbrev begin : Machine
  begin = begin_at core memory

  abbrev m : Machine
  m = now (begin_at core memory) h

  abbrev x : Slot
  x = p.slot (suc q)

  -- ---- where it comes from
  abbrev pub y2 : Slot
  y2 = p.slot (suc (suc q))

  abbrev new_item : Slot
  new_item = fresh sh p (suc q)

  -- the item in front came in this cycle, or stayed
  pub data Front : Type 0 where
    Came : takes sh p (suc q) ≡ true → y2 ≡ new_item → kill sh p (suc q) ≡ false → (p.valid (suc q) ≡ false) ⊎ (ends sh p (suc q) ≡ true) → Front
    Stayed : p.valid (suc q) ≡ true → enters sh p (suc q) ≡ false → y2 ≡ x → kill sh p (suc q) ≡ false → Front

  -- nothing else can be
  pub front : p.valid (suc (suc q)) ≡ true → Front
  front v = by (takes sh p (suc q)) refl
    where
      w : (not (kill sh p (suc q) || irq sh p (suc q)) && (takes sh p (suc q) || not (enters sh p (suc q)))) ≡ true
      w = sym (steps.valid q) ∙ v

      o : (kill sh p (suc q) || irq sh p (suc q)) ≡ false
      o = not_true (kill sh p (suc q) || irq sh p (suc q)) (and_l (not (kill sh p (suc q) || irq sh p (suc q))) (takes sh p (suc q) || not (enters sh p (suc q))) w)

      k : kill sh p (suc q) ≡ false
      k = or_l (kill sh p (suc q)) (irq sh p (suc q)) o

      by : (b : Bool) → takes sh p (suc q) ≡ b → Front
      by true e =
          let en = (takes_parts sh p (suc q) e).1 in
          Came e (steps.slot q v ∙ cond_true (enters sh p (suc q)) new_item x en) k (leaves_or_none sh p (suc q) en o)
      by false e =
          let en = not_true (enters sh p (suc q)) (sym (ap (λ b. b || not (enters sh p (suc q))) e) ∙ and_r (not (kill sh p (suc q) || irq sh p (suc q))) (takes sh p (suc q) || not (enters sh p (suc q))) w) in
          Stayed (enters_parts sh p (suc q) en).0 en (steps.slot q v ∙ cond_false (enters sh p (suc q)) new_item x en) k

  -- an item that stays does not end
  pub stays_end : enters sh p (suc q) ≡ false → ends sh p (suc q) ≡ false
  stays_end e = through_none sh p (suc q) (enters_parts sh p (suc q) e).1

  -- ---- its decoding

  -- the item that is taken is decoded right
  good_new : takes sh p (suc q) ≡ true → Good core.table new_item
  good_new t = laws.good q t

  -- the item in front is decoded right in the next cycle
  pub good_next : p.valid (suc (suc q)) ≡ true → Good core.table y2
  good_next v = by (front v)
    where
      by : Front → Good core.table y2
      by (Came t e k lv) = subst (Good core.table) (sym e) (good_new t)
      by (Stayed v n e k) = subst (Good core.table) (sym e) (inv.good v)

  -- ---- its unit

  -- and its entry is its owner
  chosen_new : takes sh p (suc q) ≡ true → (k : ℕ) → (eqb (p.decode.unit (suc q)) k && not new_item.except) ≡ (not new_item.except && eqb (core.owner new_item.row) k)
  chosen_new t k = by new_item.except refl
    where
      and_true : (a : Bool) → (a && true) ≡ a
      and_true true = refl
      and_true false = refl

      by : (b : Bool) → new_item.except ≡ b → (eqb (p.decode.unit (suc q)) k && not new_item.except) ≡ (not new_item.except && eqb (core.owner new_item.row) k)
      by true e = and_no_r (eqb (p.decode.unit (suc q)) k) (not new_item.except) (ap not e) ∙ sym (and_no_l (not new_item.except) (eqb (core.owner new_item.row) k) (ap not e))
      by false e = (λ i. eqb (laws.unit q t e i) k && not (e i)) ∙ and_true (eqb (core.owner new_item.row) k) ∙ sym (ap (λ b. not b && eqb (core.owner new_item.row) k) e)

  -- its entry is chosen
  pub chosen_next : p.valid (suc (suc q)) ≡ true → (k : ℕ) → member k sh.entries ≡ true → p.chosen k (suc (suc q)) ≡ (not y2.except && eqb (core.owner y2.row) k)
  chosen_next v k a = by (front v)
    where
      kept_or_new : (b : Bool) → enters sh p (suc q) ≡ b → p.chosen k (suc (suc q)) ≡ cond b (eqb (p.decode.unit (suc q)) k && not new_item.except) (p.chosen k (suc q))
      kept_or_new b e = steps.chosen k q v a ∙ ap (λ b. cond b (eqb (p.decode.unit (suc q)) k && not new_item.except) (p.chosen k (suc q))) e

      by : Front → p.chosen k (suc (suc q)) ≡ (not y2.except && eqb (core.owner y2.row) k)
      by (Came t e kl lv) = kept_or_new true (takes_parts sh p (suc q) t).1 ∙ chosen_new t k ∙ ap (λ z. not z.except && eqb (core.owner z.row) k) (sym e)
      by (Stayed w n e kl) = kept_or_new false n ∙ inv.chosen w k a ∙ ap (λ z. not z.except && eqb (core.owner z.row) k) (sym e)

  -- it was taken in some cycle
  pub item_next : p.valid (suc (suc q)) ≡ true → Item core p run' memory n (suc (suc q))
  item_next v = by (front v)
    where
      kept_or_new : (k : ℕ) → member k sh.entries ≡ true → (b : Bool) → enters sh p (suc q) ≡ b → p.chosen k (suc (suc q)) ≡ cond b (eqb (p.decode.unit (suc q)) k && not new_item.except) (p.chosen k (suc q))
      kept_or_new k a b e = steps.chosen k q v a ∙ ap (λ b. cond b (eqb (p.decode.unit (suc q)) k && not new_item.except) (p.chosen k (suc q))) e

      by : Front → Item core p run' memory n (suc (suc q))
      by (Came t e k lv) = record { cycle = q; before = le_refl (suc (suc q)); taken = t; is = e; chosen = λ k a. kept_or_new k a true (takes_parts sh p (suc q) t).1 }
      by (Stayed w n e k) =
          let i = inv.item w in
          record { cycle = i.cycle; before = (let z : suc i.cycle < suc q = i.before in omega arith); taken = i.taken; is = e ∙ i.is; chosen = λ k a. kept_or_new k a false n ∙ i.chosen k a }

  abbrev owes : Bool → Bool → Option ℕ
  owes r t = cond r (Some (p.fetch.redirect_pc (suc q))) (cond t (cond (p.fetch.error (suc q)) None (Some (core.predict (p.fetch.pc (suc q)) (p.fetch.word (suc q))))) (owes_pc p.fetch core.predict sh.reset_pc (suc q)))

  -- what fetch owes: an item that stays is neither redirected nor followed by a take
  pub chain_next : p.valid (suc (suc q)) ≡ true → owes_pc p.fetch core.predict sh.reset_pc (suc (suc q)) ≡ cond y2.error None (Some (core.predict y2.pc y2.word))
  unfolding owes_pc
  chain_next v = by (front v)
    where
      offered_word : (b : Bool) (pc w : ℕ) → cond b None (Some (core.predict pc w)) ≡ cond b None (Some (core.predict pc (cond b 0 w)))
      offered_word true pc w = refl
      offered_word false pc w = refl

      by : Front → owes (p.fetch.redirect (suc q)) (p.fetch.take (suc q)) ≡ cond y2.error None (Some (core.predict y2.pc y2.word))
      by (Came t e k lv) =
          (λ i. owes ((steps.redirect q ∙ k) i) ((steps.take q ∙ t) i)) ∙ offered_word (p.fetch.error (suc q)) (p.fetch.pc (suc q)) (p.fetch.word (suc q))
          ∙ ap (λ z. cond z.error None (Some (core.predict z.pc z.word))) (sym e)
      by (Stayed w n e k) =
          (λ i. owes ((steps.redirect q ∙ k) i) ((steps.take q ∙ works_no_take sh p (suc q) n) i)) ∙ inv.chain w
          ∙ ap (λ z. cond z.error None (Some (core.predict z.pc z.word))) (sym e)

  -- ---- what writes, writes a register other than 0

  -- register rd is one of 32, and not 0 where it is written
  rd_fits : p.valid (suc q) ≡ true → x.writes ≡ true → (eqb (rd_of x.word) 0 ≡ false) × (rd_of x.word < 32)
  rd_fits v w = (by x.error refl, omega arith)
    where
      g : Good core.table x
      g = inv.good v

      by_row : (o : Option ℕ) → core.table.row_of x.word ≡ o → x.error ≡ false → eqb (rd_of x.word) 0 ≡ false
      by_row None o e = both x.writes w (g.none e o).1
      by_row (Some r) o e = not_true (eqb (rd_of x.word) 0) (and_r (core.table.has_value r) (not (eqb (rd_of x.word) 0)) (sym (g.some e r o).2 ∙ w))

      by : (b : Bool) → x.error ≡ b → eqb (rd_of x.word) 0 ≡ false
      by true e = both x.writes w (g.blank e).1
      by false e = by_row (core.table.row_of x.word) refl e

  abbrev late : Late
  late = steps.late (suc q)

  -- the result that leaves the stage names a register
  pub late_fits : FitsOne late
  late_fits w =
      let wr = sym (steps.late_writes q) ∙ w in
      let r = writes_parts sh p (suc q) wr in
      let f = rd_fits (run_valid sh p (suc q) (ends_run sh p (suc q) r.0)) r.1 in
      subst (λ v. (eqb v 0 ≡ false) × (v < 32)) (sym (steps.late_rd q wr)) f

  -- where it writes nothing, it does not matter
  put_late : (regs : List ℕ) → put (made_late sh p (suc q)) regs ≡ put late regs
  put_late regs = by (writes sh p (suc q)) refl
    where
      by : (b : Bool) → writes sh p (suc q) ≡ b → put (made_late sh p (suc q)) regs ≡ put late regs
      by true w = (λ i. cond (sym (steps.late_writes q) i) (set regs (sym (steps.late_rd q w) i) (sym (steps.late_value q w) i)) regs)
      by false w = cond_false (writes sh p (suc q)) (set regs (rd_of x.word) (value sh p (suc q))) regs w ∙ sym (cond_false late.writes (set regs late.rd late.value) regs (steps.late_writes q ∙ w))

  -- ---- the registers

  -- the register file of the next cycle
  pub rf_next : regs_at p.regs core.start (suc (suc q)) ≡ put (leaves late (p.tail (suc q))) (regs_at p.regs core.start (suc q))
  unfolding regs_at
  rf_next = λ i. cond (steps.we q i) (set (regs_at p.regs core.start (suc q)) (steps.wa q i) (steps.wd q i)) (regs_at p.regs core.start (suc q))

  -- the machine's registers are those of the pipeline in the next cycle
  pub regs_next : (m2 c).regs ≡ set (applied (p.tail (suc (suc q))) (regs_at p.regs core.start (suc (suc q)))) 0 0
  regs_next =
      (after_cycle c).regs ∙ put_late m.regs ∙ ap (put late) inv.regs
      ∙ sym (zeroed_put late (applied (p.tail (suc q)) (regs_at p.regs core.start (suc q))) late_fits)
      ∙ ap (λ r. set r 0 0) (sym (applied_shift late (p.tail (suc q)) (regs_at p.regs core.start (suc q))))
      ∙ (λ i. set (applied (sym (steps.tail q) i) (sym rf_next i)) 0 0)

  -- ---- the operands that hazard gives
  abbrev front_stage : Ahead
  front_stage = in_front sh p (suc q)

  -- without a flush nothing trapped, and no interrupt and no FENCE.I came
  flush_parts : p.flush (suc (suc q)) ≡ false → (irq sh p (suc q) ≡ false) × (traps sh p (suc q) ≡ false) × ((retires sh p (suc q) && wire.fence sh p (suc q)) ≡ false)
  flush_parts f =
      let z = sym (steps.flush q) ∙ f in
      let y = or_r (irq sh p (suc q)) (traps sh p (suc q) || (retires sh p (suc q) && wire.fence sh p (suc q))) z in
      (or_l (irq sh p (suc q)) (traps sh p (suc q) || (retires sh p (suc q) && wire.fence sh p (suc q))) z, or_l (traps sh p (suc q)) (retires sh p (suc q) && wire.fence sh p (suc q)) y, or_r (traps sh p (suc q)) (retires sh p (suc q) && wire.fence sh p (suc q)) y)

  -- where an item is taken, the one in front leaves with its result
  front_writes : (p.valid (suc q) ≡ false) ⊎ (ends sh p (suc q) ≡ true) → p.flush (suc (suc q)) ≡ false → (p.valid (suc q) && x.writes) ≡ writes sh p (suc q)
  front_writes (inl v) f = ap (λ b. b && x.writes) v ∙ sym (no_write (writes sh p (suc q)) refl)
    where
      no_write : (b : Bool) → writes sh p (suc q) ≡ b → writes sh p (suc q) ≡ false
      no_write true w = both (p.valid (suc q)) (run_valid sh p (suc q) (ends_run sh p (suc q) (writes_parts sh p (suc q) w).0)) v
      no_write false w = w
  front_writes (inr e) f =
      let v = run_valid sh p (suc q) (ends_run sh p (suc q) e) in
      ap (λ b. b && x.writes) v ∙ sym (writes_is sh p (suc q) e (silent_writes c v) ∙ ap (λ b. not b && x.writes) (flush_parts f).1)

  -- then the machine's registers are those with the result in front
  given_regs : (p.valid (suc q) ≡ false) ⊎ (ends sh p (suc q) ≡ true) → p.flush (suc (suc q)) ≡ false
      → put (record { writes = p.valid (suc q) && x.writes; rd = rd_of x.word; value = value sh p (suc q) }) (set (applied (p.tail (suc q)) (regs_at p.regs core.start (suc q))) 0 0) ≡ (m2 c).regs
  given_regs lv f =
      (λ i. put (record { writes = front_writes lv f i; rd = rd_of x.word; value = value sh p (suc q) }) (sym inv.regs i)) ∙ sym (after_cycle c).regs

  -- the item in front names a register
  front_fits : front_stage.writes ≡ true → (eqb front_stage.rd 0 ≡ false) × (front_stage.rd < 32)
  front_fits w = rd_fits (and_l (p.valid (suc q)) x.writes w) (and_r (p.valid (suc q)) x.writes w)

  -- an operand of the item that is taken is a register of the machine
  operand_is : (r plain : ℕ) → (p.valid (suc q) ≡ false) ⊎ (ends sh p (suc q) ≡ true) → p.flush (suc (suc q)) ≡ false → plain ≡ register (regs_at p.regs core.start (suc q)) r
      → value_or (writer core.bypassed (front_stage ∷ places 2 (p.tail (suc q))) r) plain ≡ register (m2 c).regs r
  operand_is r plain lv f e =
      operand core.bypassed front_stage (p.tail (suc q)) (regs_at p.regs core.start (suc q)) r plain inv.size (steps.tail_short q) inv.fits front_fits e
      ∙ ap (λ y. register y r) (given_regs lv f)

  -- the first operand
  a_new : takes sh p (suc q) ≡ true → (p.valid (suc q) ≡ false) ⊎ (ends sh p (suc q) ≡ true) → p.flush (suc (suc q)) ≡ false → new_item.except ≡ false → core.table.uses_a new_item.row ≡ true → new_item.a ≡ source_a (m2 c) new_item.word
  a_new t lv f pl us =
      laws.a q t pl us
      ∙ operand_is (rs1_of new_item.word) (register (regs_at p.regs core.start (suc q)) (rs1_of new_item.word)) lv f refl

  -- the second
  b_new : takes sh p (suc q) ≡ true → (p.valid (suc q) ≡ false) ⊎ (ends sh p (suc q) ≡ true) → p.flush (suc (suc q)) ≡ false → new_item.except ≡ false → core.table.uses_b new_item.row ≡ true → new_item.b ≡ source_b (m2 c) new_item.word
  b_new t lv f pl us =
      laws.b q t pl us
      ∙ operand_is (rs2_of new_item.word) (register (regs_at p.regs core.start (suc q)) (rs2_of new_item.word)) lv f refl

  -- an item that stays, where nothing is flushed: the machine is the same
  stays_m : ends sh p (suc q) ≡ false → p.flush (suc (suc q)) ≡ false → m ≡ (m2 c)
  stays_m n f = sym (ap (now begin) (h2_none c (event_none sh p (suc q) n (flush_parts f).0)))

  -- the first operand in the next cycle
  pub a_next : p.valid (suc (suc q)) ≡ true → p.flush (suc (suc q)) ≡ false → y2.except ≡ false → core.table.uses_a y2.row ≡ true → y2.a ≡ source_a (m2 c) y2.word
  a_next v f pl us = by (front v)
    where
      by : Front → y2.a ≡ source_a (m2 c) y2.word
      by (Came t e k lv) = ap (λ z. z.a) e ∙ a_new t lv f (ap (λ z. z.except) (sym e) ∙ pl) (ap (λ z. core.table.uses_a z.row) (sym e) ∙ us) ∙ ap (λ z. source_a (m2 c) z.word) (sym e)
      by (Stayed w n e k) = ap (λ z. z.a) e ∙ inv.a w (no_flush sh p (suc q) k) (ap (λ z. z.except) (sym e) ∙ pl) (ap (λ z. core.table.uses_a z.row) (sym e) ∙ us) ∙ (λ i. source_a (stays_m (stays_end n) f i) (sym e i).word)

  -- the second
  pub b_next : p.valid (suc (suc q)) ≡ true → p.flush (suc (suc q)) ≡ false → y2.except ≡ false → core.table.uses_b y2.row ≡ true → y2.b ≡ source_b (m2 c) y2.word
  b_next v f pl us = by (front v)
    where
      by : Front → y2.b ≡ source_b (m2 c) y2.word
      by (Came t e k lv) = ap (λ z. z.b) e ∙ b_new t lv f (ap (λ z. z.except) (sym e) ∙ pl) (ap (λ z. core.table.uses_b z.row) (sym e) ∙ us) ∙ ap (λ z. source_b (m2 c) z.word) (sym e)
      by (Stayed w n e k) = ap (λ z. z.b) e ∙ inv.b w (no_flush sh p (suc q) k) (ap (λ z. z.except) (sym e) ∙ pl) (ap (λ z. core.table.uses_b z.row) (sym e) ∙ us) ∙ (λ i. source_b (stays_m (stays_end n) f i) (sym e i).word)
