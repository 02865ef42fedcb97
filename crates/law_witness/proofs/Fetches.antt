-- The fetch keeps its law, and the instruction bus is honest.
use Rattle.std.proofs.Common.{◌≡◌, ℕ, zero, suc, ◌+◌, ◌%◌, ◌<◌, ◌≤◌, Bool, true, false, cond, not, eqb, ◌&&◌, ◌||◌, inl, inr, refl, ap, ◌∙◌, sym, subst, arith, Option, Some, None, is_some}
use Rattle.core_words.specs.Values.{one_if}
use Rattle.core_ports.specs.Trace.{Bus}
use Rattle.bus_law.specs.Duties.{KeepsDuties, breaks_form, breaks_standing, breaks_waiting, is_repeated}
use Rattle.bus_law.specs.Honest.{FetchReply, IsHonestAt, Responds, fetch_reply}
use Rattle.bus_law.specs.Memory.{Memory, word_at, written}
use Rattle.bus_law.specs.Prompt.{IsPrompt}
use Rattle.bus_law.specs.Protocol.{is_accepted, is_given, is_write, memory_at, owed}
use Rattle.isa_model.specs.Machine.{Fetched}
use Rattle.isa_model.specs.Run.{FetchedFrom}
use Rattle.plug_law.specs.Fetch.{FetchAssumed, FetchLaw, FetchSignals, IsTrueItem, fetched_as, is_taken_or_redirected, offered, owes_pc}
use Rattle.plug_law.specs.Past.{last}
use Rattle.pipe_law.proofs.Fetched.{Held, last_le}
use Rattle.plug_law.specs.Pipeline.{enters, kill, takes}
use Rattle.pipe_law.proofs.Basics.{and_no_l, and_no_r, and_yes, both}
use Rattle.law_witness.proofs.Parts.{Fetching, answers_of, asks_of, fetching_next, got_of, is_none, offers, reply_of, shape_at, word_or}
use Rattle.law_witness.proofs.Parts.Fetching.{Asks, Awaits, Holds}
use Rattle.law_witness.specs.Met.{World}
use Rattle.law_witness.proofs.Whole.{at, db, ib, inst, ready_d, ready_i, wires_at}

abbrev pub got_as : Option ℕ → Fetched
got_as got = fetched_as (is_none got) (word_or got)

-- a reply is what memory holds
reply_right : (held : Option ℕ) → FetchReply held (one_if (is_none held)) (word_or held)
reply_right None = refl
reply_right (Some word) = (refl, refl)

-- so is what it gives
pub fetched_right : (m : Memory) (pc : ℕ) (held : Option ℕ) → word_at m pc ≡ held → FetchedFrom m pc (got_as held)
fetched_right m pc None e = e
fetched_right m pc (Some word) e = e

-- equal words
some_is : (a b : ℕ) → ◌≡◌ {A = Option ℕ} (Some a) (Some b) → a ≡ b
some_is a b e = cc

-- nothing is no word
none_some : (j : ℕ) → ◌≡◌ {A = Option ℕ} None (Some j) → ⊥
none_some j e = cc

-- a word in flight was in memory as some cycle began, with no fence since
record Since (f : FetchSignals) (mem : ℕ → Memory) (s pc : ℕ) (got : Fetched) : Type 0 where
  cycle : ℕ
  after_reset : 1 ≤ cycle
  after_fence : last f.fence (suc s) ≤ cycle
  by_then : cycle ≤ s
  gives : FetchedFrom (mem cycle) pc got

-- a word in flight
since_of : (f : FetchSignals) (mem : ℕ → Memory) (s pc : ℕ) (got : Fetched) → Held f mem s pc got → Since f mem s pc got
unfolding Held last
since_of f mem zero pc got h = absurd h
since_of f mem (suc s) pc got (inl g) = record { cycle = suc s; after_reset = omega arith; after_fence = by (f.fence (suc s)); by_then = omega arith; gives = g }
  where
    by : (b : Bool) → cond b (suc s) (last f.fence (suc s)) ≤ suc s
    by true = omega arith
    by false = last_le f.fence (suc s)
since_of f mem (suc s) pc got (inr g) =
    let h = since_of f mem s pc got g.1 in
    let e : last f.fence (suc (suc s)) ≡ last f.fence (suc s) = ap (λ b. cond b (suc s) (last f.fence (suc s))) g.0 in
    record { cycle = h.cycle; after_reset = h.after_reset; after_fence = subst (λ z. z ≤ h.cycle) (sym e) h.after_fence; by_then = (let l : h.cycle ≤ s = h.by_then in omega arith); gives = h.gives }

-- so what is offered is true
item_of : (f : FetchSignals) (mem : ℕ → Memory) (s : ℕ) → Held f mem s (f.pc (suc s)) (offered f (suc s)) → IsTrueItem f mem (suc s)
item_of f mem s h =
    let i = since_of f mem s (f.pc (suc s)) (offered f (suc s)) h in
    record { cycle = i.cycle; after_reset = i.after_reset; after_fence = i.after_fence; by_then = (let l : i.cycle ≤ s = i.by_then in omega arith); gives = i.gives }

module _ (o : World) where
  abbrev pub f : FetchSignals
  f = (inst o).fetch

  abbrev pub x_at : ℕ → Fetching
  x_at t = (at o t).fetching

  abbrev pub bus : Bus
  bus = ib o

  -- ---- memory
  pub mem_is : (t : ℕ) → memory_at o.memory (db o) t ≡ (at o t).memory
  unfolding at memory_at is_write is_accepted is_given ready_d
  mem_is zero = refl
  mem_is (suc zero) = refl
  mem_is (suc (suc t)) = λ i. cond (is_write (db o) (suc t)) (written (mem_is (suc t) i) ((db o).cmd_addr (suc t)) ((db o).cmd_data (suc t)) ((db o).cmd_mask (suc t))) (mem_is (suc t) i)

  abbrev pub mem : ℕ → Memory
  mem = memory_at o.memory (db o)

  -- what memory holds at the pc that Predict says
  abbrev ahead : ℕ → Option ℕ
  ahead t = word_at (at o (suc t)).memory (o.predict (at o (suc t)).fpc (f.word (suc t)))

  -- ---- what is owed
  abbrev Owes : ℕ → Fetching → Type 0
  Owes t Asks = owed bus t ≡ None
  Owes t (Awaits stale reply) = (j : ℕ) × (owed bus t ≡ Some j) × (reply ≡ word_at (at o j).memory (at o j).fpc)
  Owes t (Holds got) = owed bus t ≡ None

  -- what is owed in the next cycle
  owed_next : (t : ℕ) → owed bus (suc (suc t)) ≡ cond (eqb (asks_of (x_at (suc t))) 1 && eqb (asks_of (x_at (suc t))) 1) (Some (suc t)) (cond (eqb (answers_of (x_at (suc t))) 1) None (owed bus (suc t)))
  unfolding owed is_accepted is_given ready_i
  owed_next t = refl

  -- by what the fetch is at
  owes_step : (t : ℕ) (x : Fetching) → x_at (suc t) ≡ x → (rd tk : Bool) → Owes (suc t) x → Owes (suc (suc t)) (fetching_next rd tk (word_at (at o (suc t)).memory (at o (suc t)).fpc) (ahead t) x)
  owes_step t Asks e rd tk w = (suc t, owed_next t ∙ ap (λ y. cond (eqb (asks_of y) 1 && eqb (asks_of y) 1) (Some (suc t)) (cond (eqb (answers_of y) 1) None (owed bus (suc t)))) e, refl)
  owes_step t (Awaits stale reply) e rd tk w = by (stale || rd)
    where
      none : owed bus (suc (suc t)) ≡ None
      none = owed_next t ∙ ap (λ y. cond (eqb (asks_of y) 1 && eqb (asks_of y) 1) (Some (suc t)) (cond (eqb (answers_of y) 1) None (owed bus (suc t)))) e

      by : (b : Bool) → Owes (suc (suc t)) (cond b Asks (Holds reply))
      by true = none
      by false = none
  owes_step t (Holds got) e rd tk w = by rd tk
    where
      none : owed bus (suc (suc t)) ≡ None
      none = owed_next t ∙ ap (λ y. cond (eqb (asks_of y) 1 && eqb (asks_of y) 1) (Some (suc t)) (cond (eqb (answers_of y) 1) None (owed bus (suc t)))) e ∙ w

      by : (b d : Bool) → Owes (suc (suc t)) (cond b Asks (cond d (Holds (ahead t)) (Holds got)))
      by true d = none
      by false true = none
      by false false = none

  -- in each cycle
  owes_at : (t : ℕ) → Owes (suc t) (x_at (suc t))
  unfolding at owed is_accepted is_given
  owes_at zero = refl
  owes_at (suc t) = owes_step t (x_at (suc t)) refl (f.redirect (suc t)) (f.take (suc t)) (owes_at t)

  -- ---- the bus is honest
  responds : (t : ℕ) (x : Fetching) → x_at (suc t) ≡ x → Owes (suc t) x → Responds fetch_reply bus mem (suc t) (owed bus (suc t))
  unfolding ready_i
  responds t Asks e w = subst (Responds fetch_reply bus mem (suc t)) (sym w) (ap answers_of e)
  responds t (Awaits stale reply) e w =
      subst (Responds fetch_reply bus mem (suc t)) (sym w.1) (
        ap asks_of e,
        λ v. subst (λ y. FetchReply y (one_if (is_none (reply_of (x_at (suc t))))) (word_or (reply_of (x_at (suc t)))))
            (ap reply_of e ∙ w.2 ∙ ap (λ m. word_at m (at o w.0).fpc) (sym (mem_is w.0))) (reply_right (reply_of (x_at (suc t)))),
      )
  responds t (Holds got) e w = subst (Responds fetch_reply bus mem (suc t)) (sym w) (ap answers_of e)

  -- the instruction bus is honest
  pub honest_i : (t : ℕ) → IsHonestAt fetch_reply bus mem t
  unfolding at ready_i owed
  honest_i zero = record { starts = λ z. refl; responds = refl }
  honest_i (suc t) = record { starts = λ z. absurd (omega arith); responds = responds t (x_at (suc t)) refl (owes_at t) }

  -- ---- an item is taken only where it is offered
  pub no_take : (t : ℕ) (x : Fetching) → x_at t ≡ x → offers x ≡ false → f.take t ≡ false
  unfolding takes
  no_take t x e z = and_no_l (offers (x_at t) && enters (shape_at o.reset_pc) (wires_at o t) 0) (not ((wires_at o t).hazard.hold 0) && (not (kill (shape_at o.reset_pc) (wires_at o t) 0) && not (at o t).stopped))
      (and_no_l (offers (x_at t)) (enters (shape_at o.reset_pc) (wires_at o t) 0) (ap offers e ∙ z))

  -- the pc of the next cycle
  pc_next : (t : ℕ) → (at o (suc (suc t))).fpc ≡ cond (f.redirect (suc t)) (at o (suc t)).apc (cond (f.take (suc t)) (o.predict (at o (suc t)).fpc (f.word (suc t))) (at o (suc t)).fpc)
  unfolding at
  pc_next t = refl

  -- what the fetch is at then
  x_next : (t : ℕ) → x_at (suc (suc t)) ≡ fetching_next (f.redirect (suc t)) (f.take (suc t)) (word_at (at o (suc t)).memory (at o (suc t)).fpc) (ahead t) (x_at (suc t))
  unfolding at
  x_next t = refl

  -- without a take or a redirect the pc stays
  pc_kept : (t : ℕ) → f.redirect (suc t) ≡ false → f.take (suc t) ≡ false → (at o (suc (suc t))).fpc ≡ (at o (suc t)).fpc
  pc_kept t r k = pc_next t ∙ (λ i. cond (r i) (at o (suc t)).apc (cond (k i) (o.predict (at o (suc t)).fpc (f.word (suc t))) (at o (suc t)).fpc))

  -- ---- its words are those that memory held
  abbrev Right : ℕ → Fetching → Type 0
  Right s Asks = Unit {0}
  Right s (Awaits true reply) = Unit {0}
  Right s (Awaits false reply) = Held f mem s (at o (suc s)).fpc (got_as reply)
  Right s (Holds got) = Held f mem s (at o (suc s)).fpc (got_as got)

  -- and so does what is in flight
  held_kept : (s : ℕ) (got : Option ℕ) → f.redirect (suc s) ≡ false → f.take (suc s) ≡ false → Held f mem s (at o (suc s)).fpc (got_as got) → Held f mem (suc s) (at o (suc (suc s))).fpc (got_as got)
  unfolding Held
  held_kept s got r k h = subst (λ pc. Held f mem (suc s) pc (got_as got)) (sym (pc_kept s r k)) (inr (and_no_l (f.redirect (suc s)) (at o (suc s)).flush_fence r, h))

  -- a word that is asked for is one in flight
  held_new : (s : ℕ) → f.redirect (suc s) ≡ false → f.take (suc s) ≡ false → Held f mem (suc s) (at o (suc (suc s))).fpc (got_as (word_at (at o (suc s)).memory (at o (suc s)).fpc))
  unfolding Held
  held_new s r k =
      subst (λ pc. Held f mem (suc s) pc (got_as (word_at (at o (suc s)).memory (at o (suc s)).fpc))) (sym (pc_kept s r k))
      (inl (subst (λ m. FetchedFrom m (at o (suc s)).fpc (got_as (word_at (at o (suc s)).memory (at o (suc s)).fpc))) (sym (mem_is (suc s)))
      (fetched_right (at o (suc s)).memory (at o (suc s)).fpc (word_at (at o (suc s)).memory (at o (suc s)).fpc) refl)))

  -- and so is the one behind a word that is taken
  held_ahead : (s : ℕ) → f.redirect (suc s) ≡ false → f.take (suc s) ≡ true → Held f mem (suc s) (at o (suc (suc s))).fpc (got_as (ahead s))
  unfolding Held
  held_ahead s r k =
      subst (λ pc. Held f mem (suc s) pc (got_as (ahead s)))
      (sym (pc_next s ∙ (λ i. cond (r i) (at o (suc s)).apc (cond (k i) (o.predict (at o (suc s)).fpc (f.word (suc s))) (at o (suc s)).fpc))))
      (inl (subst (λ m. FetchedFrom m (o.predict (at o (suc s)).fpc (f.word (suc s))) (got_as (ahead s))) (sym (mem_is (suc s)))
      (fetched_right (at o (suc s)).memory (o.predict (at o (suc s)).fpc (f.word (suc s))) (ahead s) refl)))

  -- by what the fetch is at
  right_step : (s : ℕ) (x : Fetching) → x_at (suc s) ≡ x → (rd tk : Bool) → f.redirect (suc s) ≡ rd → f.take (suc s) ≡ tk → Right s x
      → Right (suc s) (fetching_next rd tk (word_at (at o (suc s)).memory (at o (suc s)).fpc) (ahead s) x)
  right_step s Asks e true tk r k w = tt
  right_step s Asks e false tk r k w = held_new s r (no_take (suc s) Asks e refl)
  right_step s (Awaits true reply) e rd tk r k w = tt
  right_step s (Awaits false reply) e true tk r k w = tt
  right_step s (Awaits false reply) e false tk r k w = held_kept s reply r (no_take (suc s) (Awaits false reply) e refl) w
  right_step s (Holds got) e true tk r k w = tt
  right_step s (Holds got) e false true r k w = held_ahead s r k
  right_step s (Holds got) e false false r k w = held_kept s got r k w

  -- in each cycle
  right_at : (s : ℕ) → Right s (x_at (suc s))
  unfolding at
  right_at zero = tt
  right_at (suc s) = right_step s (x_at (suc s)) refl (f.redirect (suc s)) (f.take (suc s)) refl refl (right_at s)

  -- what is offered is in flight
  true_item : (s : ℕ) (x : Fetching) → x_at (suc s) ≡ x → Right s x → f.valid (suc s) ≡ true → Held f mem s (f.pc (suc s)) (offered f (suc s))
  true_item s Asks e w v = both (f.valid (suc s)) v (ap offers e)
  true_item s (Awaits stale reply) e w v = both (f.valid (suc s)) v (ap offers e)
  true_item s (Holds got) e w v = subst (λ y. Held f mem s (at o (suc s)).fpc (got_as (got_of y))) (sym e) w

  -- ---- its pcs come in order
  owes_pc_step : (k pc : ℕ) (r t e : Bool) → (owes_pc f o.predict o.reset_pc (suc k) ≡ Some pc → (at o (suc k)).fpc ≡ pc)
      → cond r (Some (at o (suc k)).apc) (cond t (cond e None (Some (o.predict (at o (suc k)).fpc (f.word (suc k))))) (owes_pc f o.predict o.reset_pc (suc k))) ≡ Some pc
      → cond r (at o (suc k)).apc (cond t (o.predict (at o (suc k)).fpc (f.word (suc k))) (at o (suc k)).fpc) ≡ pc
  owes_pc_step k pc true t e ih h = some_is (at o (suc k)).apc pc h
  owes_pc_step k pc false true true ih h = absurd (grind arith)
  owes_pc_step k pc false true false ih h = some_is (o.predict (at o (suc k)).fpc (f.word (suc k))) pc h
  owes_pc_step k pc false false e ih h = ih h

  -- the pc is the one that is owed
  in_order : (k pc : ℕ) → owes_pc f o.predict o.reset_pc (suc k) ≡ Some pc → (at o (suc k)).fpc ≡ pc
  unfolding at owes_pc
  in_order zero pc h = some_is o.reset_pc pc h
  in_order (suc k) pc h = owes_pc_step k pc (f.redirect (suc k)) (f.take (suc k)) (f.error (suc k)) (in_order k pc) h

  -- ---- an item stays
  stays : (k : ℕ) (x : Fetching) → x_at (suc k) ≡ x → f.valid (suc k) ≡ true → f.take (suc k) ≡ false → f.redirect (suc k) ≡ false
      → (f.valid (suc (suc k)) ≡ true) × (f.pc (suc (suc k)) ≡ f.pc (suc k)) × (f.word (suc (suc k)) ≡ f.word (suc k)) × (f.error (suc (suc k)) ≡ f.error (suc k))
  stays k Asks e v t r = both (f.valid (suc k)) v (ap offers e)
  stays k (Awaits stale reply) e v t r = both (f.valid (suc k)) v (ap offers e)
  stays k (Holds got) e v t r =
      let z : x_at (suc (suc k)) ≡ Holds got = x_next k ∙ (λ i. fetching_next (r i) (t i) (word_at (at o (suc k)).memory (at o (suc k)).fpc) (ahead k) (e i)) in
      (ap offers z, pc_kept k r t, ap (λ y. word_or (got_of y)) (z ∙ sym e), ap (λ y. is_none (got_of y)) (z ∙ sym e))

  -- ---- it is offered soon
  abbrev pub Soon : ℕ → Fetching → Type 0
  Soon s Asks = suc s ≤ last (is_taken_or_redirected f) (suc s) + 2
  Soon s (Awaits true reply) = suc s ≤ last (is_taken_or_redirected f) (suc s) + 1
  Soon s (Awaits false reply) = suc s ≤ last (is_taken_or_redirected f) (suc s) + 3
  Soon s (Holds got) = Unit {0}

  -- the last take or redirect
  since_next : (s : ℕ) (rd tk : Bool) → f.redirect (suc s) ≡ rd → f.take (suc s) ≡ tk → last (is_taken_or_redirected f) (suc (suc s)) ≡ cond (tk || rd) (suc s) (last (is_taken_or_redirected f) (suc s))
  unfolding last
  since_next s rd tk r k = λ i. cond (k i || r i) (suc s) (last (is_taken_or_redirected f) (suc s))

  -- by what the fetch is at
  soon_step : (s : ℕ) (x : Fetching) → x_at (suc s) ≡ x → (rd tk : Bool) → f.redirect (suc s) ≡ rd → f.take (suc s) ≡ tk → Soon s x
      → Soon (suc s) (fetching_next rd tk (word_at (at o (suc s)).memory (at o (suc s)).fpc) (ahead s) x)
  soon_step s Asks e true true r k w = let z : last (is_taken_or_redirected f) (suc (suc s)) ≡ suc s = since_next s true true r k in omega arith
  soon_step s Asks e true false r k w = let z : last (is_taken_or_redirected f) (suc (suc s)) ≡ suc s = since_next s true false r k in omega arith
  soon_step s Asks e false true r k w = let z : last (is_taken_or_redirected f) (suc (suc s)) ≡ suc s = since_next s false true r k in omega arith
  soon_step s Asks e false false r k w = let z : last (is_taken_or_redirected f) (suc (suc s)) ≡ last (is_taken_or_redirected f) (suc s) = since_next s false false r k in let y : suc s ≤ last (is_taken_or_redirected f) (suc s) + 2 = w in omega arith
  soon_step s (Awaits true reply) e true true r k w = let z : last (is_taken_or_redirected f) (suc (suc s)) ≡ suc s = since_next s true true r k in omega arith
  soon_step s (Awaits true reply) e true false r k w = let z : last (is_taken_or_redirected f) (suc (suc s)) ≡ suc s = since_next s true false r k in omega arith
  soon_step s (Awaits true reply) e false true r k w = let z : last (is_taken_or_redirected f) (suc (suc s)) ≡ suc s = since_next s false true r k in omega arith
  soon_step s (Awaits true reply) e false false r k w = let z : last (is_taken_or_redirected f) (suc (suc s)) ≡ last (is_taken_or_redirected f) (suc s) = since_next s false false r k in let y : suc s ≤ last (is_taken_or_redirected f) (suc s) + 1 = w in omega arith
  soon_step s (Awaits false reply) e true true r k w = let z : last (is_taken_or_redirected f) (suc (suc s)) ≡ suc s = since_next s true true r k in omega arith
  soon_step s (Awaits false reply) e true false r k w = let z : last (is_taken_or_redirected f) (suc (suc s)) ≡ suc s = since_next s true false r k in omega arith
  soon_step s (Awaits false reply) e false tk r k w = tt
  soon_step s (Holds got) e true true r k w = let z : last (is_taken_or_redirected f) (suc (suc s)) ≡ suc s = since_next s true true r k in omega arith
  soon_step s (Holds got) e true false r k w = let z : last (is_taken_or_redirected f) (suc (suc s)) ≡ suc s = since_next s true false r k in omega arith
  soon_step s (Holds got) e false true r k w = tt
  soon_step s (Holds got) e false false r k w = tt

  -- in each cycle
  pub soon_at : (s : ℕ) → Soon s (x_at (suc s))
  unfolding at last
  soon_at zero = omega arith
  soon_at (suc s) = soon_step s (x_at (suc s)) refl (f.redirect (suc s)) (f.take (suc s)) refl refl (soon_at s)

  -- so an item is offered soon
  offered_soon : (s : ℕ) (x : Fetching) → x_at (suc s) ≡ x → Soon s x → last (is_taken_or_redirected f) (suc s) + 4 ≤ suc s → f.valid (suc s) ≡ true
  offered_soon s Asks e w l = absurd (let y : suc s ≤ last (is_taken_or_redirected f) (suc s) + 2 = w in omega arith)
  offered_soon s (Awaits true reply) e w l = absurd (let y : suc s ≤ last (is_taken_or_redirected f) (suc s) + 1 = w in omega arith)
  offered_soon s (Awaits false reply) e w l = absurd (let y : suc s ≤ last (is_taken_or_redirected f) (suc s) + 3 = w in omega arith)
  offered_soon s (Holds got) e w l = ap offers e

  -- its pcs are multiples of 4
  pc_whole : (s : ℕ) → ((j : ℕ) → j < s → FetchAssumed f bus mem true o.predict j) → (at o (suc s)).fpc % 4 ≡ 0
  unfolding at
  pc_whole zero asks = o.aligned
  pc_whole (suc s) asks = by (f.redirect (suc s)) (f.take (suc s)) (pc_whole s (λ j g. asks j (omega arith)))
    where
      by : (r t : Bool) → (at o (suc s)).fpc % 4 ≡ 0 → cond r (at o (suc s)).apc (cond t (o.predict (at o (suc s)).fpc (f.word (suc s))) (at o (suc s)).fpc) % 4 ≡ 0
      by true t h = (asks s (omega arith)).whole
      by false true h = o.whole (at o (suc s)).fpc (f.word (suc s))
      by false false h = h

  -- so it keeps its duties
  keeps : (s : ℕ) (x : Fetching) → x_at (suc s) ≡ x → Owes (suc s) x → (at o (suc s)).fpc % 4 ≡ 0 → KeepsDuties bus (suc s)
  unfolding breaks_standing breaks_waiting breaks_form is_given is_accepted ready_i
  keeps s x e w h = record { stands = standing s; waits = waiting x e w; forms = and_no_r (is_given bus (suc s)) (not (eqb ((at o (suc s)).fpc % 4) 0 && true)) (ap (λ v. not (eqb v 0 && true)) h) }
    where
      once : (y : Fetching) (b : Bool) → (eqb (asks_of y) 1 && (not (eqb (asks_of y) 1 && eqb (asks_of y) 1) && b)) ≡ false
      once Asks b = refl
      once (Awaits stale reply) b = refl
      once (Holds got) b = refl

      standing : (s : ℕ) → breaks_standing bus (suc s) ≡ false
      standing zero = refl
      standing (suc s) = once (x_at (suc s)) (not (is_repeated bus (suc s)))

      waiting : (x : Fetching) → x_at (suc s) ≡ x → Owes (suc s) x → (is_given bus (suc s) && is_some (owed bus (suc s))) ≡ false
      waiting Asks e w = and_no_r (is_given bus (suc s)) (is_some (owed bus (suc s))) (ap is_some w)
      waiting (Awaits stale reply) e w = and_no_l (is_given bus (suc s)) (is_some (owed bus (suc s))) (ap (λ y. eqb (asks_of y) 1) e)
      waiting (Holds got) e w = and_no_l (is_given bus (suc s)) (is_some (owed bus (suc s))) (ap (λ y. eqb (asks_of y) 1) e)

  -- the law of Fetch
  pub fetch_law : FetchLaw (8, 4) true o.predict o.reset_pc f bus mem
  fetch_law s asks = record {
    truth = λ v. item_of f mem s (true_item s (x_at (suc s)) refl (right_at s) v);
    order = λ v pc e. in_order s pc e;
    stays = stay s;
    duties = keeps s (x_at (suc s)) refl (owes_at s) (pc_whole s asks);
    offers = λ w l prompt g. offered_soon s (x_at (suc s)) refl (soon_at s) (omega arith);
  }
    where
      stay : (s : ℕ) → 1 ≤ s → f.valid s ≡ true → f.take s ≡ false → f.redirect s ≡ false
          → (f.valid (suc s) ≡ true) × (f.pc (suc s) ≡ f.pc s) × (f.word (suc s) ≡ f.word s) × (f.error (suc s) ≡ f.error s)
      stay zero l v t r = absurd (omega arith)
      stay (suc k) l v t r = stays k (x_at (suc k)) refl v t r

  -- the bus answers in the next cycle
  once_given : (t : ℕ) (x : Fetching) → x_at (suc t) ≡ x → is_given bus (suc t) ≡ true → is_accepted bus (suc t) ≡ true
  unfolding is_given is_accepted ready_i
  once_given t x e g = and_yes (eqb (asks_of (x_at (suc t))) 1) (eqb (asks_of (x_at (suc t))) 1) g g

  -- a response comes
  answered : (t j : ℕ) (x : Fetching) → x_at (suc t) ≡ x → Owes (suc t) x → owed bus (suc t) ≡ Some j → eqb (answers_of (x_at (suc t))) 1 ≡ true
  answered t j Asks e w h = absurd (none_some j (sym w ∙ h))
  answered t j (Awaits stale reply) e w h = ap (λ y. eqb (answers_of y) 1) e
  answered t j (Holds got) e w h = absurd (none_some j (sym w ∙ h))

  -- in time
  pub prompt_i : (w t : ℕ) → IsPrompt bus w t
  unfolding is_given owed
  prompt_i w zero = record { accepts = λ g. absurd (grind arith); answers = λ j h. absurd (none_some j h) }
  prompt_i w (suc t) = record {
    accepts = λ g a. both (is_accepted bus (suc t)) (once_given t (x_at (suc t)) refl g) a;
    answers = λ j h v. both (eqb (answers_of (x_at (suc t))) 1) (answered t j (x_at (suc t)) refl (owes_at t) h) v;
  }
