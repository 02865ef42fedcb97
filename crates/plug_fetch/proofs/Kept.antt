-- What the part keeps in each cycle: truth, order, that an item stays, and the duties of its bus.
use Rattle.std.proofs.Common.{◌≡◌, ℕ, zero, suc, ◌+◌, ◌%◌, ◌<◌, ◌≤◌, Bool, true, false, cond, not, eqb, ltb, List, [], ◌∷◌, ◌++◌, length, ◌&&◌, ◌||◌, Option, Some, refl, sym, ap, ◌∙◌, subst, arith}
use Rattle.std.specs.Prelude.{is_some}
use Rattle.core_words.specs.Values.{one_if}
use Rattle.core_ports.specs.Trace.{Bus}
use Rattle.bus_law.specs.Memory.{Memory}
use Rattle.bus_law.specs.Protocol.{is_given, is_accepted, owed}
use Rattle.bus_law.specs.Duties.{is_mask, is_repeated, breaks_standing, breaks_waiting, breaks_form, KeepsDuties}
use Rattle.plug_law.specs.Past.{last}
use Rattle.isa_model.specs.Run.{FetchedFrom}
use Rattle.plug_law.specs.Fetch.{FetchSignals, fetched_as, IsTrueItem, owes_pc, FetchAssumed}
use Rattle.plug_fetch.proofs.Queue.{Item, Registers, rest_of, put_last, kept, came, queue_after, pc_after, Offers, IsQueue}
use Rattle.plug_fetch.proofs.Truths.{and_l, and_r, both, not_true, eqb_refl}
use Rattle.plug_fetch.proofs.Wires.{idle_if, given_if}
use Rattle.plug_fetch.proofs.Invariant.{IsGiven, Leads, AllTrue, Inv, Phase, inv, given_is, accepted_is}
use Rattle.plug_fetch.proofs.Invariant.Phase.{Rests, Asks, Waits}

module _ (depth reset_pc : ℕ) (f : FetchSignals) (guess : ℕ → ℕ) (ib : Bus) (mem : ℕ → Memory) (predicts : Bool) (predict : ℕ → ℕ → ℕ) (r : Registers) where
  truth_of : (t : ℕ) (q : List Item) → Offers q (f.valid t) (f.pc t) (f.word t) (f.error t) → f.valid t ≡ true → last f.fence t ≤ last f.redirect t → AllTrue mem (last f.redirect t) t q → IsTrueItem f mem t
  truth_of t [] offers e fences all = both (f.valid t) e offers
  truth_of t (x ∷ xs) offers e fences all =
      let h = all.0 in
      let after : last f.redirect t < h.cycle = h.after in
      let before : h.cycle < t = h.before in
      record {
        cycle = h.cycle;
        after_reset = omega arith;
        after_fence = omega arith;
        by_then = omega arith;
        gives =
            subst (λ z. FetchedFrom (mem h.cycle) z (fetched_as (f.error t) (f.word t))) (sym offers.1)
            (subst (λ z. FetchedFrom (mem h.cycle) x.pc (fetched_as z (f.word t))) (sym offers.3)
            (subst (λ z. FetchedFrom (mem h.cycle) x.pc (fetched_as x.error z)) (sym offers.2) h.gives));
      }

  order_of : (t next_pc : ℕ) (q : List Item) (o : Option ℕ) → Offers q (f.valid t) (f.pc t) (f.word t) (f.error t) → f.valid t ≡ true → Leads predict o q next_pc → (pc : ℕ) → o ≡ Some pc → f.pc t ≡ pc
  order_of t next_pc [] o offers e leads pc g = both (f.valid t) e offers
  order_of t next_pc (x ∷ xs) o offers e leads pc g = offers.1 ∙ leads.0 pc g

  stays_of : (s t : ℕ) (kp : Bool) (q : List Item) (x : Item) → Offers q (f.valid s) (f.pc s) (f.word s) (f.error s) → f.valid s ≡ true → Offers (cond kp (put_last depth q x) q) (f.valid t) (f.pc t) (f.word t) (f.error t)
      → (f.valid t ≡ true) × (f.pc t ≡ f.pc s) × (f.word t ≡ f.word s) × (f.error t ≡ f.error s)
  stays_of s t kp [] x offers e next = both (f.valid s) e offers
  stays_of s t kp (z ∷ zs) x offers e next = by kp (ltb (length (z ∷ zs)) depth) next
    where
      same_head : (ys : List Item) → Offers (z ∷ ys) (f.valid t) (f.pc t) (f.word t) (f.error t) → (f.valid t ≡ true) × (f.pc t ≡ f.pc s) × (f.word t ≡ f.word s) × (f.error t ≡ f.error s)
      same_head ys n = (n.0, n.1 ∙ sym offers.1, n.2 ∙ sym offers.2, n.3 ∙ sym offers.3)

      by : (k c : Bool) → Offers (cond k (cond c ((z ∷ zs) ++ x ∷ []) (z ∷ zs)) (z ∷ zs)) (f.valid t) (f.pc t) (f.word t) (f.error t) → (f.valid t ≡ true) × (f.pc t ≡ f.pc s) × (f.word t ≡ f.word s) × (f.error t ≡ f.error s)
      by true true n = same_head (zs ++ x ∷ []) n
      by true false n = same_head zs n
      by false c n = same_head zs n

  -- the words that are there or on their way
  abbrev pub words : ℕ → ℕ
  words t = length (r.queue t) + one_if (r.owed t && not (r.dropped t))

  pub words_most : (s : ℕ) → Inv depth reset_pc f guess ib mem predicts predict r (suc s) → words (suc s) ≤ depth
  words_most s i = by (r.owed (suc s) && not (r.dropped (suc s))) refl
    where
      or_true : (a b : Bool) → b ≡ true → (a || b) ≡ true
      or_true true b h = refl
      or_true false b h = h

      by : (c : Bool) → (r.owed (suc s) && not (r.dropped (suc s))) ≡ c → length (r.queue (suc s)) + one_if c ≤ depth
      by true e =
          let o = and_l (r.owed (suc s)) (not (r.dropped (suc s))) e in
          let d = not_true (r.dropped (suc s)) (and_r (r.owed (suc s)) (not (r.dropped (suc s))) e) in
          let w : length (r.queue (suc s)) < depth = (i.wants (or_true (r.given (suc s)) (r.owed (suc s)) o) d).1 in
          omega arith
      by false e = let w = i.room in omega arith

  module _ (m : IsQueue depth reset_pc f guess ib r) (given : IsGiven reset_pc f guess ib mem predicts predict r) (s : ℕ) (h : (j : ℕ) → j < s → FetchAssumed f ib mem predicts predict j) where
    abbrev i : Inv depth reset_pc f guess ib mem predicts predict r (suc s)
    i = inv depth reset_pc f guess ib mem predicts predict r m given s h

    pub truth : f.valid (suc s) ≡ true → IsTrueItem f mem (suc s)
    truth e = truth_of (suc s) (r.queue (suc s)) (m.offers s) e i.fences i.true_items

    pub order : f.valid (suc s) ≡ true → (pc : ℕ) → owes_pc f predict reset_pc (suc s) ≡ Some pc → f.pc (suc s) ≡ pc
    order e = order_of (suc s) (r.next_pc (suc s)) (r.queue (suc s)) (owes_pc f predict reset_pc (suc s)) (m.offers s) e i.leads

    waits : breaks_waiting ib (suc s) ≡ false
    unfolding breaks_waiting
    waits = by i.phase
      where
        and_false : (b : Bool) → (b && false) ≡ false
        and_false true = refl
        and_false false = refl

        by : Phase depth reset_pc f guess ib mem predicts predict r (suc s) → (is_given ib (suc s) && is_some (owed ib (suc s))) ≡ false
        by (Rests g o w) = (λ j. is_given ib (suc s) && is_some (w j)) ∙ and_false (is_given ib (suc s))
        by (Asks g o w d) = (λ j. is_given ib (suc s) && is_some (w j)) ∙ and_false (is_given ib (suc s))
        by (Waits c g o w d q) = ap (λ b. b && is_some (owed ib (suc s))) (given_is depth reset_pc f guess ib mem predicts predict r m given s ∙ g)

    forms : breaks_form ib (suc s) ≡ false
    unfolding breaks_form
    forms = by (is_given ib (suc s)) refl
      where
        by : (g : Bool) → is_given ib (suc s) ≡ g → (g && not (eqb (ib.cmd_addr (suc s) % 4) 0 && is_mask (eqb (ib.cmd_write (suc s)) 1) (ib.cmd_mask (suc s)))) ≡ false
        by true e =
            let is_given_now : r.given (suc s) ≡ true = sym (given_is depth reset_pc f guess ib mem predicts predict r m given s) ∙ e in
            let whole : ib.cmd_addr (suc s) % 4 ≡ 0 = ap (λ k. k % 4) (m.cmd_addr s) ∙ i.whole_address (ap (λ b. b || r.owed (suc s)) is_given_now) in
            λ j. not (eqb (whole j) 0 && is_mask (eqb (m.cmd_write s j) 1) (m.cmd_mask s j))
        by false e = refl

  module _ (m : IsQueue depth reset_pc f guess ib r) (given : IsGiven reset_pc f guess ib mem predicts predict r) where
    pub stays : (s : ℕ) → 1 ≤ s → f.valid s ≡ true → f.take s ≡ false → f.redirect s ≡ false
        → (f.valid (suc s) ≡ true) × (f.pc (suc s) ≡ f.pc s) × (f.word (suc s) ≡ f.word s) × (f.error (suc s) ≡ f.error s)
    stays zero l e te re = absurd (omega arith)
    stays (suc s) l e te re =
        let t = suc s in
        let qe : r.queue (suc (suc s)) ≡ cond (kept depth f guess ib r (suc s)) (put_last depth (r.queue (suc s)) (came depth f guess ib r (suc s))) (r.queue (suc s)) =
        m.queue s ∙ λ j. cond (re j) [] (cond (kept depth f guess ib r (suc s)) (put_last depth (cond (te j) (rest_of (r.queue (suc s))) (r.queue (suc s))) (came depth f guess ib r (suc s))) (cond (te j) (rest_of (r.queue (suc s))) (r.queue (suc s)))) in
        stays_of (suc s) (suc (suc s)) (kept depth f guess ib r (suc s)) (r.queue (suc s)) (came depth f guess ib r (suc s)) (m.offers s) e
        (subst (λ q. Offers q (f.valid (suc (suc s))) (f.pc (suc (suc s))) (f.word (suc (suc s))) (f.error (suc (suc s)))) qe (m.offers (suc s)))

    stands : (s : ℕ) → ((j : ℕ) → j < s → FetchAssumed f ib mem predicts predict j) → breaks_standing ib (suc s) ≡ false
    unfolding breaks_standing is_given
    stands zero h = refl
    stands (suc s) h = by (is_given ib (suc s)) (is_accepted ib (suc s)) refl refl
      where
        i : Inv depth reset_pc f guess ib mem predicts predict r (suc s)
        i = inv depth reset_pc f guess ib mem predicts predict r m given s (λ j l. h j (omega arith))

        repeats : r.given (suc s) ≡ true → eqb (ib.cmd_ready (suc s)) 1 ≡ false → Phase depth reset_pc f guess ib mem predicts predict r (suc s) → is_repeated ib (suc s) ≡ true
        repeats g ye (Rests n o w) = both (r.given (suc s)) g n
        repeats g ye (Waits c n o w d q) = both (r.given (suc s)) g n
        repeats g ye (Asks n o w d) =
            let again : is_given ib (suc (suc s)) ≡ true = given_is depth reset_pc f guess ib mem predicts predict r m given (suc s) ∙ (m.given s ∙ λ j. given_if (g j) (o j) (eqb (ib.rsp_valid (suc s)) 1) (ltb (length (queue_after depth f guess ib r (suc s))) depth) (ye j)) in
            let addr : ib.cmd_addr (suc (suc s)) ≡ ib.cmd_addr (suc s) =
            m.cmd_addr (suc s) ∙ ((m.address s ∙ λ j. cond (idle_if (g j) (o j) (eqb (ib.rsp_valid (suc s)) 1)) (pc_after depth f guess ib r (suc s)) (r.address (suc s))) ∙ sym (m.cmd_addr s)) in
            (λ j. again j && (eqb (m.cmd_write (suc s) j) (m.cmd_write s j) && (eqb (addr j) (ib.cmd_addr (suc s)) && (eqb (m.cmd_data (suc s) j) (m.cmd_data s j) && eqb (m.cmd_mask (suc s) j) (m.cmd_mask s j)))))
            ∙ ap (λ b. b && true) (eqb_refl (ib.cmd_addr (suc s)))

        by : (g a : Bool) → is_given ib (suc s) ≡ g → is_accepted ib (suc s) ≡ a → (g && (not a && not (is_repeated ib (suc s)))) ≡ false
        by true true ge ae = refl
        by true false ge ae =
            let g : r.given (suc s) ≡ true = sym (given_is depth reset_pc f guess ib mem predicts predict r m given s) ∙ ge in
            let ye : eqb (ib.cmd_ready (suc s)) 1 ≡ false = (λ j. sym g j && eqb (ib.cmd_ready (suc s)) 1) ∙ (sym (accepted_is depth reset_pc f guess ib mem predicts predict r m given s) ∙ ae) in
            ap not (repeats g ye i.phase)
        by false a ge ae = refl

    pub duties : (s : ℕ) → ((j : ℕ) → j < s → FetchAssumed f ib mem predicts predict j) → KeepsDuties ib (suc s)
    duties s h = record { stands = stands s h; waits = waits m given s h; forms = forms m given s h }
