-- Progress and depth: how late the command at work can have begun, on a bus that answers within w cycles.
use Rattle.std.proofs.Common.{◌≡◌, ℕ, zero, suc, ◌+◌, ◌-◌, ◌*◌, ◌<◌, ◌≤◌, Bool, true, false, cond, not, eqb, ltb, List, [], ◌∷◌, length, length-append, ◌&&◌, ◌||◌, ◌⊎◌, inl, inr, refl, sym, ap, ◌∙◌, arith, suc-mul, mul-le-mul_right}
use Rattle.core_ports.specs.Trace.{Bus}
use Rattle.bus_law.specs.Memory.{Memory}
use Rattle.plug_fetch.proofs.InTime.{InTime}
use Rattle.bus_law.specs.Protocol.{is_given}
use Rattle.plug_law.specs.Past.{last}
use Rattle.plug_law.specs.Fetch.{FetchSignals, FetchAssumed, is_taken_or_redirected}
use Rattle.plug_fetch.proofs.Queue.{Item, Registers, rest_of, put_last, kept, came, Offers, IsQueue}
use Rattle.plug_fetch.proofs.Truths.{or_l, or_r, both, not_true, ltb_no, at_most}
use Rattle.plug_fetch.proofs.Wires.{busy_now, no_response, responds}
use Rattle.plug_fetch.proofs.Invariant.{IsGiven, last_le, put_is, is_busy, is_idle, start, start_le, Inv, Phase, inv, given_is, apart}
use Rattle.plug_fetch.proofs.Kept.{words, words_most}
use Rattle.plug_fetch.proofs.Invariant.Phase.{Rests, Asks, Waits}

-- what holds more often held later
last_more : (p q : ℕ → Bool) → ((t : ℕ) → p t ≡ true → q t ≡ true) → (t : ℕ) → last p t ≤ last q t
unfolding last
last_more p q h zero = omega arith
last_more p q h (suc t) = by (p t) (q t) (h t) (last_more p q h t) (before t)
  where
    before : (t : ℕ) → last p t ≤ t
    before zero = omega arith
    before (suc t) = let l = last_le p t in omega arith

    by : (a b : Bool) → (a ≡ true → b ≡ true) → last p t ≤ last q t → last p t ≤ t → cond a t (last p t) ≤ cond b t (last q t)
    by true true k l e = omega arith
    by true false k l e = both false (k refl) refl
    by false true k l e = e
    by false false k l e = l

-- k items of 2 * w + 1 cycles each
abbrev span : (k w : ℕ) → ℕ
span k w = k * (2 * w + 1)

span_more : (k w : ℕ) → span (suc k) w ≡ span k w + (2 * w + 1)
span_more k w = suc-mul k (2 * w + 1)

span_mono : (j k w : ℕ) → j ≤ k → span j w ≤ span k w
span_mono j k w l = mul-le-mul_right (2 * w + 1) l

in_eights : (d w : ℕ) → d * (8 + 4 * w) ≡ 8 * d + 4 * (d * w)
in_eights zero w = omega arith
in_eights (suc d) w = let a = suc-mul d (8 + 4 * w) in let b = suc-mul d w in let c = in_eights d w in omega arith

in_ones : (d w : ℕ) → span d w ≡ d + 2 * (d * w)
in_ones zero w = omega arith
in_ones (suc d) w = let a = suc-mul d (2 * w + 1) in let b = suc-mul d w in let c = in_ones d w in omega arith

-- a whole depth's time
enough : (d w : ℕ) → 1 ≤ d → span d w + (2 * w + 1) < d * (8 + 4 * w)
enough d w l =
    let a = in_eights d w in
    let b = in_ones d w in
    let c : 1 * w ≤ d * w = mul-le-mul_right w l in
    omega arith

module _ (depth reset_pc : ℕ) (f : FetchSignals) (guess : ℕ → ℕ) (ib : Bus) (mem : ℕ → Memory) (predicts : Bool) (predict : ℕ → ℕ → ℕ) (r : Registers) where
  abbrev quiet_since : ℕ → ℕ
  quiet_since t = last (is_taken_or_redirected f) t

  in_time : (w n t : ℕ) → InTime ib w n → t ≤ n → is_given ib t ≡ r.given t → Phase depth reset_pc f guess ib mem predicts predict r t → is_busy depth reset_pc f guess ib mem predicts predict r t ≡ true → t ≤ start depth reset_pc f guess ib mem predicts predict r t + 2 * w
  in_time w n t within l ge (Rests g o e) b = both (r.given t || r.owed t) b (λ j. g j || o j)
  in_time w n t within l ge (Asks g o e d) b = let k = within.given t l (ge ∙ g) in omega arith
  in_time w n t within l ge (Waits c g o e d q) b = let k = within.answered t c l e in omega arith

  module _ (m : IsQueue depth reset_pc f guess ib r) (given : IsGiven reset_pc f guess ib mem predicts predict r) (least : 1 ≤ depth) (w n : ℕ) (within : InTime ib w n) where
    abbrev invariant : (s : ℕ) → ((j : ℕ) → j < s → FetchAssumed f ib mem predicts predict j) → Inv depth reset_pc f guess ib mem predicts predict r (suc s)
    invariant s h = inv depth reset_pc f guess ib mem predicts predict r m given s h

    abbrev begun : ℕ → ℕ
    begun t = start depth reset_pc f guess ib mem predicts predict r t

    abbrev busy : ℕ → Bool
    busy t = r.given t || r.owed t

    -- a command that will be dropped began no later than the last redirect
    late : (t : ℕ) → Inv depth reset_pc f guess ib mem predicts predict r t → busy t ≡ true → r.dropped t ≡ true → begun t ≤ quiet_since t
    late t i b d =
        let off : ltb (last f.redirect t) (begun t) ≡ false = not_true (ltb (last f.redirect t) (begun t)) (sym (i.drops b) ∙ d) in
        let before : begun t ≤ last f.redirect t = ltb_no (last f.redirect t) (begun t) off in
        let more : last f.redirect t ≤ quiet_since t = last_more f.redirect (is_taken_or_redirected f) (λ k e. or_true (f.take k) (f.redirect k) e) t in
        omega arith
      where
        or_true : (a b : Bool) → b ≡ true → (a || b) ≡ true
        or_true true b h = refl
        or_true false b h = h

    in_time_at : (s : ℕ) → suc s ≤ n → Inv depth reset_pc f guess ib mem predicts predict r (suc s) → busy (suc s) ≡ true → suc s ≤ begun (suc s) + 2 * w
    in_time_at s l i b = in_time w n (suc s) within l (given_is depth reset_pc f guess ib mem predicts predict r m given s) i.phase b

    -- and another began soon after the last take or redirect, for the items that are there
    abbrev Soon : ℕ → Type 0
    Soon t = busy t ≡ true → r.dropped t ≡ false → begun t ≤ quiet_since t + span (suc (length (r.queue t))) w + 1

    module _ (s : ℕ) (l : suc s ≤ n) (h : (j : ℕ) → j < suc s → FetchAssumed f ib mem predicts predict j) (soon : Soon (suc s)) where
      abbrev t : ℕ
      t = suc s

      i : Inv depth reset_pc f guess ib mem predicts predict r (suc s)
      i = invariant s (λ j k. h j (omega arith))

      i' : Inv depth reset_pc f guess ib mem predicts predict r (suc (suc s))
      i' = invariant (suc s) h

      abbrev v : Bool
      v = eqb (ib.rsp_valid t) 1

      abbrev X : ℕ
      X = span (suc (length (r.queue (suc t)))) w

      least_span : 2 * w + 1 ≤ X
      least_span = let e = span_more (length (r.queue (suc t))) w in omega arith

      -- without a take or a redirect
      queue_is : (kp : Bool) → f.take t ≡ false → f.redirect t ≡ false → kept depth f guess ib r t ≡ kp → r.queue (suc t) ≡ cond kp (put_last depth (r.queue t) (came depth f guess ib r t)) (r.queue t)
      queue_is kp te re ke =
          m.queue s ∙ λ j. cond (re j) [] (cond (ke j) (put_last depth (cond (te j) (rest_of (r.queue t)) (r.queue t)) (came depth f guess ib r t)) (cond (te j) (rest_of (r.queue t)) (r.queue t)))

      soon_next : Soon (suc t)
      unfolding last start
      soon_next b d = by (is_idle depth reset_pc f guess ib mem predicts predict r t) (f.take t || f.redirect t) refl refl
        where
          and_true : (x : Bool) → (x && true) ≡ x
          and_true true = refl
          and_true false = refl

          by_dropped : (c : Bool) → r.dropped t ≡ c → is_idle depth reset_pc f guess ib mem predicts predict r t ≡ true → (f.take t || f.redirect t) ≡ false → busy t ≡ true → suc t ≤ quiet_since t + X + 1
          by_dropped true de ce ee be =
              let a = late t i be de in
              let c = in_time_at s l i be in
              let e = least_span in
              omega arith
          by_dropped false de ce ee be =
              let rsp : (r.owed t && v) ≡ true = responds (r.given t) (r.owed t) v (apart depth reset_pc f guess ib mem predicts predict r t i.phase) ce be in
              let ke : kept depth f guess ib r t ≡ true = λ j. rsp j && not (de j) in
              let room : length (r.queue t) < depth = (i.wants be de).1 in
              let len : length (r.queue (suc t)) ≡ length (r.queue t) + 1 =
              ap length (queue_is true (or_l (f.take t) (f.redirect t) ee) (or_r (f.take t) (f.redirect t) ee) ke ∙ put_is depth (r.queue t) (came depth f guess ib r t) room) ∙ length-append (r.queue t) (came depth f guess ib r t ∷ []) in
              let a = soon be de in
              let c = in_time_at s l i be in
              let e = span_more (length (r.queue (suc t))) w in
              let g : span (length (r.queue (suc t))) w ≡ span (suc (length (r.queue t))) w = ap (λ k. span k w) (len ∙ omega arith) in
              omega arith

          by_busy : (c : Bool) → busy t ≡ c → is_idle depth reset_pc f guess ib mem predicts predict r t ≡ true → (f.take t || f.redirect t) ≡ false → suc t ≤ quiet_since t + X + 1
          by_busy true be ce ee = by_dropped (r.dropped t) refl ce ee be
          by_busy false be ce ee = first_or_full (Rattle.std.proofs.Common.eq-zero-or-pos s)
            where
              first_or_full : (s ≡ 0) ⊎ (0 < s) → suc t ≤ quiet_since t + X + 1
              first_or_full (inl z) = let e = least_span in omega arith
              first_or_full (inr z) =
                  let ke : kept depth f guess ib r t ≡ false = ap (λ o. (o && v) && not (r.dropped t)) (or_r (r.given t) (r.owed t) be) in
                  let same : length (r.queue (suc t)) ≡ length (r.queue t) = ap length (queue_is false (or_l (f.take t) (f.redirect t) ee) (or_r (f.take t) (f.redirect t) ee) ke) in
                  let full : length (r.queue t) ≡ depth = i.full (omega arith) be in
                  let room : length (r.queue (suc t)) < depth = (i'.wants b d).1 in
                  absurd (omega arith)

          by : (c ev : Bool) → is_idle depth reset_pc f guess ib mem predicts predict r t ≡ c → (f.take t || f.redirect t) ≡ ev → begun (suc t) ≤ quiet_since (suc t) + X + 1
          by c true ce ee =
              let q : quiet_since (suc t) ≡ t = λ j. cond (ee j) t (quiet_since t) in
              let k = start_le depth reset_pc f guess ib mem predicts predict r (suc t) in
              omega arith
          by true false ce ee =
              let q : quiet_since (suc t) ≡ quiet_since t = λ j. cond (ee j) t (quiet_since t) in
              let g : begun (suc t) ≡ suc t = λ j. cond (ce j) (suc t) (begun t) in
              let k = by_busy (busy t) refl ce ee in
              omega arith
          by false false ce ee =
              let q : quiet_since (suc t) ≡ quiet_since t = λ j. cond (ee j) t (quiet_since t) in
              let g : begun (suc t) ≡ begun t = λ j. cond (ce j) (suc t) (begun t) in
              let off : (f.redirect t || r.dropped t) ≡ false = sym (and_true (f.redirect t || r.dropped t)) ∙ ((λ j. (f.redirect t || r.dropped t) && not (sym ce j)) ∙ (sym (m.dropped s) ∙ d)) in
              let none : (r.owed t && v) ≡ false = no_response (r.given t) (r.owed t) v ce in
              let ke : kept depth f guess ib r t ≡ false = λ j. none j && not (r.dropped t) in
              let same : r.queue (suc t) ≡ r.queue t = queue_is false (or_l (f.take t) (f.redirect t) ee) (or_r (f.take t) (f.redirect t) ee) ke in
              let x : X ≡ span (suc (length (r.queue t))) w = ap (λ k. span (suc (length k)) w) same in
              let k = soon (busy_now (r.given t) (r.owed t) v ce) (or_r (f.redirect t) (r.dropped t) off) in
              omega arith

    soon_at : (s : ℕ) → s ≤ n → ((j : ℕ) → j < s → FetchAssumed f ib mem predicts predict j) → Soon (suc s)
    soon_at zero l h = λ b d. both (busy 1) b (λ j. m.given_reset j || m.owed_reset j)
    soon_at (suc s) l h = soon_next s l h (soon_at s (omega arith) (λ j k. h j (omega arith)))

    -- where the queue is not full, a command is at work that began soon
    waited : (s : ℕ) → suc s ≤ n → 1 ≤ s → ((j : ℕ) → j < s → FetchAssumed f ib mem predicts predict j) → (k : ℕ) → length (r.queue (suc s)) < k → k ≤ depth → suc s ≤ quiet_since (suc s) + span k w + (2 * w + 1)
    waited s l two h k less most = by_busy (busy (suc s)) refl
      where
        i : Inv depth reset_pc f guess ib mem predicts predict r (suc s)
        i = invariant s h

        by_dropped : (c : Bool) → r.dropped (suc s) ≡ c → busy (suc s) ≡ true → suc s ≤ quiet_since (suc s) + span k w + (2 * w + 1)
        by_dropped true de be =
            let a = late (suc s) i be de in
            let c = in_time_at s l i be in
            omega arith
        by_dropped false de be =
            let a = soon_at s (omega arith) h be de in
            let c = in_time_at s l i be in
            let e = span_mono (suc (length (r.queue (suc s)))) k w (omega arith) in
            omega arith

        by_busy : (c : Bool) → busy (suc s) ≡ c → suc s ≤ quiet_since (suc s) + span k w + (2 * w + 1)
        by_busy true be = by_dropped (r.dropped (suc s)) refl be
        by_busy false be = let full : length (r.queue (suc s)) ≡ depth = i.full (omega arith) be in absurd (omega arith)

    pub progress : (s : ℕ) → suc s ≤ n → ((j : ℕ) → j < s → FetchAssumed f ib mem predicts predict j) → quiet_since (suc s) + (8 + 4 * w) ≤ suc s → f.valid (suc s) ≡ true
    progress s l h e = by (r.queue (suc s)) refl (m.offers s)
      where
        by : (q : List Item) → r.queue (suc s) ≡ q → Offers q (f.valid (suc s)) (f.pc (suc s)) (f.word (suc s)) (f.error (suc s)) → f.valid (suc s) ≡ true
        by (x ∷ xs) qe offers = offers.0
        by [] qe offers =
            let empty : length (r.queue (suc s)) ≡ 0 = ap length qe in
            let a = waited s l (omega arith) h 1 (omega arith) least in
            absurd (omega arith)

    pub full : (s : ℕ) → suc s ≤ n → ((j : ℕ) → j < s → FetchAssumed f ib mem predicts predict j) → quiet_since (suc s) + depth * (8 + 4 * w) ≤ s → words depth reset_pc f guess ib mem predicts predict r (suc s) ≡ depth
    full s l h e = Rattle.std.proofs.Common.le_antisymm (words_most depth reset_pc f guess ib mem predicts predict r s (invariant s h)) (at_most depth (words depth reset_pc f guess ib mem predicts predict r (suc s)) short)
      where
        short : words depth reset_pc f guess ib mem predicts predict r (suc s) < depth → ⊥
        short less =
            let a = enough depth w least in
            let b = waited s l (omega arith) h depth (omega arith) (omega arith) in
            omega arith
