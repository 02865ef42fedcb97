-- What the part keeps in each cycle: truth, order, that an item stays, the duties of its bus, and progress.
use Rattle.std.proofs.Common.{◌≡◌, ℕ, zero, suc, ◌+◌, ◌*◌, ◌%◌, ◌<◌, ◌≤◌, Bool, true, false, cond, not, eqb, ◌&&◌, ◌||◌, Some, refl, sym, ap, ◌∙◌, suc-mul, arith}
use Rattle.std.specs.Prelude.{is_some}
use Rattle.core_ports.specs.Trace.{Bus}
use Rattle.bus_law.specs.Memory.{Memory}
use Rattle.bus_law.specs.Protocol.{is_given, is_accepted, owed}
use Rattle.bus_law.specs.Duties.{is_mask, is_repeated, breaks_standing, breaks_waiting, breaks_form}
use Rattle.plug_law.specs.Past.{last}
use Rattle.plug_law.specs.Fetch.{FetchSignals, IsTrueItem, owes_pc, FetchAssumed, FetchLaw}
use Rattle.plug_law.specs.Predict.{IsPredict}
use Rattle.cache_law.proofs.Truths.{both, eqb_refl}
use Rattle.cache_law.proofs.InTime.{InTime, from_prompt}
use Rattle.cache_law.specs.Machine.{Registers, address_of, walking, hits, is_last, moves, room, line_now, word_found, error_found, IsCache}
use Rattle.cache_law.proofs.Wires.{ms_of, goes_of, given_of}
use Rattle.cache_law.proofs.Invariant.{Inv, Phase, inv, given_is, accepted_is, span, quiet_since, early, waited, gives_as}
use Rattle.cache_law.proofs.Invariant.Phase.{Rests, Asks, Waits}

quarter : (k : ℕ) → 4 * k % 4 ≡ 0
quarter k = omega arith

in_ones : (d w : ℕ) → span d w ≡ d + 2 * (d * w)
in_ones zero w = omega arith
in_ones (suc d) w = let a = suc-mul d (2 * w + 1) in let b = suc-mul d w in let c = in_ones d w in omega arith

in_fours : (d w : ℕ) → (4 * d + 4) * w ≡ 4 * (d * w) + 4 * w
in_fours zero w = omega arith
in_fours (suc d) w = let a : suc d * w ≡ d * w + w = suc-mul d w in let b = in_fours d w in let c : (4 * suc d + 4) * w ≡ (4 * d + 4) * w + 4 * w = split d w in omega arith
  where
    split : (d w : ℕ) → (4 * suc d + 4) * w ≡ (4 * d + 4) * w + 4 * w
    split d w = grind arith

module _ (lines words reset_pc : ℕ) (predicts : Bool) (f : FetchSignals) (ib : Bus) (mem : ℕ → Memory) (predict : ℕ → ℕ → ℕ) (r : Registers)
    (m : IsCache lines words reset_pc predicts f ib r) (some_lines : 1 ≤ lines) (some_words : 1 ≤ words) (reset_whole : reset_pc % 4 ≡ 0) (is_predict : IsPredict predicts predict) where
  abbrev invariant : (s : ℕ) → ((j : ℕ) → j < s → FetchAssumed f ib mem predicts predict j) → Inv lines words reset_pc predicts f ib mem predict r (suc s)
  invariant s h = inv lines words reset_pc predicts f ib mem predict r m some_lines some_words reset_whole is_predict s h

  abbrev given : (s : ℕ) → is_given ib (suc s) ≡ r.given (suc s)
  given s = given_is lines words reset_pc predicts f ib mem predict r m some_lines some_words reset_whole is_predict s

  abbrev accepted : (s : ℕ) → is_accepted ib (suc s) ≡ (r.given (suc s) && eqb (ib.cmd_ready (suc s)) 1)
  accepted s = accepted_is lines words reset_pc predicts f ib mem predict r m some_lines some_words reset_whole is_predict s

  module _ (s : ℕ) (h : (j : ℕ) → j < s → FetchAssumed f ib mem predicts predict j) where
    abbrev i : Inv lines words reset_pc predicts f ib mem predict r (suc s)
    i = invariant s h

    truth : f.valid (suc s) ≡ true → IsTrueItem f mem (suc s)
    truth e =
        let h = i.out (sym (m.valid s) ∙ e) in
        let after : last f.fence (suc s) < h.cycle = h.after in
        let before : h.cycle < suc s = h.before in
        record {
          cycle = h.cycle;
          after_reset = omega arith;
          after_fence = omega arith;
          by_then = omega arith;
          gives = gives_as (mem h.cycle) (m.item_pc s) (m.item_error s) (m.item_word s) h.gives;
        }

    order : f.valid (suc s) ≡ true → (pc : ℕ) → owes_pc f predict reset_pc (suc s) ≡ Some pc → f.pc (suc s) ≡ pc
    order e pc q = m.item_pc s ∙ i.owes_out (sym (m.valid s) ∙ e) pc q

    waits : breaks_waiting ib (suc s) ≡ false
    unfolding breaks_waiting
    waits = by i.phase
      where
        and_false : (b : Bool) → (b && false) ≡ false
        and_false true = refl
        and_false false = refl

        by : Phase lines words reset_pc predicts f ib mem predict r (suc s) → (is_given ib (suc s) && is_some (owed ib (suc s))) ≡ false
        by (Rests g o w) = (λ j. is_given ib (suc s) && is_some (w j)) ∙ and_false (is_given ib (suc s))
        by (Asks g o w d) = (λ j. is_given ib (suc s) && is_some (w j)) ∙ and_false (is_given ib (suc s))
        by (Waits c g o w d q) = ap (λ b. b && is_some (owed ib (suc s))) (given s ∙ g)

    forms : breaks_form ib (suc s) ≡ false
    unfolding breaks_form
    forms = by (is_given ib (suc s)) refl
      where
        by : (g : Bool) → is_given ib (suc s) ≡ g → (g && not (eqb (ib.cmd_addr (suc s) % 4) 0 && is_mask (eqb (ib.cmd_write (suc s)) 1) (ib.cmd_mask (suc s)))) ≡ false
        by true e =
            let whole : ib.cmd_addr (suc s) % 4 ≡ 0 = ap (λ k. k % 4) (m.cmd_addr s) ∙ quarter (r.line (suc s) * words + r.place (suc s)) in
            λ j. not (eqb (whole j) 0 && is_mask (eqb (m.cmd_write s j) 1) (m.cmd_mask s j))
        by false e = refl

    pub progress : (w : ℕ) → InTime ib w (suc s) → quiet_since lines words reset_pc predicts f ib mem predict r (suc s) + ((lines + 4 * words + 12) + (4 * words + 4) * w) ≤ suc s → f.valid (suc s) ≡ true
    progress w within e = m.valid s ∙ by (r.full (suc s)) refl
      where
        by : (c : Bool) → r.full (suc s) ≡ c → r.full (suc s) ≡ true
        by true q = q
        by false q =
            let a = waited lines words reset_pc predicts f ib mem predict r m some_lines some_words reset_whole is_predict s i w (suc s) within (omega arith)
            (early lines words reset_pc predicts f ib mem predict r m some_lines some_words reset_whole is_predict w (suc s) within s (omega arith) h) q in
            let b = in_ones words w in
            let c = in_fours words w in
            absurd (omega arith)

  stays : (s : ℕ) → 1 ≤ s → f.valid s ≡ true → f.take s ≡ false → f.redirect s ≡ false
      → (f.valid (suc s) ≡ true) × (f.pc (suc s) ≡ f.pc s) × (f.word (suc s) ≡ f.word s) × (f.error (suc s) ≡ f.error s)
  stays zero l e te re = absurd (omega arith)
  stays (suc s) l e te re =
      let t = suc s in
      let fu : r.full (suc s) ≡ true = sym (m.valid s) ∙ e in
      let ro : room lines words f ib r (suc s) ≡ false = λ j. not (fu j) || te j in (
        m.valid (suc s) ∙ (m.full s ∙ ((λ j. not (re j) && (moves lines words f ib r (suc s) || (fu j && not (te j)))) ∙ yes (moves lines words f ib r (suc s)))),
        m.item_pc (suc s) ∙ ((m.out_pc s ∙ λ j. cond (ro j) (r.pc (suc s)) (r.out_pc (suc s))) ∙ sym (m.item_pc s)),
        m.item_word (suc s) ∙ ((m.out_word s ∙ λ j. cond (ro j) (word_found lines words f ib r (suc s)) (r.out_word (suc s))) ∙ sym (m.item_word s)),
        m.item_error (suc s) ∙ ((m.out_error s ∙ λ j. cond (ro j) (error_found lines words f ib r (suc s)) (r.out_error (suc s))) ∙ sym (m.item_error s)),
      )
    where
      yes : (b : Bool) → (b || true) ≡ true
      yes true = refl
      yes false = refl

  stands : (s : ℕ) → ((j : ℕ) → j < s → FetchAssumed f ib mem predicts predict j) → breaks_standing ib (suc s) ≡ false
  unfolding breaks_standing is_given
  stands zero h = refl
  stands (suc s) h = by (is_given ib (suc s)) (is_accepted ib (suc s)) refl refl
    where
      i : Inv lines words reset_pc predicts f ib mem predict r (suc s)
      i = invariant s (λ j l. h j (omega arith))

      again : r.given (suc s) ≡ true → eqb (ib.cmd_ready (suc s)) 1 ≡ false → Phase lines words reset_pc predicts f ib mem predict r (suc s) → is_repeated ib (suc s) ≡ true
      again g ye (Rests n o w) = both (r.given (suc s)) g n
      again g ye (Waits c n o w d q) = both (r.given (suc s)) g n
      again g ye (Asks n o w d) =
          let t = suc s in
          let off = r.captured t || hits lines words f ib r t in
          let wk = walking lines words f ib r t in
          let v = eqb (ib.rsp_valid t) 1 in
          let la = is_last lines words f ib r t in
          let given : is_given ib (suc (suc s)) ≡ true = given (suc s) ∙ (m.given s ∙ λ j. given_of (ms_of (g j) (o j) wk off (f.redirect t)) (goes_of (o j) v (r.dropped t) la (f.fence t)) (g j) (ye j)) in
          let addr : ib.cmd_addr (suc (suc s)) ≡ ib.cmd_addr (suc s) =
          m.cmd_addr (suc s) ∙ ((λ j. address_of words
          ((m.line s ∙ λ j. cond (ms_of (g j) (o j) wk off (f.redirect t)) (line_now lines words f ib r t) (r.line t)) j)
          ((m.place s ∙ λ j. cond (ms_of (g j) (o j) wk off (f.redirect t)) 0 (cond (goes_of (o j) v (r.dropped t) la (f.fence t)) (suc (r.place t)) (r.place t))) j)) ∙ sym (m.cmd_addr s)) in
          (λ j. given j && (eqb (m.cmd_write (suc s) j) (m.cmd_write s j) && (eqb (addr j) (ib.cmd_addr (suc s)) && (eqb (m.cmd_data (suc s) j) (m.cmd_data s j) && eqb (m.cmd_mask (suc s) j) (m.cmd_mask s j)))))
          ∙ ap (λ b. b && true) (eqb_refl (ib.cmd_addr (suc s)))

      by : (g a : Bool) → is_given ib (suc s) ≡ g → is_accepted ib (suc s) ≡ a → (g && (not a && not (is_repeated ib (suc s)))) ≡ false
      by true true ge ae = refl
      by true false ge ae =
          let g : r.given (suc s) ≡ true = sym (given s) ∙ ge in
          let ye : eqb (ib.cmd_ready (suc s)) 1 ≡ false = (λ j. sym g j && eqb (ib.cmd_ready (suc s)) 1) ∙ (sym (accepted s) ∙ ae) in
          ap not (again g ye i.phase)
      by false a ge ae = refl

  pub keeps_law : FetchLaw (lines + 4 * words + 12, 4 * words + 4) predicts predict reset_pc f ib mem
  keeps_law s h = record {
    truth = truth s h;
    order = order s h;
    stays = stays s;
    duties = record { stands = stands s h; waits = waits s h; forms = forms s h };
    offers = λ w one prompt e. progress s h w (from_prompt ib w (suc s) one (λ j l. prompt j (omega arith))) e;
  }
