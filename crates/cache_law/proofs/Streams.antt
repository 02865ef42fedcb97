-- No refetch, and the stream of what is held.
use Rattle.std.proofs.Common.{◌≡◌, ℕ, zero, suc, ◌+◌, ◌*◌, ◌%◌, ◌^◌, ◌<◌, ◌≤◌, Bool, true, false, not, eqb, leb, ◌&&◌, ◌||◌, inl, inr, Option, Some, None, length, refl, sym, ap, ◌∙◌, subst, arith}
use Rattle.std.specs.Prelude.{is_some}
use Rattle.core_ports.specs.Trace.{Bus}
use Rattle.bus_law.specs.Memory.{Memory, word_at, is_inside, byte_at, aligned_of}
use Rattle.bus_law.specs.Protocol.{is_given, is_accepted, owed}
use Rattle.plug_law.specs.Fetch.{FetchSignals, FetchAssumed}
use Rattle.plug_law.specs.Predict.{IsPredict}
use Rattle.plug_law.specs.Table.{IsMemoryAt}
use Rattle.cache_law.proofs.Truths.{and_l, both}
use Rattle.cache_law.specs.Machine.{Registers, line_of, place_of, address_of, hits, moves, IsCache}
use Rattle.plug_law.specs.Cache.{line_of as line_at, word_of_line, still_held, IsLineInside, CacheLaw}
use Rattle.cache_law.proofs.Basics.{addressed, place_less, line_is, apart}
use Rattle.cache_law.proofs.Invariant.{Inv, Phase, inv, given_is, accepted_is, IsInside, Where, reads, is_line_of, walks}
use Rattle.cache_law.proofs.Invariant.Phase.{Rests, Asks, Waits}
use Rattle.cache_law.proofs.Invariant.Where.{Stored, Coming}

some_inside : (m : Memory) (a : ℕ) → is_some (word_at m a) ≡ is_inside m a
unfolding word_at
some_inside m a = by (is_inside m a)
  where
    by : (c : Bool) → is_some (elim c as (λ z. Option ℕ) [ true ↦ Some (byte_at m a 0 + byte_at m a 1 * 2 ^ 8 + byte_at m a 2 * 2 ^ 16 + byte_at m a 3 * 2 ^ 24) | false ↦ None ]) ≡ c
    by true = refl
    by false = refl

-- memories of the same bounds hold words at the same addresses
inside_same : (x z : Memory) (a : ℕ) → x.base ≡ z.base → length x.bytes ≡ length z.bytes → is_some (word_at x a) ≡ is_some (word_at z a)
inside_same x z a b l = some_inside x a ∙ ((λ j. leb (b j) (aligned_of a) && leb (aligned_of a + 4) (b j + l j)) ∙ sym (some_inside z a))

module _ (lines words reset_pc : ℕ) (predicts : Bool) (f : FetchSignals) (ib : Bus) (mem : ℕ → Memory) (predict : ℕ → ℕ → ℕ) (r : Registers)
    (m : IsCache lines words reset_pc predicts f ib r) (some_lines : 1 ≤ lines) (some_words : 1 ≤ words) (reset_whole : reset_pc % 4 ≡ 0) (is_predict : IsPredict predicts predict) where
  abbrev Holds : (s : ℕ) → Type 0
  Holds s = Inv lines words reset_pc predicts f ib mem predict r (suc s)

  abbrev given : (s : ℕ) → is_given ib (suc s) ≡ r.given (suc s)
  given s = given_is lines words reset_pc predicts f ib mem predict r m some_lines some_words reset_whole is_predict s

  -- a line inside the memory of one cycle is inside that of each
  inside_all : (s n place : ℕ) → place < words → ((j : ℕ) → j ≤ s → IsMemoryAt mem (suc j)) → IsLineInside words (mem (suc s)) (address_of words n place) → IsInside lines words reset_pc predicts f ib mem predict r (suc s) n
  inside_all s n place below bounds inside zero k one l z = absurd (omega arith)
  inside_all s n place below bounds inside (suc c) k one l z =
      let x = bounds c (omega arith) in
      let y = bounds s (omega arith) in
      inside_same (mem (suc c)) (mem (suc s)) (address_of words n k) (x.base ∙ sym y.base) (x.size ∙ sym y.size)
      ∙ (ap (λ a. is_some (word_at (mem (suc s)) a)) (apart words n k ∙ λ j. sym (line_is words n place below) j * (4 * words) + 4 * k) ∙ inside k z)

  module _ (s : ℕ) (h : (j : ℕ) → j < s → FetchAssumed f ib mem predicts predict j) (bounds : (j : ℕ) → j ≤ s → IsMemoryAt mem (suc j)) where
    abbrev i : Holds s
    i = inv lines words reset_pc predicts f ib mem predict r m some_lines some_words reset_whole is_predict s h

    no_refetch : is_accepted ib (suc s) ≡ true → IsLineInside words (mem (suc s)) (ib.cmd_addr (suc s)) → still_held lines words f ib (ib.cmd_addr (suc s)) (suc s) ≡ false
    no_refetch e inside = by (still_held lines words f ib (ib.cmd_addr (suc s)) (suc s)) refl
      where
        ge : r.given (suc s) ≡ true
        ge = and_l (r.given (suc s)) (eqb (ib.cmd_ready (suc s)) 1) (sym (accepted_is lines words reset_pc predicts f ib mem predict r m some_lines some_words reset_whole is_predict s) ∙ e)

        busy : (r.given (suc s) || r.owed (suc s)) ≡ true
        busy = λ j. ge j || r.owed (suc s)

        below : r.place (suc s) < words
        below = i.place busy

        unowed : Phase lines words reset_pc predicts f ib mem predict r (suc s) → r.owed (suc s) ≡ false
        unowed (Rests g o w) = o
        unowed (Asks g o w d) = o
        unowed (Waits c g o w d q) = both (r.given (suc s)) ge g

        refuse : r.dropped (suc s) ≡ false → Where lines words reset_pc predicts f ib mem predict r (suc s) (r.line (suc s)) (r.place (suc s)) → ⊥
        refuse d (Stored tag free) = (free (record { busy = busy; kept = d }) refl).2 refl
        refuse d (Coming fl le (inl l)) = absurd (omega arith)
        refuse d (Coming fl le (inr q)) = both (r.owed (suc s)) q.1 (unowed i.phase)

        by : (c : Bool) → still_held lines words f ib (ib.cmd_addr (suc s)) (suc s) ≡ c → still_held lines words f ib (ib.cmd_addr (suc s)) (suc s) ≡ false
        by true q =
            let x = (reads lines words reset_pc predicts f ib mem predict r m some_lines some_words reset_whole is_predict s h).kept (r.line (suc s)) (r.place (suc s)) below
            (inside_all s (r.line (suc s)) (r.place (suc s)) below bounds (subst (IsLineInside words (mem (suc s))) (m.cmd_addr s) inside))
            (ap (λ a. still_held lines words f ib a (suc s)) (sym (m.cmd_addr s)) ∙ q) in
            absurd (refuse (x.1 busy) x.2)
        by false q = q

  -- what is held streams
  streams : (s : ℕ) → ((j : ℕ) → j < s → FetchAssumed f ib mem predicts predict j) → ((j : ℕ) → j ≤ s → IsMemoryAt mem (suc j))
      → 1 ≤ s → f.take s ≡ true → f.error s ≡ false → f.redirect s ≡ false → is_given ib s ≡ false → owed ib s ≡ None
      → IsLineInside words (mem s) (predict (f.pc s) (f.word s))
      → ((i : ℕ) → i < words → still_held lines words f ib (word_of_line words (predict (f.pc s) (f.word s)) i) s ≡ true)
      → f.valid (suc s) ≡ true
  streams zero h bounds l te er re ge oe inside long = absurd (omega arith)
  streams (suc s) h bounds l te er re ge oe inside long = m.valid (suc s) ∙ (m.full s ∙ λ j. not (re j) && (me j || (r.full (suc s) && not (f.take (suc s)))))
    where
      a : FetchAssumed f ib mem predicts predict s
      a = h s (omega arith)

      i : Holds s
      i = inv lines words reset_pc predicts f ib mem predict r m some_lines some_words reset_whole is_predict s (λ j k. h j (omega arith))

      next : r.pc (suc s) ≡ predict (f.pc (suc s)) (f.word (suc s))
      next = i.follows (sym (m.valid s) ∙ a.takes te) (sym (m.item_error s) ∙ er) ∙ λ j. predict (sym (m.item_pc s) j) (sym (m.item_word s) j)

      line_is_n : line_at words (predict (f.pc (suc s)) (f.word (suc s))) ≡ line_of words (r.pc (suc s))
      line_is_n =
          ap (line_at words) (sym next ∙ addressed words (r.pc (suc s)) some_words i.whole)
          ∙ line_is words (line_of words (r.pc (suc s))) (place_of words (r.pc (suc s))) (place_less words (r.pc (suc s)) some_words)

      held : still_held lines words f ib (address_of words (line_of words (r.pc (suc s))) 0) (suc s) ≡ true
      held = ap (λ z. still_held lines words f ib z (suc s)) (apart words (line_of words (r.pc (suc s))) 0 ∙ λ j. sym line_is_n j * (4 * words) + 4 * 0) ∙ long 0 (omega arith)

      inside_n : IsInside lines words reset_pc predicts f ib mem predict r (suc s) (line_of words (r.pc (suc s)))
      inside_n = inside_all s (line_of words (r.pc (suc s))) (place_of words (r.pc (suc s))) (place_less words (r.pc (suc s)) some_words) (λ j k. bounds j (omega arith))
          (subst (IsLineInside words (mem (suc s))) (sym next ∙ addressed words (r.pc (suc s)) some_words i.whole) inside)

      idle_of : Phase lines words reset_pc predicts f ib mem predict r (suc s) → (r.given (suc s) || r.owed (suc s)) ≡ false
      idle_of (Rests g o w) = λ j. g j || o j
      idle_of (Asks g o w d) = both (is_given ib (suc s)) (given s ∙ g) ge
      idle_of (Waits c g o w d q) = absurd (let e : None ≡ Some c = sym oe ∙ w in grind arith)

      idle : (r.given (suc s) || r.owed (suc s)) ≡ false
      idle = idle_of i.phase

      x : (walks lines words reset_pc predicts f ib mem predict r (suc s) ≡ false) × ((r.given (suc s) || r.owed (suc s)) ≡ true → r.dropped (suc s) ≡ false) × Where lines words reset_pc predicts f ib mem predict r (suc s) (line_of words (r.pc (suc s))) 0
      x = (reads lines words reset_pc predicts f ib mem predict r m some_lines some_words reset_whole is_predict s (λ j k. h j (omega arith))).kept (line_of words (r.pc (suc s))) 0 (omega arith) inside_n held

      hit : Where lines words reset_pc predicts f ib mem predict r (suc s) (line_of words (r.pc (suc s))) 0 → hits lines words f ib r (suc s) ≡ true
      hit (Stored tag free) = is_line_of _ _ tag
      hit (Coming fl le pos) = both (r.given (suc s) || r.owed (suc s)) fl.busy idle

      or_true : (c z : Bool) → z ≡ true → (c || z) ≡ true
      or_true true z h = refl
      or_true false z h = h

      me : moves lines words f ib r (suc s) ≡ true
      me = λ j. (not (idle j || x.0 j) && or_true (r.captured (suc s)) (hits lines words f ib r (suc s)) (hit x.2) j) && or_true (not (r.full (suc s))) (f.take (suc s)) te j

  pub keeps_cache : CacheLaw lines words predicts predict f ib mem
  keeps_cache s h bounds = record { no_refetch = no_refetch s h bounds; streams = streams s h bounds }
