-- One bus whose delays are at most d answers within d + 1 cycles, for a core that keeps its duties.
use Rattle.std.proofs.Common.{◌≡◌, ℕ, zero, suc, ◌+◌, ◌-◌, ◌<◌, ◌≤◌, Bool, true, false, cond, not, eqb, List, [], ◌∷◌, get_or, ◌&&◌, All, refl, sym, ap, ◌∙◌, subst, arith, add-zero}
use Rattle.std.specs.Prelude.{is_some}
use Rattle.std.proofs.Math.Path.{ap₂}
use Rattle.std.proofs.lemmas.Bool.Decides.{nat_tests}
use Rattle.core_words.specs.Values.{one_if}
use Rattle.core_ports.specs.Trace.{Bus}
use Rattle.bus_law.specs.declared.side.Answer.{Answer}
use Rattle.bus_law.specs.declared.side.Turn.{Turn}
use Rattle.bus_law.specs.declared.side.Turn.TheVariants.{Reset, Idle, Owed}
use Rattle.bus_law.specs.declared.side.Side.{Side}
use Rattle.bus_law.specs.Memory.{Memory}
use Rattle.bus_law.specs.Protocol.{is_given, is_accepted, owed}
use Rattle.bus_law.specs.Duties.{breaks_standing, breaks_waiting, KeepsDuties}
use Rattle.bus_law.specs.Honest.{Reply, Begins, IsWithin}
use Rattle.bus_law.specs.Sides.{is_ready, response_of, delay_at, place_after_last, turn_after, side_after, side_at_start}
use Rattle.bus_law.proofs.Turns.{back, side_bus, Answers, Stands, stands}

true_not_false : ◌≡◌ {A = Bool} true false → ⊥
true_not_false e = cc

and_left : (x y : Bool) → (x && y) ≡ true → x ≡ true
and_left true y e = refl
and_left false y e = absurd (true_not_false (sym e))

and_right : (x y : Bool) → (x && y) ≡ true → y ≡ true
and_right true y e = e
and_right false y e = absurd (true_not_false (sym e))

no_more : (n : ℕ) → eqb (suc n) 0 ≡ false
no_more n = grind (arith, nat_tests)

one_less : (n : ℕ) → suc n - 1 ≡ n
one_less n = omega arith

at_most : (d : ℕ) (xs : List ℕ) (i : ℕ) → All (λ x. x ≤ d) xs → get_or xs i 0 ≤ d
at_most d [] i h = omega arith
at_most d (x ∷ xs) zero h = h 0 0 (omega arith)
at_most d (x ∷ xs) (suc i) h = at_most d xs i (λ k e lt. h (suc k) e (omega arith))

-- a command that was given and not accepted is given again, for a core that keeps the first duty
given_again : (given accepted again same : Bool) → given ≡ true → accepted ≡ false → (given && (not accepted && not (again && same))) ≡ false → again ≡ true
given_again true false true same e f h = refl
given_again true false false same e f h = absurd (true_not_false h)
given_again true true again same e f h = absurd (true_not_false f)
given_again false accepted again same e f h = absurd (true_not_false (sym e))

module _ (reply : Reply) (memory : ℕ → Memory) (write addr : ℕ → ℕ) (delays : List ℕ) (side : ℕ → Side) (given : ℕ → Bool) (value mask : ℕ → ℕ) (answer : ℕ → Answer)
    (starts : side 0 ≡ side_at_start) (steps : (k : ℕ) → side (suc k) ≡ side_after delays (side k) (given k) (answer k))
    (replies : (k : ℕ) → Answers reply memory write addr k (answer k)) (d : ℕ) (most : All (λ x. x ≤ d) delays) where
  abbrev b : Bus
  b = side_bus side given write addr value mask

  abbrev delay : ℕ → ℕ
  delay k = delay_at delays (side k).place

  abbrev next : ℕ → ℕ
  next k = delay_at delays (place_after_last delays (side k).place)

  turn_is : (k : ℕ) (t : Turn) → (side k).turn ≡ t → (side (suc k)).turn ≡ turn_after (delay k) (next k) t (given k) (answer k)
  turn_is k t e = ap (λ s. s.turn) (steps k) ∙ ap (λ u. turn_after (delay k) (next k) u (given k) (answer k)) e

  later : (k i : ℕ) → suc k + i ≡ k + suc i
  later k i = omega arith

  -- a response that is owed comes once its cycles are over
  comes : (left k : ℕ) (a : Answer) → (side k).turn ≡ Owed left a → b.rsp_valid (k + left) ≡ 1
  comes zero k a e = subst (λ i. b.rsp_valid i ≡ 1) (sym (add-zero k)) (ap (λ t. one_if (is_some (response_of t))) e)
  comes (suc left) k a e =
      subst (λ i. b.rsp_valid i ≡ 1) (later k left)
      (comes left (suc k) a (turn_is k (Owed (suc left) a) e ∙ ap₂ (λ c l. cond c (Idle (next k)) (Owed l a)) (no_more left) (one_less left)))

  given_is : (k : ℕ) → is_given b k ≡ true → given k ≡ true
  unfolding is_given
  given_is zero e = absurd (true_not_false (sym e))
  given_is (suc k) e = sym (back (given (suc k))) ∙ e

  accepted_is : (k : ℕ) (t : Turn) → (side k).turn ≡ t → is_given b k ≡ true → is_accepted b k ≡ is_ready t
  unfolding is_accepted
  accepted_is k t e g = ap₂ (λ x u. x && eqb (one_if (is_ready u)) 1) g e ∙ back (is_ready t)

  -- a command that stands is accepted once its cycles are over
  takes : (n : ℕ) → ((k : ℕ) → k < n → KeepsDuties b k) → (left k : ℕ) → (side k).turn ≡ Idle left → is_given b k ≡ true → k + left < n → is_accepted b (k + left) ≡ true
  unfolding breaks_standing
  takes n duties zero k e g h = subst (λ i. is_accepted b i ≡ true) (sym (add-zero k)) (accepted_is k (Idle 0) e g)
  takes n duties (suc left) k e g h =
      let not_yet = accepted_is k (Idle (suc left)) e g ∙ no_more left in
      let keeps = duties (suc k) (omega arith) in
      let again = given_again (is_given b k) (is_accepted b k) (is_given b (suc k)) _ g not_yet keeps.stands in
      let turn = turn_is k (Idle (suc left)) e
      ∙ (ap (λ c. cond c (cond (eqb (suc left) 0) (Owed (delay k) (answer k)) (Idle (suc left - 1))) (Idle (suc left))) (given_is k g)
      ∙ ap₂ (λ c l. cond c (Owed (delay k) (answer k)) (Idle l)) (no_more left) (one_less left)) in
      subst (λ i. is_accepted b i ≡ true) (later k left) (takes n duties left (suc k) turn again (omega arith))

  -- no more than d cycles are left
  abbrev Early : Turn → Type 0
  Early Reset = Unit {0}
  Early (Idle left) = left ≤ d
  Early (Owed left a) = left ≤ d

  -- the same after cycle 0
  abbrev Late : Turn → Type 0
  Late Reset = ⊥
  Late (Idle left) = left ≤ d
  Late (Owed left a) = left ≤ d

  early : (t : Turn) → Late t → Early t
  early Reset h = tt
  early (Idle left) h = h
  early (Owed left a) h = h

  late_after : (now then : ℕ) (t : Turn) (g : Bool) (a : Answer) → now ≤ d → then ≤ d → Early t → Late (turn_after now then t g a)
  late_after now then Reset g a p q h = p
  late_after now then (Idle left) true a p q h = go (eqb left 0)
    where
      go : (c : Bool) → Late (cond c (Owed now a) (Idle (left - 1)))
      go true = p
      go false = omega arith
  late_after now then (Idle left) false a p q h = h
  late_after now then (Owed left w) g a p q h = go (eqb left 0)
    where
      go : (c : Bool) → Late (cond c (Idle then) (Owed (left - 1) w))
      go true = q
      go false = omega arith

  is_early : (k : ℕ) → Early (side k).turn
  is_early zero = subst (λ s. Early s.turn) (sym starts) tt
  is_early (suc k) =
      subst (λ s. Early s.turn) (sym (steps k))
      (early _ (late_after (delay k) (next k) (side k).turn (given k) (answer k) (at_most d delays _ most) (at_most d delays _ most) (is_early k)))

  is_late : (k : ℕ) → Late (side (suc k)).turn
  is_late k = subst (λ s. Late s.turn) (sym (steps k)) (late_after (delay k) (next k) (side k).turn (given k) (answer k) (at_most d delays _ most) (at_most d delays _ most) (is_early k))

  accepts : (n : ℕ) → ((k : ℕ) → k < n → KeepsDuties b k) → (k : ℕ) → Begins b k → suc k + (d + 1) < n → (j : ℕ) × (j ≤ d + 1) × (is_accepted b (suc k + j) ≡ true)
  unfolding breaks_waiting
  accepts n duties k begins h = go (side (suc k)).turn refl
    where
      go : (t : Turn) → (side (suc k)).turn ≡ t → (j : ℕ) × (j ≤ d + 1) × (is_accepted b (suc k + j) ≡ true)
      go Reset e = absurd (subst Late e (is_late k))
      go (Idle left) e = let p : left ≤ d = subst Late e (is_late k) in (left, omega arith, takes n duties left (suc k) e begins.given (omega arith))
      go (Owed left a) e =
          let s = subst (λ t. Stands reply memory write addr t (owed b (suc k))) e (stands reply memory write addr delays side given value mask answer starts steps replies (suc k)) in
          let keeps = duties (suc k) (omega arith) in
          absurd (true_not_false (sym (ap₂ (λ x o. x && is_some o) begins.given s.1) ∙ keeps.waits))

  answers : (n k : ℕ) → is_accepted b k ≡ true → k + (d + 1) < n → (j : ℕ) × (1 ≤ j) × (j ≤ d + 1) × (b.rsp_valid (k + j) ≡ 1)
  unfolding is_accepted
  answers n k a h = go (side k).turn refl
    where
      is_given_now : is_given b k ≡ true
      is_given_now = and_left (is_given b k) _ a

      go : (t : Turn) → (side k).turn ≡ t → (j : ℕ) × (1 ≤ j) × (j ≤ d + 1) × (b.rsp_valid (k + j) ≡ 1)
      go Reset e = absurd (true_not_false (sym a ∙ accepted_is k Reset e is_given_now))
      go (Idle left) e =
          let ready = sym (accepted_is k (Idle left) e is_given_now) ∙ a in
          let turn = turn_is k (Idle left) e ∙ ap₂ (λ c r. cond c (cond r (Owed (delay k) (answer k)) (Idle (left - 1))) (Idle left)) (given_is k is_given_now) ready in
          let p : delay k ≤ d = at_most d delays (side k).place most in
          (suc (delay k), omega arith, omega arith, subst (λ i. b.rsp_valid i ≡ 1) (later k (delay k)) (comes (delay k) (suc k) (answer k) turn))
      go (Owed left w) e = absurd (true_not_false (sym a ∙ accepted_is k (Owed left w) e is_given_now))

  pub is_within : (n : ℕ) → ((k : ℕ) → k < n → KeepsDuties b k) → IsWithin b (d + 1) n
  is_within n duties = record { accepts = accepts n duties; answers = answers n }
