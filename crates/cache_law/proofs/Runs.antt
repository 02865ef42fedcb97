-- The equations have runs.
use Rattle.std.proofs.Common.{◌≡◌, ℕ, zero, suc, ◌+◌, ◌%◌, Bool, true, false, cond, not, eqb, ltb, ◌&&◌, ◌||◌, Option, Some, None, refl, sym, ap, ◌∙◌, subst, arith, add-zero}
use Rattle.core_words.specs.Values.{one_if}
use Rattle.core_ports.specs.Trace.{Bus}
use Rattle.bus_law.specs.Memory.{Memory, word_at}
use Rattle.bus_law.specs.Protocol.{is_given, is_accepted, owed}
use Rattle.bus_law.specs.Honest.{FetchReply, fetch_reply, Responds, IsWithin}
use Rattle.plug_law.specs.Fetch.{FetchSignals, FetchAssumed}
use Rattle.cache_law.proofs.Truths.{and_l, and_r, both, back, not_true}
use Rattle.cache_law.specs.Machine.{Registers, line_of, place_of, is_line, address_of, IsCache}
use Rattle.cache_law.specs.Runs.{State, error_of, data_of, state, step, IsRunOfCache, CacheHasRuns}
use Rattle.cache_law.specs.Runs as runs
use Rattle.cache_law.proofs.Wires.{ms_of, keeps_of, goes_of, given_of, owed_of, dropped_of}

reply_is : (o : Option ℕ) → FetchReply o (error_of o) (data_of o)
reply_is None = refl
reply_is (Some w) = (refl, refl)

module _ (lines words reset_pc : ℕ) (mem : ℕ → Memory) (predict : ℕ → ℕ → ℕ) (takes redirects fences : ℕ → Bool) (target : ℕ → ℕ) where
  abbrev S : ℕ → State
  S t = state lines words reset_pc mem predict takes redirects fences target t

  abbrev ib : Bus
  ib = runs.ib lines words reset_pc mem predict takes redirects fences target

  abbrev f : FetchSignals
  f = runs.f lines words reset_pc mem predict takes redirects fences target

  abbrev r : Registers
  r = runs.r lines words reset_pc mem predict takes redirects fences target

  -- ---- the bus
  accepted_is : (s : ℕ) → is_accepted ib (suc s) ≡ ((S (suc s)).given && not (S (suc s)).owed)
  unfolding is_accepted is_given
  accepted_is s = λ j. back (S (suc s)).given j && back (not (S (suc s)).owed) j

  owed_next : (s : ℕ) → (S (suc (suc s))).owed ≡ ((S (suc s)).given && not (S (suc s)).owed)
  unfolding state step
  owed_next s = by (S (suc s)).given (S (suc s)).owed
    where
      by : (g o : Bool) → owed_of g o (eqb (one_if o) 1) (eqb (one_if (not o)) 1) ≡ (g && not o)
      by true true = refl
      by true false = refl
      by false true = refl
      by false false = refl

  no : (z : Bool) → (z && false) ≡ false
  no true = refl
  no false = refl

  apart : (s : ℕ) → ((S (suc s)).given && (S (suc s)).owed) ≡ false
  unfolding state step
  apart zero = refl
  apart (suc s) = by (S (suc s)).given (S (suc s)).owed (runs.walking lines words reset_pc mem predict takes redirects fences target (S (suc s))) (runs.off lines words reset_pc mem predict takes redirects fences target (S (suc s))) (redirects (suc s)) (S (suc s)).dropped (runs.is_last lines words reset_pc mem predict takes redirects fences target (S (suc s))) ((fences (suc s) && redirects (suc s))) (apart s)
    where
      by : (g o wk of rd dr la fe : Bool) → (g && o) ≡ false
          → (given_of (ms_of g o wk of rd) (goes_of o (eqb (one_if o) 1) dr la fe) g (eqb (one_if (not o)) 1) && owed_of g o (eqb (one_if o) 1) (eqb (one_if (not o)) 1)) ≡ false
      by true true wk of rd dr la fe e = absurd (grind arith)
      by true false wk of rd dr la fe e = refl
      by false true wk of rd dr la fe e = no (given_of (ms_of false true wk of rd) (goes_of true true dr la fe) false false)
      by false false wk of rd dr la fe e = no (given_of (ms_of false false wk of rd) (goes_of false false dr la fe) false true)

  owed_is : (s : ℕ) → owed ib (suc s) ≡ cond (S (suc s)).owed (Some s) None
  unfolding owed is_accepted is_given state
  owed_is zero = refl
  owed_is (suc s) =
      (λ j. cond (accepted_is s j) (Some (suc s)) (cond (back (S (suc s)).owed j) None (owed_is s j)))
      ∙ (by (S (suc s)).given (S (suc s)).owed ∙ λ j. cond (sym (owed_next s) j) (Some (suc s)) None)
    where
      by : (g o : Bool) → cond (g && not o) (Some (suc s)) (cond o None (cond o (Some s) None)) ≡ cond (g && not o) (Some (suc s)) None
      by true true = refl
      by true false = refl
      by false true = refl
      by false false = refl

  same_address : (s : ℕ) → (S (suc (suc s))).owed ≡ true → runs.address lines words reset_pc mem predict takes redirects fences target (S (suc (suc s))) ≡ runs.address lines words reset_pc mem predict takes redirects fences target (S (suc s))
  unfolding state step
  same_address s e =
      let h = sym (owed_next s) ∙ e in
      let ge = and_l (S (suc s)).given (not (S (suc s)).owed) h in
      let oe = not_true (S (suc s)).owed (and_r (S (suc s)).given (not (S (suc s)).owed) h) in
      λ j. address_of words
      (cond (ms_of (ge j) (oe j) (runs.walking lines words reset_pc mem predict takes redirects fences target (S (suc s))) (runs.off lines words reset_pc mem predict takes redirects fences target (S (suc s))) (redirects (suc s))) (line_of words (S (suc s)).pc) (S (suc s)).line)
      (cond (ms_of (ge j) (oe j) (runs.walking lines words reset_pc mem predict takes redirects fences target (S (suc s))) (runs.off lines words reset_pc mem predict takes redirects fences target (S (suc s))) (redirects (suc s))) 0 (cond (goes_of (oe j) (runs.came lines words reset_pc mem predict takes redirects fences target (S (suc s))) (S (suc s)).dropped (runs.is_last lines words reset_pc mem predict takes redirects fences target (S (suc s))) ((fences (suc s) && redirects (suc s)))) (suc (S (suc s)).place) (S (suc s)).place))

  first_owed : (S 1).owed ≡ false
  unfolding state
  first_owed = refl

  responds : (s : ℕ) (b : Bool) → (S (suc s)).owed ≡ b → Responds fetch_reply ib mem (suc s) (cond b (Some s) None)
  responds s false e = ap one_if e
  responds zero true e = both (S 1).owed e first_owed
  responds (suc s) true e = (
    ap (λ b. one_if (not b)) e,
    λ v. subst (λ a. FetchReply (word_at (mem (suc s)) a) (error_of (word_at (mem (suc s)) (runs.address lines words reset_pc mem predict takes redirects fences target (S (suc (suc s)))))) (data_of (word_at (mem (suc s)) (runs.address lines words reset_pc mem predict takes redirects fences target (S (suc (suc s)))))))
        (same_address s e) (reply_is (word_at (mem (suc s)) (runs.address lines words reset_pc mem predict takes redirects fences target (S (suc (suc s)))))),
  )

  assumed : ((t : ℕ) → target t % 4 ≡ 0) → (s : ℕ) → FetchAssumed f ib mem true predict s
  assumed whole s = record {
    takes = λ e. and_r (takes (suc s)) (S (suc s)).full e;
    whole = whole (suc s);
    fences = λ e. and_r (fences (suc s)) (redirects (suc s)) e;
    predicted = λ e. refl;
    honest = record {
      starts = λ e. absurd (omega arith);
      responds = subst (Responds fetch_reply ib mem (suc s)) (sym (owed_is s)) (responds s (S (suc s)).owed refl);
    };
  }

  given_accepted : (k : ℕ) → is_given ib (suc k) ≡ true → is_accepted ib (suc k) ≡ true
  unfolding is_given
  given_accepted k h = accepted_is k ∙ by (S (suc k)).given (S (suc k)).owed (sym (back (S (suc k)).given) ∙ h) (apart k)
    where
      by : (g o : Bool) → g ≡ true → (g && o) ≡ false → (g && not o) ≡ true
      by true true e a = absurd (grind arith)
      by true false e a = refl
      by false o e a = e

  answered : (k : ℕ) → is_accepted ib k ≡ true → ib.rsp_valid (k + 1) ≡ 1
  unfolding is_accepted is_given
  answered zero h = absurd (grind arith)
  answered (suc s) h = subst (λ t. ib.rsp_valid t ≡ 1) later (ap one_if (owed_next s ∙ (sym (accepted_is s) ∙ h)))
    where
      later : suc (suc s) ≡ suc s + 1
      later = omega arith

  within : (n : ℕ) → IsWithin ib 1 n
  within n = record {
    accepts = λ k begins l. (0, omega arith, subst (λ t. is_accepted ib t ≡ true) (sym (add-zero (suc k))) (given_accepted k begins.given));
    answers = λ k a l. (1, omega arith, omega arith, answered k a);
  }

  is_cache : IsCache lines words reset_pc true f ib r
  unfolding state step
  is_cache = record {
    pc_reset = refl;
    walk_reset = refl;
    given_reset = refl;
    owed_reset = refl;
    captured_reset = refl;
    full_reset = refl;
    pc = λ s. refl;
    walk = λ s. refl;
    given = λ s. refl;
    owed = λ s. refl;
    dropped = λ s. refl;
    line = λ s. refl;
    place = λ s. refl;
    bad = λ s. refl;
    wanted = λ s. refl;
    captured = λ s. refl;
    captured_word = λ s. refl;
    captured_error = λ s. refl;
    tags = λ s i. refl;
    cells = λ s i k. refl;
    full = λ s. refl;
    out_pc = λ s. refl;
    out_word = λ s. refl;
    out_error = λ s. refl;
    valid = λ s. refl;
    item_pc = λ s. refl;
    item_word = λ s. refl;
    item_error = λ s. refl;
    cmd_valid = λ s. refl;
    cmd_addr = λ s. refl;
    cmd_write = λ s. refl;
    cmd_data = λ s. refl;
    cmd_mask = λ s. refl;
    asks = λ e s. (refl, refl);
  }

  pub is_run : ((t : ℕ) → target t % 4 ≡ 0) → IsRunOfCache lines words reset_pc mem predict takes redirects fences target
  is_run whole = record { is = is_cache; assumed = assumed whole; within = within }

pub has_runs : CacheHasRuns
has_runs lines words reset_pc mem predict takes redirects fences target whole = is_run lines words reset_pc mem predict takes redirects fences target whole
