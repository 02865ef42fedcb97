-- For any reads given on the instruction bus, cycle by cycle, there is a bus that is honest over any memory: the one
-- that takes each command as it comes, where no response is owed, and answers in the next cycle.
use Rattle.std.proofs.Common.{◌≡◌, ℕ, zero, suc, Bool, true, false, cond, not, eqb, ◌&&◌, Option, Some, None, refl, sym, ap, ◌∙◌, subst, arith}
use Rattle.core_words.specs.Values.{one_if}
use Rattle.core_ports.specs.Trace.{Bus}
use Rattle.bus_law.specs.Memory.{Memory, word_at}
use Rattle.bus_law.specs.Protocol.{is_given, is_accepted, owed}
use Rattle.bus_law.specs.Honest.{FetchReply, fetch_reply, Responds, IsHonestAt}

module _ (memory : ℕ → Memory) (valid addr : ℕ → ℕ) where
  -- a response is owed
  unfoldable pub busy : ℕ → Bool
  busy zero = false
  busy (suc zero) = false
  busy (suc (suc k)) = eqb (valid (suc k)) 1 && not (busy (suc k))

  unfoldable pub ready : ℕ → ℕ
  ready zero = 0
  ready (suc k) = one_if (not (busy (suc k)))

  abbrev pub error_of : Option ℕ → ℕ
  error_of None = 1
  error_of (Some w) = 0

  abbrev pub data_of : Option ℕ → ℕ
  data_of None = 0
  data_of (Some w) = w

  -- what memory held as the cycle before began
  unfoldable pub answer : ℕ → Option ℕ
  answer zero = None
  answer (suc k) = word_at (memory k) (addr k)

  abbrev pub at_once : Bus
  at_once = record {
    cmd_valid = valid;
    cmd_ready = ready;
    cmd_write = λ k. 0;
    cmd_addr = addr;
    cmd_data = λ k. 0;
    cmd_mask = λ k. 0;
    rsp_valid = λ k. one_if (busy k);
    rsp_error = λ k. error_of (answer k);
    rsp_data = λ k. data_of (answer k);
  }

  back : (b : Bool) → eqb (one_if b) 1 ≡ b
  back true = refl
  back false = refl

  accepted_is : (k : ℕ) → is_accepted at_once k ≡ busy (suc k)
  unfolding is_accepted is_given busy ready
  accepted_is zero = refl
  accepted_is (suc k) = ap (λ b. eqb (valid (suc k)) 1 && b) (back (not (busy (suc k))))

  by_busy : (k : ℕ) (now next : Bool) (before : Option ℕ) → (now ≡ false → before ≡ None) → cond next (Some k) (cond (eqb (one_if now) 1) None before) ≡ cond next (Some k) None
  by_busy k true true before h = refl
  by_busy k true false before h = refl
  by_busy k false true before h = refl
  by_busy k false false before h = h refl

  -- what is owed in a cycle is the command of the cycle before
  owed_is : (k : ℕ) → owed at_once (suc k) ≡ cond (busy (suc k)) (Some k) None
  unfolding owed
  owed_is zero = ap (λ b. cond b (Some 0) (cond (eqb (one_if (busy 0)) 1) None None)) (accepted_is 0) ∙ by_busy 0 (busy 0) (busy 1) None (λ e. refl)
  owed_is (suc k) =
      ap (λ b. cond b (Some (suc k)) (cond (eqb (one_if (busy (suc k))) 1) None (owed at_once (suc k)))) (accepted_is (suc k))
      ∙ by_busy (suc k) (busy (suc k)) (busy (suc (suc k))) (owed at_once (suc k)) (λ e. owed_is k ∙ ap (λ b. cond b (Some k) None) e)

  reply_is : (o : Option ℕ) → FetchReply o (error_of o) (data_of o)
  reply_is None = refl
  reply_is (Some w) = (refl, refl)

  responds_by : (k : ℕ) (b : Bool) → busy (suc k) ≡ b → Responds fetch_reply at_once memory (suc k) (cond b (Some k) None)
  unfolding answer ready
  responds_by k true e = (ap (λ c. one_if (not c)) e, λ _. reply_is (word_at (memory k) (addr k)))
  responds_by k false e = ap one_if e

  pub at_once_is_honest : (k : ℕ) → IsHonestAt fetch_reply at_once memory k
  unfolding owed busy ready
  at_once_is_honest zero = record { starts = λ _. refl; responds = refl }
  at_once_is_honest (suc k) = record {
    starts = λ e. absurd (omega arith);
    responds = subst (Responds fetch_reply at_once memory (suc k)) (sym (owed_is k)) (responds_by k (busy (suc k)) refl);
  }
