-- The run of both buses over one memory is honest.
use Rattle.std.proofs.Common.{◌≡◌, ℕ, zero, suc, Bool, true, false, cond, eqb, List, ◌&&◌, Option, Some, None, refl, sym, ap, ◌∙◌, subst}
use Rattle.core_words.specs.Values.{one_if}
use Rattle.core_ports.specs.Trace.{Bus}
use Rattle.bus_law.specs.declared.side.Answer.{Answer}
use Rattle.bus_law.specs.declared.side.Side.{Side}
use Rattle.bus_law.specs.declared.signals.BusOut.{BusOut}
use Rattle.bus_law.specs.Memory.{Memory, word_at, is_window, written}
use Rattle.bus_law.specs.Protocol.{is_given, is_accepted, is_write, memory_at}
use Rattle.bus_law.specs.Honest.{FetchReply, DataReply, fetch_reply, data_reply, IsHonestAt, Honest}
use Rattle.bus_law.specs.Sides.{is_ready, side_after, side_at_start}
use Rattle.bus_law.specs.Answers.{State, fetched, accessed, stores, state_at, fetch_bus, access_bus}
use Rattle.bus_law.proofs.Turns.{Answers, is_honest}

fetch_is : (o : Option ℕ) → FetchReply o (one_if (fetched o).error) (fetched o).payload
fetch_is None = refl
fetch_is (Some word) = (refl, refl)

access_is : (o : Option ℕ) (window write : Bool) → DataReply o window (eqb (one_if write) 1) (one_if (accessed o window write).error) (accessed o window write).payload
access_is None true true = refl
access_is None true false = (refl, refl)
access_is None false true = refl
access_is None false false = refl
access_is (Some word) true true = refl
access_is (Some word) true false = (refl, refl)
access_is (Some word) false true = refl
access_is (Some word) false false = (refl, refl)

module _ (m : Memory) (delays : List ℕ) (outs : ℕ → BusOut) where
  abbrev pub state : ℕ → State
  state = state_at m delays outs

  abbrev pub ib : Bus
  ib = fetch_bus m delays outs

  abbrev pub db : Bus
  db = access_bus m delays outs

  and_assoc : (g r w : Bool) → ((eqb (one_if g) 1 && eqb (one_if r) 1) && eqb (one_if w) 1) ≡ (g && (r && w))
  and_assoc true true true = refl
  and_assoc true true false = refl
  and_assoc true false w = refl
  and_assoc false r w = refl

  never : (g w : Bool) → (g && (false && w)) ≡ false
  never true w = refl
  never false w = refl

  write_is : (k : ℕ) → is_write db k ≡ stores (state k) (outs k)
  unfolding is_write is_accepted is_given state_at
  write_is zero = sym (never (outs 0).db_cmd_valid (outs 0).db_cmd_write)
  write_is (suc k) = and_assoc (outs (suc k)).db_cmd_valid (is_ready (state (suc k)).access.turn) (outs (suc k)).db_cmd_write

  -- the memory of the state is the one that the accepted writes make
  pub memory_is : (k : ℕ) → memory_at m db k ≡ (state k).memory
  unfolding memory_at state_at
  memory_is zero = refl
  memory_is (suc k) =
      ap (λ b. cond b (written (memory_at m db k) (outs k).db_cmd_addr (outs k).db_cmd_data (outs k).db_cmd_mask) (memory_at m db k)) (write_is k)
      ∙ ap (λ n. cond (stores (state k) (outs k)) (written n (outs k).db_cmd_addr (outs k).db_cmd_data (outs k).db_cmd_mask) n) (memory_is k)

  abbrev pub fetch_answer : ℕ → Answer
  fetch_answer k = fetched (word_at (state k).memory (outs k).ib_cmd_addr)

  abbrev pub access_answer : ℕ → Answer
  access_answer k = accessed (word_at (state k).memory (outs k).db_cmd_addr) (is_window (outs k).db_cmd_addr) (outs k).db_cmd_write

  pub fetch_answers : (k : ℕ) → Answers fetch_reply (memory_at m db) (λ i. 0) (λ i. (outs i).ib_cmd_addr) k (fetch_answer k)
  fetch_answers k =
      subst (λ n. FetchReply (word_at n (outs k).ib_cmd_addr) (one_if (fetch_answer k).error) (fetch_answer k).payload) (sym (memory_is k))
      (fetch_is (word_at (state k).memory (outs k).ib_cmd_addr))

  pub access_answers : (k : ℕ) → Answers data_reply (memory_at m db) (λ i. one_if (outs i).db_cmd_write) (λ i. (outs i).db_cmd_addr) k (access_answer k)
  access_answers k =
      subst (λ n. DataReply (word_at n (outs k).db_cmd_addr) (is_window (outs k).db_cmd_addr) (eqb (one_if (outs k).db_cmd_write) 1) (one_if (access_answer k).error) (access_answer k).payload) (sym (memory_is k))
      (access_is (word_at (state k).memory (outs k).db_cmd_addr) (is_window (outs k).db_cmd_addr) (outs k).db_cmd_write)

  abbrev pub fetch_side : ℕ → Side
  fetch_side k = (state k).instruction

  abbrev pub access_side : ℕ → Side
  access_side k = (state k).access

  pub fetch_starts : fetch_side 0 ≡ side_at_start
  unfolding state_at
  fetch_starts = refl

  pub access_starts : access_side 0 ≡ side_at_start
  unfolding state_at
  access_starts = refl

  delays_are : (k : ℕ) → (state k).delays ≡ delays
  unfolding state_at
  delays_are zero = refl
  delays_are (suc k) = delays_are k

  pub fetch_steps : (k : ℕ) → fetch_side (suc k) ≡ side_after delays (fetch_side k) (outs k).ib_cmd_valid (fetch_answer k)
  unfolding state_at
  fetch_steps k = ap (λ d. side_after d (fetch_side k) (outs k).ib_cmd_valid (fetch_answer k)) (delays_are k)

  pub access_steps : (k : ℕ) → access_side (suc k) ≡ side_after delays (access_side k) (outs k).db_cmd_valid (access_answer k)
  unfolding state_at
  access_steps k = ap (λ d. side_after d (access_side k) (outs k).db_cmd_valid (access_answer k)) (delays_are k)

  fetches_honest : (k : ℕ) → IsHonestAt fetch_reply ib (memory_at m db) k
  fetches_honest = is_honest fetch_reply (memory_at m db) (λ i. 0) (λ i. (outs i).ib_cmd_addr) delays fetch_side (λ i. (outs i).ib_cmd_valid) (λ i. 0) (λ i. 0) fetch_answer fetch_starts fetch_steps fetch_answers

  accesses_honest : (k : ℕ) → IsHonestAt data_reply db (memory_at m db) k
  accesses_honest = is_honest data_reply (memory_at m db) (λ i. one_if (outs i).db_cmd_write) (λ i. (outs i).db_cmd_addr) delays access_side (λ i. (outs i).db_cmd_valid) (λ i. (outs i).db_cmd_data) (λ i. (outs i).db_cmd_mask) access_answer access_starts access_steps access_answers

  pub run_is_honest : (n : ℕ) → Honest ib db m n
  run_is_honest n = record { fetches = λ k h. fetches_honest k; accesses = λ k h. accesses_honest k }
