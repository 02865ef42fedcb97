-- The part on a bus that takes a command at once and answers it in the next cycle: a run for any takes, redirects and fences, and
-- for any memory by cycle.
use Rattle.std.specs.Prelude.{◌≡◌, ℕ, zero, suc, ◌%◌, Bool, true, false, cond, not, eqb, ltb, ◌&&◌, ◌||◌, Option, Some, None}
use Rattle.core_words.specs.Values.{one_if}
use Rattle.core_ports.specs.Trace.{Bus}
use Rattle.bus_law.specs.Memory.{Memory, word_at}
use Rattle.bus_law.specs.Honest.{IsWithin}
use Rattle.plug_law.specs.Fetch.{FetchSignals, FetchAssumed}
use Rattle.cache_law.specs.Machine.{Registers, line_of, place_of, is_line, address_of, IsCache}

-- what the registers and arrays hold in a cycle
pub record State : Type 0 where
  pub pc : ℕ
  pub walk : ℕ
  pub given : Bool
  pub owed : Bool
  pub dropped : Bool
  pub line : ℕ
  pub place : ℕ
  pub bad : Bool
  pub wanted : Bool
  pub captured : Bool
  pub captured_word : ℕ
  pub captured_error : Bool
  pub tags : ℕ → Option ℕ
  pub cells : ℕ → ℕ → ℕ
  pub full : Bool
  pub out_pc : ℕ
  pub out_word : ℕ
  pub out_error : Bool

abbrev pub error_of : Option ℕ → ℕ
error_of None = 1
error_of (Some w) = 0

abbrev pub data_of : Option ℕ → ℕ
data_of None = 0
data_of (Some w) = w

module _ (lines words reset_pc : ℕ) (mem : ℕ → Memory) (predict : ℕ → ℕ → ℕ) (takes redirects fences : ℕ → Bool) (target : ℕ → ℕ) where
  -- what memory held as the cycle before began
  abbrev pub found : ℕ → ℕ → Option ℕ
  found zero address = None
  found (suc s) address = word_at (mem s) address

  abbrev pub fenced : ℕ → Bool
  fenced t = fences t && redirects t

  abbrev pub address : State → ℕ
  address s = address_of words s.line s.place

  abbrev pub walking : State → Bool
  walking s = ltb s.walk lines

  abbrev pub off : State → Bool
  off s = s.captured || is_line (s.tags (line_of words s.pc % lines)) (line_of words s.pc)

  abbrev pub finds : State → Bool
  finds s = not ((s.given || s.owed) || walking s) && off s

  abbrev pub word : State → ℕ
  word s = cond s.captured s.captured_word (s.cells (line_of words s.pc % lines) (place_of words s.pc))

  abbrev pub take : (t : ℕ) → State → Bool
  take t s = takes t && s.full

  abbrev pub moves : (t : ℕ) → State → Bool
  moves t s = finds s && (not s.full || take t s)

  abbrev pub ready : State → Bool
  ready s = eqb (one_if (not s.owed)) 1

  abbrev pub came : State → Bool
  came s = eqb (one_if s.owed) 1

  abbrev pub keeps : State → Bool
  keeps s = (s.owed && came s) && not s.dropped

  abbrev pub is_last : State → Bool
  is_last s = eqb (suc s.place) words

  abbrev pub misses : (t : ℕ) → State → Bool
  misses t s = not ((s.given || s.owed) || walking s) && (not (off s) && not (redirects t))

  abbrev pub goes : (t : ℕ) → State → Bool
  goes t s = keeps s && (not (is_last s) && not (fenced t))

  abbrev pub error_now : (t : ℕ) → State → Bool
  error_now t s = eqb (error_of (found t (address s))) 1

  abbrev pub now_bad : (t : ℕ) → State → Bool
  now_bad t s = s.bad || error_now t s

  abbrev pub captures : State → Bool
  captures s = keeps s && eqb s.place (place_of words s.pc)

  unfoldable pub step : (t : ℕ) → State → State
  step t s = record {
    pc = cond (redirects t) (target t) (cond (moves t s) (predict s.pc (word s)) s.pc);
    walk = cond (fenced t) 0 (cond (walking s) (suc s.walk) s.walk);
    given = misses t s || (goes t s || (s.given && not (ready s)));
    owed = (s.given && ready s) || (s.owed && not (s.owed && came s));
    dropped = (fenced t || s.dropped) && (s.given || (s.owed && not (s.owed && came s)));
    line = cond (misses t s) (line_of words s.pc) s.line;
    place = cond (misses t s) 0 (cond (goes t s) (suc s.place) s.place);
    bad = not (misses t s) && cond (keeps s) (now_bad t s) s.bad;
    wanted = (misses t s || s.wanted) && not (redirects t);
    captured = (((keeps s && is_last s) && (s.wanted && now_bad t s)) || (s.captured && not (moves t s))) && not (redirects t);
    captured_word = cond (captures s) (data_of (found t (address s))) s.captured_word;
    captured_error = cond (captures s) (error_now t s) s.captured_error;
    tags = λ index. cond (walking s) (cond (eqb index s.walk) None (s.tags index)) (cond ((keeps s && is_last s) && eqb index (s.line % lines)) (cond (now_bad t s) None (Some s.line)) (s.tags index));
    cells = λ index place. cond (keeps s && (eqb index (s.line % lines) && eqb place s.place)) (data_of (found t (address s))) (s.cells index place);
    full = not (redirects t) && (moves t s || (s.full && not (take t s)));
    out_pc = cond (not s.full || take t s) s.pc s.out_pc;
    out_word = cond (not s.full || take t s) (word s) s.out_word;
    out_error = cond (not s.full || take t s) (s.captured && s.captured_error) s.out_error;
  }

  abbrev pub at_reset : State
  at_reset = record {
    pc = reset_pc;
    walk = 0;
    given = false;
    owed = false;
    dropped = false;
    line = 0;
    place = 0;
    bad = false;
    wanted = false;
    captured = false;
    captured_word = 0;
    captured_error = false;
    tags = λ index. Some index;
    cells = λ index place. 0;
    full = false;
    out_pc = 0;
    out_word = 0;
    out_error = false;
  }

  unfoldable pub state : ℕ → State
  state zero = at_reset
  state (suc zero) = at_reset
  state (suc (suc s)) = step (suc s) (state (suc s))

  abbrev pub f : FetchSignals
  f = record {
    take = λ t. takes t && (state t).full;
    redirect = redirects;
    redirect_pc = target;
    fence = fenced;
    valid = λ t. (state t).full;
    pc = λ t. (state t).out_pc;
    word = λ t. (state t).out_word;
    error = λ t. (state t).out_error;
    asked_pc = λ t. (state t).pc;
    asked_word = λ t. word (state t);
    answered = λ t. predict (state t).pc (word (state t));
  }

  abbrev pub ib : Bus
  ib = record {
    cmd_valid = λ t. one_if (state t).given;
    cmd_ready = λ t. one_if (not (state t).owed);
    cmd_write = λ t. 0;
    cmd_addr = λ t. address (state t);
    cmd_data = λ t. 0;
    cmd_mask = λ t. 0;
    rsp_valid = λ t. one_if (state t).owed;
    rsp_error = λ t. error_of (found t (address (state t)));
    rsp_data = λ t. data_of (found t (address (state t)));
  }

  abbrev pub r : Registers
  r = record {
    pc = λ t. (state t).pc;
    walk = λ t. (state t).walk;
    given = λ t. (state t).given;
    owed = λ t. (state t).owed;
    dropped = λ t. (state t).dropped;
    line = λ t. (state t).line;
    place = λ t. (state t).place;
    bad = λ t. (state t).bad;
    wanted = λ t. (state t).wanted;
    captured = λ t. (state t).captured;
    captured_word = λ t. (state t).captured_word;
    captured_error = λ t. (state t).captured_error;
    tags = λ t. (state t).tags;
    cells = λ t. (state t).cells;
    full = λ t. (state t).full;
    out_pc = λ t. (state t).out_pc;
    out_word = λ t. (state t).out_word;
    out_error = λ t. (state t).out_error;
  }

-- for all sizes, each memory by cycle and whatever is taken, redirected and fenced there is a run; the bus is honest and answers within
-- a cycle, and all that the law assumes is met
pub record IsRunOfCache (lines words reset_pc : ℕ) (mem : ℕ → Memory) (predict : ℕ → ℕ → ℕ) (takes redirects fences : ℕ → Bool) (target : ℕ → ℕ) : Type 0 where
  pub is : IsCache lines words reset_pc true (f lines words reset_pc mem predict takes redirects fences target) (ib lines words reset_pc mem predict takes redirects fences target) (r lines words reset_pc mem predict takes redirects fences target)
  pub assumed : (s : ℕ) → FetchAssumed (f lines words reset_pc mem predict takes redirects fences target) (ib lines words reset_pc mem predict takes redirects fences target) mem true predict s
  pub within : (n : ℕ) → IsWithin (ib lines words reset_pc mem predict takes redirects fences target) 1 n

abbrev pub CacheHasRuns : Type 0
CacheHasRuns =
    (lines words reset_pc : ℕ) (mem : ℕ → Memory) (predict : ℕ → ℕ → ℕ) (takes redirects fences : ℕ → Bool) (target : ℕ → ℕ)
    → ((t : ℕ) → target t % 4 ≡ 0) → IsRunOfCache lines words reset_pc mem predict takes redirects fences target
