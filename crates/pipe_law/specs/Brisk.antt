-- Progress: the machine does not stand still for long, on buses that answer in time.
use Rattle.std.specs.Prelude.{◌≡◌, ℕ, zero, suc, ◌+◌, ◌*◌, ◌<◌, ◌≤◌, max, Bool, true, false, cond, not, List, [], ◌∷◌, Some}
use Rattle.core_ports.specs.Trace.{Trace, instruction_bus, data_bus, has_event, lines_at}
use Rattle.bus_law.specs.Honest.{Within}
use Rattle.isa_csr.specs.Csrs.{wakes}
use Rattle.isa_model.specs.Machine.{Machine}
use Rattle.isa_model.specs.Machine.Fetched.{Word}
use Rattle.isa_model.specs.Run.{History, Possible, now}
use Rattle.plug_law.specs.Table.{Table}

-- how many of len cycles from cycle u on f names
unfoldable pub count : (ℕ → Bool) → (from len : ℕ) → ℕ
count f u zero = 0
count f u (suc len) = cond (f u) 1 0 + count f (suc u) len

-- a latency (a, b) in cycles, where buses answer within w
abbrev pub cycles_of : (latency : ℕ × ℕ) → (w : ℕ) → ℕ
cycles_of latency w = latency.0 + latency.1 * w

-- the greatest latency of the entries, and at least 1
abbrev pub longest : (latency : ℕ → ℕ × ℕ) → (entries : List ℕ) → (w : ℕ) → ℕ
longest latency [] w = 1
longest latency (k ∷ ks) w = max (cycles_of (latency k) w) (longest latency ks w)

-- the machine may wait: a word that may be fetched at its pc is a WFI (row 56), and no interrupt line wakes it
pub record IsWait (t : Table) (start : Machine) (past : History) (lines : ℕ) : Type 0 where
  pub word : ℕ
  pub possible : Possible start past (now start past).pc (Word word)
  pub is : t.row_of word ≡ Some 56
  pub sleeps : wakes (now start past).csrs lines ≡ false

-- cycles from u on without an event, in which the machine is not stopped
abbrev pub IsStill : (start : Machine) → Trace → (past : ℕ → History) → (u len : ℕ) → Type 0
IsStill start run' past u len = (k : ℕ) → u ≤ k → k < u + len → (has_event run' k ≡ false) × ((now start (past k)).stopped ≡ false)

-- Of the first n cycles of a run that follows the machine; past is the machine's history as each cycle begins, fetch and exec are
-- the latencies of Fetch and of the units, by the wait w of the buses.
pub record Brisk (t : Table) (fetch exec : ℕ → ℕ) (start : Machine) (run' : Trace) (n : ℕ) (past : ℕ → History) : Type 0 where
  -- some of the cycles in which the machine may wait
  pub waits : ℕ → Bool
  pub are : (k : ℕ) → 1 ≤ k → k < n → waits k ≡ true → IsWait t start (past k) (lines_at run' k)
  -- without an event and out of a stop there are so few other cycles in a row, whatever w the buses keep
  pub bound : (w : ℕ) → 1 ≤ w → Within (instruction_bus run') (data_bus run') w n → (u len : ℕ) → 1 ≤ u → u + len ≤ n → IsStill start run' past u len
      → count (λ k. not (waits k)) u len < 2 * fetch w + 3 * exec w + 20
