-- The laws of the cached fetch.
use Rattle.std.specs.Prelude.{◌≡◌, ℕ, ◌+◌, ◌*◌, ◌%◌, ◌≤◌, Bool}
use Rattle.core_ports.specs.Trace.{Bus}
use Rattle.bus_law.specs.Memory.{Memory}
use Rattle.plug_law.specs.Cache.{CacheLaw}
use Rattle.plug_law.specs.Fetch.{FetchLaw, FetchSignals}
use Rattle.plug_law.specs.Predict.{IsPredict}
use Rattle.cache_law.specs.Cells.{Cells, IsCells, listed}
use Rattle.cache_law.specs.Machine.{IsCache, Registers}

-- a + b * w cycles on a bus that answers within w
abbrev pub latency_of : (lines words : ℕ) → ℕ × ℕ
latency_of lines words = (lines + 4 * words + 12, 4 * words + 4)

-- the law of Fetch at that latency, with Predict and without, whatever the memory, the numbers of lines and of words in a line
abbrev pub CacheKeepsLaw : Type 0
CacheKeepsLaw =
    (lines words reset_pc : ℕ) (predicts : Bool) (predict : ℕ → ℕ → ℕ) (f : FetchSignals) (ib : Bus) (mem : ℕ → Memory) (r : Registers)
    → 1 ≤ lines → 1 ≤ words → reset_pc % 4 ≡ 0 → IsPredict predicts predict → IsCache lines words reset_pc predicts f ib r
    → FetchLaw (latency_of lines words) predicts predict reset_pc f ib mem

-- the law of a cache: nothing that is held is read again, and what is held comes without a gap
abbrev pub CacheKeepsLines : Type 0
CacheKeepsLines =
    (lines words reset_pc : ℕ) (predicts : Bool) (predict : ℕ → ℕ → ℕ) (f : FetchSignals) (ib : Bus) (mem : ℕ → Memory) (r : Registers)
    → 1 ≤ lines → 1 ≤ words → reset_pc % 4 ≡ 0 → IsPredict predicts predict → IsCache lines words reset_pc predicts f ib r
    → CacheLaw lines words predicts predict f ib mem

-- the arrays of tags and words are the lines
abbrev pub CellsAreLines : Type 0
CellsAreLines =
    (lines words top reset_pc : ℕ) (predicts : Bool) (f : FetchSignals) (ib : Bus) (q : Cells)
    → 1 ≤ top → 1 ≤ lines → 1 ≤ words → IsCells lines words top reset_pc predicts f ib q
    → IsCache lines words reset_pc predicts f ib (listed lines words top q)
