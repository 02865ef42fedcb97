-- What a fetch with a cache reads again, and how soon it offers what the cache holds: the law of a direct-mapped cache of
-- lines, each of a number of words, that the instruction bus fills.
use Rattle.std.specs.Prelude.{◌≡◌, ℕ, zero, suc, ◌+◌, ◌*◌, ◌/◌, ◌%◌, ◌<◌, ◌≤◌, Bool, true, false, cond, not, eqb, ltb, ◌&&◌, ◌||◌, is_some, None}
use Rattle.core_ports.specs.Trace.{Bus}
use Rattle.bus_law.specs.Memory.{Memory, word_at}
use Rattle.bus_law.specs.Protocol.{is_given, is_accepted, owed}
use Rattle.bus_law.specs.Prompt.{given_from}
use Rattle.plug_law.specs.Table.{IsMemoryAt}
use Rattle.plug_law.specs.Past.{last}
use Rattle.plug_law.specs.Fetch.{FetchSignals, FetchAssumed}

-- the line of an address
abbrev pub line_of : (words : ℕ) → ℕ → ℕ
line_of words addr = addr / (4 * words)

-- the address of a word of that line
abbrev pub word_of_line : (words : ℕ) → (addr i : ℕ) → ℕ
word_of_line words addr i = line_of words addr * (4 * words) + 4 * i

-- the word at an address is read: a command for it is accepted that was first given after the last fence
abbrev pub reads_word : FetchSignals → Bus → (addr : ℕ) → ℕ → Bool
reads_word f ib addr t = is_accepted ib t && (eqb (ib.cmd_addr t) addr && ltb (last f.fence (suc t)) (given_from ib t))

-- a command for another line of the same index is accepted
abbrev pub overtakes : (lines words : ℕ) → Bus → (addr : ℕ) → ℕ → Bool
overtakes lines words ib addr t =
    is_accepted ib t && (eqb (line_of words (ib.cmd_addr t) % lines) (line_of words addr % lines) && not (eqb (line_of words (ib.cmd_addr t)) (line_of words addr)))

-- as a cycle begins: the word was read since reset and the last fence, and its line has not been overtaken since
unfoldable pub still_held : (lines words : ℕ) → FetchSignals → Bus → (addr : ℕ) → ℕ → Bool
still_held lines words f ib addr zero = false
still_held lines words f ib addr (suc t) =
    cond (f.fence t) false (reads_word f ib addr t || (not (overtakes lines words ib addr t) && still_held lines words f ib addr t))

-- the line of an address lies in memory whole
abbrev pub IsLineInside : (words : ℕ) → Memory → (addr : ℕ) → Type 0
IsLineInside words m addr = (i : ℕ) → i < words → is_some (word_at m (word_of_line words addr i)) ≡ true

-- kept in cycle s + 1
pub record CacheKept (lines words : ℕ) (f : FetchSignals) (ib : Bus) (mem : ℕ → Memory) (predict : ℕ → ℕ → ℕ) (s : ℕ) : Type 0 where
  -- a word that the cache holds is not read again
  pub no_refetch : is_accepted ib (suc s) ≡ true → IsLineInside words (mem (suc s)) (ib.cmd_addr (suc s)) → still_held lines words f ib (ib.cmd_addr (suc s)) (suc s) ≡ false
  -- behind an item that is taken the next one is offered at once, where the cache holds its line and the bus is at rest
  pub streams : 1 ≤ s → f.take s ≡ true → f.error s ≡ false → f.redirect s ≡ false → is_given ib s ≡ false → owed ib s ≡ None
      → IsLineInside words (mem s) (predict (f.pc s) (f.word s))
      → ((i : ℕ) → i < words → still_held lines words f ib (word_of_line words (predict (f.pc s) (f.word s)) i) s ≡ true)
      → f.valid (suc s) ≡ true

-- memory stands at one place: this law alone of Fetch's assumes it
abbrev pub CacheLaw : (lines words : ℕ) (predicts : Bool) (predict : ℕ → ℕ → ℕ) → FetchSignals → (ib : Bus) → (mem : ℕ → Memory) → Type 0
CacheLaw lines words predicts predict f ib mem =
    (s : ℕ) → ((j : ℕ) → j < s → FetchAssumed f ib mem predicts predict j) → ((j : ℕ) → j ≤ s → IsMemoryAt mem (suc j)) → CacheKept lines words f ib mem predict s
