-- How far ahead of the items taken a fetch reads: a law of a fetch with a queue of a fixed depth.
use Rattle.std.specs.Prelude.{◌≡◌, ℕ, suc, ◌+◌, ◌*◌, ◌<◌, ◌≤◌, Bool}
use Rattle.core_ports.specs.Trace.{Bus}
use Rattle.bus_law.specs.Memory.{Memory}
use Rattle.bus_law.specs.Prompt.{IsPrompt}
use Rattle.plug_law.specs.Past.{last, count_since, accepted_since}
use Rattle.plug_law.specs.Fetch.{FetchSignals, FetchAssumed, is_taken_or_redirected}

-- the commands accepted before a cycle that were first given after the last redirect
abbrev pub words_read : FetchSignals → Bus → ℕ → ℕ
words_read f ib t = accepted_since ib (last f.redirect t) t

-- the items taken after the last redirect and before a cycle
abbrev pub words_taken : FetchSignals → ℕ → ℕ
words_taken f t = count_since f.take (last f.redirect t) t

-- kept as cycle s + 1 begins
pub record DepthKept (depth : ℕ) (f : FetchSignals) (ib : Bus) (s : ℕ) : Type 0 where
  -- what is taken was read
  pub least : words_taken f (suc s) ≤ words_read f ib (suc s)
  -- no more is read than fits into the queue
  pub most : words_read f ib (suc s) ≤ words_taken f (suc s) + depth
  -- after so many cycles without a take or a redirect the queue is full
  pub full : (w : ℕ) → 1 ≤ w → ((j : ℕ) → j < s → IsPrompt ib w (suc j))
      → last (is_taken_or_redirected f) (suc s) + depth * (8 + 4 * w) ≤ s → words_read f ib (suc s) ≡ words_taken f (suc s) + depth

abbrev pub DepthLaw : (depth : ℕ) (predicts : Bool) (predict : ℕ → ℕ → ℕ) → FetchSignals → (ib : Bus) → (mem : ℕ → Memory) → Type 0
DepthLaw depth predicts predict f ib mem = (s : ℕ) → ((j : ℕ) → j < s → FetchAssumed f ib mem predicts predict j) → DepthKept depth f ib s
