-- The law of Fetch. What a part shows on its ports is told by functions of the cycle. The law speaks of one cycle after
-- cycle 0, the cycle of reset, and assumes something of the cycles between them alone: so it holds of each prefix of a run,
-- and the part's outputs of a cycle owe nothing to the inputs of that cycle.
use Rattle.std.specs.Prelude.{◌≡◌, ℕ, zero, suc, ◌+◌, ◌*◌, ◌%◌, ◌<◌, ◌≤◌, Bool, true, false, cond, ◌||◌, Option, Some, None}
use Rattle.core_ports.specs.Trace.{Bus}
use Rattle.bus_law.specs.Memory.{Memory}
use Rattle.bus_law.specs.Honest.{IsHonestAt, fetch_reply}
use Rattle.bus_law.specs.Duties.{KeepsDuties}
use Rattle.bus_law.specs.Prompt.{IsPrompt}
use Rattle.isa_model.specs.Machine.{Fetched}
use Rattle.isa_model.specs.Machine.Fetched.{Word, Error}
use Rattle.isa_model.specs.Run.{FetchedFrom}
use Rattle.plug_law.specs.Past.{last}

pub record FetchSignals : Type 0 where
  -- the pipeline takes the item that is offered
  pub take : ℕ → Bool
  -- it drops what is offered and what is on its way, and goes on at redirect_pc
  pub redirect : ℕ → Bool
  pub redirect_pc : ℕ → ℕ
  -- words read so far are not to be offered any more (FENCE.I)
  pub fence : ℕ → Bool
  -- an item is offered: a pc with its word, or with an access fault
  pub valid : ℕ → Bool
  pub pc : ℕ → ℕ
  pub word : ℕ → ℕ
  pub error : ℕ → Bool
  -- what the part asks Predict, and the next pc that Predict answers
  pub asked_pc : ℕ → ℕ
  pub asked_word : ℕ → ℕ
  pub answered : ℕ → ℕ

-- what an item gives: its word, or an access fault
abbrev pub fetched_as : (error : Bool) (word : ℕ) → Fetched
fetched_as true word = Error
fetched_as false word = Word word

-- the item that is offered in a cycle
abbrev pub offered : FetchSignals → ℕ → Fetched
offered f t = fetched_as (f.error t) (f.word t)

-- the item that is offered in cycle t is what memory held at its pc as some cycle began
pub record IsTrueItem (f : FetchSignals) (mem : ℕ → Memory) (t : ℕ) : Type 0 where
  pub cycle : ℕ
  -- that cycle is after reset, not before the last fence, and not after the offer
  pub after_reset : 1 ≤ cycle
  pub after_fence : last f.fence t ≤ cycle
  pub by_then : cycle ≤ t
  pub gives : FetchedFrom (mem cycle) (f.pc t) (offered f t)

-- the pc that follows an item: what Predict says of it; none is fixed behind an access fault
abbrev pub next_of : (predict : ℕ → ℕ → ℕ) → (error : Bool) (pc word : ℕ) → Option ℕ
next_of predict error pc word = cond error None (Some (predict pc word))

-- the pc that the part owes as a cycle begins, where it owes one: that of reset, of the last redirect, or of the item that
-- follows the one taken last
unfoldable pub owes_pc : FetchSignals → (predict : ℕ → ℕ → ℕ) (reset_pc : ℕ) → ℕ → Option ℕ
owes_pc f predict reset_pc zero = Some reset_pc
owes_pc f predict reset_pc (suc zero) = Some reset_pc
owes_pc f predict reset_pc (suc (suc t)) =
    cond (f.redirect (suc t)) (Some (f.redirect_pc (suc t)))
    (cond (f.take (suc t)) (next_of predict (f.error (suc t)) (f.pc (suc t)) (f.word (suc t))) (owes_pc f predict reset_pc (suc t)))

-- in this cycle what the part has to offer next changes
abbrev pub is_taken_or_redirected : FetchSignals → ℕ → Bool
is_taken_or_redirected f t = f.take t || f.redirect t

-- Assumed of cycle s + 1; predicts tells whether Predict is offered.
pub record FetchAssumed (f : FetchSignals) (ib : Bus) (mem : ℕ → Memory) (predicts : Bool) (predict : ℕ → ℕ → ℕ) (s : ℕ) : Type 0 where
  -- only what is offered is taken
  pub takes : f.take (suc s) ≡ true → f.valid (suc s) ≡ true
  -- instructions stand at multiples of 4
  pub whole : f.redirect_pc (suc s) % 4 ≡ 0
  -- a fence comes with a redirect
  pub fences : f.fence (suc s) ≡ true → f.redirect (suc s) ≡ true
  -- Predict's answer depends on what it is asked alone
  pub predicted : predicts ≡ true → f.answered (suc s) ≡ predict (f.asked_pc (suc s)) (f.asked_word (suc s))
  -- the instruction bus answers as the memory that is there in each cycle
  pub honest : IsHonestAt fetch_reply ib mem (suc s)

-- Kept in cycle s + 1. The latency (a, b) means a + b * w cycles on a bus that answers within w.
pub record FetchKept (latency : ℕ × ℕ) (f : FetchSignals) (ib : Bus) (mem : ℕ → Memory) (predict : ℕ → ℕ → ℕ) (reset_pc s : ℕ) : Type 0 where
  pub truth : f.valid (suc s) ≡ true → IsTrueItem f mem (suc s)
  -- where a pc is owed, its item is offered and no other
  pub order : f.valid (suc s) ≡ true → (pc : ℕ) → owes_pc f predict reset_pc (suc s) ≡ Some pc → f.pc (suc s) ≡ pc
  -- an item that is neither taken nor redirected stays
  pub stays : 1 ≤ s → f.valid s ≡ true → f.take s ≡ false → f.redirect s ≡ false
      → (f.valid (suc s) ≡ true) × (f.pc (suc s) ≡ f.pc s) × (f.word (suc s) ≡ f.word s) × (f.error (suc s) ≡ f.error s)
  -- the duties of who gives commands on the instruction bus
  pub duties : KeepsDuties ib (suc s)
  -- an item is offered where the last take, redirect or reset is so long ago
  pub offers : (w : ℕ) → 1 ≤ w → ((j : ℕ) → j < s → IsPrompt ib w (suc j))
      → last (is_taken_or_redirected f) (suc s) + (latency.0 + latency.1 * w) ≤ suc s → f.valid (suc s) ≡ true

abbrev pub FetchLaw : (latency : ℕ × ℕ) (predicts : Bool) (predict : ℕ → ℕ → ℕ) (reset_pc : ℕ) → FetchSignals → (ib : Bus) → (mem : ℕ → Memory) → Type 0
FetchLaw latency predicts predict reset_pc f ib mem =
    (s : ℕ) → ((j : ℕ) → j < s → FetchAssumed f ib mem predicts predict j) → FetchKept latency f ib mem predict reset_pc s
