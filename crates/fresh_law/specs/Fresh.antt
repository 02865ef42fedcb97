-- The word that memory gave at a pc since the last FENCE.I, and the events that it fixes.
use Rattle.std.specs.Prelude.{◌≡◌, ℕ, ◌<◌, true, false, [], ◌∷◌, ◌++◌, ◌⊎◌, Some}
use Rattle.core_ports.specs.Trace.{Trace, port_event, has_event}
use Rattle.bus_law.specs.Memory.{word_at}
use Rattle.isa_model.specs.Machine.{Set, Machine, Event, is_interrupt}
use Rattle.isa_model.specs.Machine.Event.{Retire, Trap, Interrupt}
use Rattle.isa_model.specs.Run.{Entry, History, now, is_fence, IsRun}
use Rattle.isa_follow.specs.Follows.{Follows}

-- memory gave the word at a pc in the present state, and in each state before it back to the last retired FENCE.I, or to the start
abbrev pub HeldOne : (start : Machine) → (past : History) → (pc word : ℕ) → Type 0
HeldOne start [] pc word = word_at start.memory pc ≡ Some word
HeldOne start (e ∷ past) pc word = (word_at e.done.new.memory pc ≡ Some word) × ((is_fence e.done.event ≡ false) → HeldOne start past pc word)

-- a retirement or a trap of the word at the pc
abbrev pub IsOfWord : (pc word : ℕ) → Event → Type 0
IsOfWord pc word (Retire at of rd value) = (at ≡ pc) × (of ≡ word)
IsOfWord pc word (Trap at of cause stops) = (at ≡ pc) × (of ≡ word)
IsOfWord pc word (Interrupt at cause) = ⊥

-- each step of a run that is no interrupt has the word that was held
abbrev pub FreshWords : Type 0
FreshWords =
    (s : Set) (start : Machine) (lines : ℕ → ℕ) (later past : History) (e : Entry) → IsRun s start lines (later ++ e ∷ past) → is_interrupt e.done.event ≡ false
    → (word : ℕ) → HeldOne start past (now start past).pc word → IsOfWord (now start past).pc word e.done.event

-- and so has each event that a core shows whose run follows the machine
abbrev pub FreshEvents : Type 0
FreshEvents =
    (s : Set) (start : Machine) (run : Trace) (n : ℕ) (f : Follows s start run n) (k : ℕ) → k < n → has_event run k ≡ true
    → (word : ℕ) → HeldOne start (f.history k) (now start (f.history k)).pc word
    → ((port_event run k).kind ≡ 2) ⊎ (((port_event run k).pc ≡ (now start (f.history k)).pc) × ((port_event run k).word ≡ word))
