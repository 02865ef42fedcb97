-- The next values of the pipeline's registers. In equations over numbers; bits are 0 and 1.
use Rattle.std.specs.Prelude.{ℕ, bit_and, bit_or}
use Rattle.core_words.specs.Values.{choose, not_of}

-- 1 where there is an event
unfoldable pub event_of : (ends irq : ℕ) → ℕ
event_of ends irq = bit_or ends irq

-- the pc of the next instruction moves at each event: to the handler, or to where the instruction says
unfoldable pub pc_after_of : (event asked faulty base next_pc apc : ℕ) → ℕ
pc_after_of event asked faulty base next_pc apc = choose event (choose (bit_or asked faulty) base next_pc) apc

-- 1 where a FENCE.I retires
unfoldable pub fences_of : (retires fence : ℕ) → ℕ
fences_of retires fence = bit_and retires fence

-- an interrupt, a trap and a FENCE.I flush
unfoldable pub flush_after_of : (irq traps fences : ℕ) → ℕ
flush_after_of irq traps fences = bit_or irq (bit_or traps fences)

-- the item in front has begun, and does not end
unfoldable pub started_after_of : (run ends : ℕ) → ℕ
started_after_of run ends = bit_and run (not_of 1 ends)

-- a core without System stops at its first trap
unfoldable pub stopped_after_of : (stopped traps : ℕ) → ℕ
stopped_after_of stopped traps = bit_or stopped traps

-- there is an item in front
unfoldable pub valid_after_of : (kill irq takes enters : ℕ) → ℕ
valid_after_of kill irq takes enters = bit_and (not_of 1 (bit_or kill irq)) (bit_or takes (not_of 1 enters))
