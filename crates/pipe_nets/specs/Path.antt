-- What is on the path of the program: the nets that say whether the item in front may execute. In equations over numbers; bits are 0 and 1.
use Rattle.std.specs.Prelude.{ℕ, eqb, bit_and, bit_or}
use Rattle.core_words.specs.Values.{one_if, choose, not_of}

-- 1 where a pc is not that of the next instruction
unfoldable pub wrong_of : (pc apc : ℕ) → ℕ
wrong_of pc apc = not_of 1 (one_if (eqb pc apc))

-- 1 where what has been fetched must go
unfoldable pub kill_of : (flush valid pc offered offered_pc apc : ℕ) → ℕ
kill_of flush valid pc offered offered_pc apc = bit_or flush (choose valid (wrong_of pc apc) (bit_and offered (wrong_of offered_pc apc)))

-- 1 where an interrupt comes before the item in front
unfoldable pub asked_of : (take_irq started : ℕ) → ℕ
asked_of take_irq started = bit_and take_irq (not_of 1 started)

-- 1 where an interrupt is taken; asked: one comes before the item in front
unfoldable pub irq_of : (asked kill : ℕ) → ℕ
irq_of asked kill = bit_and asked (not_of 1 kill)

-- 1 where the item in front executes
unfoldable pub run_of : (valid started flush pc apc take_irq : ℕ) → ℕ
run_of valid started flush pc apc take_irq = bit_and valid (bit_or started (not_of 1 (bit_or flush (bit_or (wrong_of pc apc) take_irq))))
