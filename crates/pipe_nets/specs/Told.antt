-- What an event tells. In equations over numbers; bits are 0 and 1.
use Rattle.std.specs.Prelude.{ℕ, bit_and}
use Rattle.core_words.specs.Values.{choose, bits_of, join_of, not_of}

-- the kind of an event where there is System: interrupt (2), trap (1), retirement (0)
unfoldable pub kind_of : (asked faulty : ℕ) → ℕ
kind_of asked faulty = join_of 1 asked (bit_and faulty (not_of 1 asked))

-- the same without System: a trap (3), a retirement (0)
unfoldable pub kind_alone_of : (asked faulty : ℕ) → ℕ
kind_alone_of asked faulty = join_of 1 (bit_and faulty (not_of 1 asked)) (bit_and faulty (not_of 1 asked))

-- the word of an event, 0 in an interrupt
unfoldable pub told_word_of : (asked word : ℕ) → ℕ
told_word_of asked word = choose asked 0 word

-- 1 where an event tells of a register that is written
unfoldable pub tells_of : (wins asked : ℕ) → ℕ
tells_of wins asked = bit_and wins (not_of 1 asked)

-- the register of an event, 0 where none is written
unfoldable pub told_rd_of : (tells word : ℕ) → ℕ
told_rd_of tells word = choose tells (bits_of word 11 7) 0

-- the value of an event, 0 where no register is written
unfoldable pub told_value_of : (tells value : ℕ) → ℕ
told_value_of tells value = choose tells value 0

-- the cause of an event, 0 in a retirement
unfoldable pub told_cause_of : (asked irq_cause faulty cause : ℕ) → ℕ
told_cause_of asked irq_cause faulty cause = choose asked irq_cause (choose faulty cause 0)

-- the cause that System takes
unfoldable pub sys_cause_of : (asked irq_cause cause : ℕ) → ℕ
sys_cause_of asked irq_cause cause = choose asked irq_cause cause

-- what System takes for mtval
unfoldable pub sys_value_of : (asked value : ℕ) → ℕ
sys_value_of asked value = choose asked 0 value
