-- Causes and values of traps. In equations over numbers; bits are 0 and 1.
use Rattle.std.specs.Prelude.{ℕ}
use Rattle.core_words.specs.Values.{choose, bits_of}

-- the causes of the traps that the pipeline makes itself: access fault of the fetch, illegal instruction, EBREAK and ECALL (RISC-V Privileged
-- 20190608, 3.1.15)
unfoldable pub except_cause_of : (error legal word : ℕ) → ℕ
except_cause_of error legal word = choose error 1 (choose legal (choose (bits_of word 20 20) 3 11) 2)

-- what mtval takes in such a trap (3.1.16)
unfoldable pub except_value_of : (error legal pc word : ℕ) → ℕ
except_value_of error legal pc word = choose error pc (choose legal 0 word)

-- cause or mtval of a trap: the pipeline's own, or the unit's
unfoldable pub of_trap : (except own unit : ℕ) → ℕ
of_trap except own unit = choose except own unit
