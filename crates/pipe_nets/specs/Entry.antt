-- The item that is offered, as it enters. In equations over numbers; bits are 0 and 1.
use Rattle.std.specs.Prelude.{ℕ, eqb, bit_and, bit_or}
use Rattle.core_words.specs.Values.{one_if, choose, not_of}

-- 1 where a row is ECALL or EBREAK
unfoldable pub is_call_of : (row : ℕ) → ℕ
is_call_of row = bit_or (one_if (eqb row 38)) (one_if (eqb row 39))

-- 1 where no unit executes the item that is offered
unfoldable pub fresh_except_of : (error legal row : ℕ) → ℕ
fresh_except_of error legal row = bit_or error (bit_or (not_of 1 legal) (is_call_of row))

-- 1 where the item that is offered writes its register, if it retires
unfoldable pub fresh_writes_of : (writes legal error : ℕ) → ℕ
fresh_writes_of writes legal error = bit_and writes (bit_and legal (not_of 1 error))

-- the word of the item that is offered, 0 where it could not be read
unfoldable pub fresh_word_of : (error word : ℕ) → ℕ
fresh_word_of error word = choose error 0 word

-- 1 where the item that is offered is taken
unfoldable pub takes_of : (offered enters hold kill stopped : ℕ) → ℕ
takes_of offered enters hold kill stopped = bit_and (bit_and offered enters) (bit_and (not_of 1 hold) (bit_and (not_of 1 kill) (not_of 1 stopped)))
