-- The equations of the pipeline that are one operator or two. In equations over numbers; bits are 0 and 1.
use Rattle.std.specs.Prelude.{ℕ, eqb, List, [], ◌∷◌, bit_and, bit_or}
use Rattle.core_words.specs.Values.{one_if, choose, not_of}

-- 1 where some of several bits is 1
unfoldable pub any_of : List ℕ → ℕ
any_of [] = 0
any_of (x ∷ xs) = bit_or x (any_of xs)

-- a register of the item in front: that of the item that is offered where one may enter
unfoldable pub slot_after_of : (enters fresh kept : ℕ) → ℕ
slot_after_of enters fresh kept = choose enters fresh kept

-- 1 where the item that is offered is executed by this entry
unfoldable pub fresh_chosen_of : (unit entry except : ℕ) → ℕ
fresh_chosen_of unit entry except = bit_and (one_if (eqb unit entry)) (not_of 1 except)

-- 1 where words that were read before a FENCE.I must go
unfoldable pub fetch_fence_of : (kill flush_fence : ℕ) → ℕ
fetch_fence_of kill flush_fence = bit_and kill flush_fence

-- 1 where the item in front will write its register, if it retires
unfoldable pub front_writes_of : (valid writes : ℕ) → ℕ
front_writes_of valid writes = bit_and valid writes

-- 1 where a register is written: never in a cycle with `reset`
unfoldable pub we_of : (reset writes : ℕ) → ℕ
we_of reset writes = bit_and (not_of 1 reset) writes
